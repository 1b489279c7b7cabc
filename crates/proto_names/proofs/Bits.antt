-- Sets of parties as sums of powers of two.
use Rattle.std.proofs.Common.{◌≡◌, ℕ, zero, suc, ◌+◌, ◌-◌, ◌^◌, ◌<◌, ◌≤◌, List, [], ◌∷◌, ◌++◌, length, take, inl, inr, refl, sym, ap, ◌∙◌, arith}
use Rattle.std.proofs.lemmas.Bool.{cases_lt}
use Rattle.std.proofs.lemmas.List.{append-nil, take_all}
use Rattle.share_spec.specs.Sets.{members_to, members}
use Rattle.proto_names.specs.Groups.{set_of, least_of}
use Rattle.proto_names.proofs.Members.{Chosen, has_above, has_new, has_old, members_same, members_more, members_none, members_all, double}

-- one party more at the end
set_of-more : (ps : List ℕ) (p : ℕ) → set_of (ps ++ p ∷ []) ≡ set_of ps + 2 ^ (p - 1)
unfolding set_of
set_of-more [] p = omega arith
set_of-more (x ∷ ps) p = ap (λ (z : ℕ). 2 ^ (x - 1) + z) (set_of-more ps p) ∙ omega arith

set_of-none : set_of [] ≡ 0
unfolding set_of
set_of-none = refl

-- a set is the set of its members
pub set_of-members : (n bits : ℕ) → bits < 2 ^ n → n ≤ 32 → set_of (members_to n bits) ≡ bits
set_of-members zero bits h l = rw (members_none bits, set_of-none) (omega arith)
set_of-members (suc n) bits h l =
    let e : suc n ≡ n + 1 = omega arith in
    let top : n + 1 - 1 ≡ n = omega arith in
    rw e (elim (cases_lt bits (2 ^ n)) [
      | inl less ↦ rw (members_more bits n, has_above bits n less, append-nil (members_to n bits)) (set_of-members n bits less (omega arith))
      | inr more ↦
          let rest = bits - 2 ^ n in
          let within : bits < 2 ^ (n + 1) = rw e at h in
          let small : rest < 2 ^ n = omega (arith, double n) in
          let whole : bits ≡ 2 ^ n + rest = omega arith in
          let same : members_to n (2 ^ n + rest) ≡ members_to n rest = members_same (2 ^ n + rest) rest n n (omega arith) (λ p h. has_old rest n p h) in
          rw (whole, members_more (2 ^ n + rest) n, has_new rest n small (omega arith), same, set_of-more (members_to n rest) (n + 1), set_of-members n rest small (omega arith), top) (omega arith)
    ])

-- the least members that were chosen among all 32 parties
pub Chosen-least : (set k bits taken : ℕ) → Chosen set k bits taken 32 → bits ≡ least_of k set
unfolding least_of
Chosen-least set k bits taken c =
    sym (set_of-members 32 bits c.small (omega arith)) ∙ ap set_of (c.chosen ∙ ap (take k) (sym (members_all set)))

-- a set with no more than k members has no others than its k least
pub least_of-all : (k bits : ℕ) → bits < 2 ^ 32 → length (members bits) ≤ k → bits ≡ least_of k bits
unfolding least_of
least_of-all k bits h l =
    sym (ap set_of (take_all k (members bits) l) ∙ ap set_of (members_all bits) ∙ set_of-members 32 bits h (omega arith))
