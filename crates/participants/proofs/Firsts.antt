-- The party of a set that comes first.
use Rattle.std.proofs.Common.{◌≡◌, refl, ℕ, zero, suc, ◌+◌, ◌<◌, ◌≤◌, ◌≢◌, true, false, nat_le, inl, inr, List, [], ◌∷◌, ◌++◌, Option, None, Some, arith}
use Rattle.std.proofs.lemmas.Bool.{cases_Bool, cases_eq, cases_lt, both_ways, false_from_ne_true, leb-true, le-leb}
use Rattle.share_spec.specs.Sets.{has, members_to, members}
use Rattle.proto_names.proofs.Members.{members_more, members_none, members_all}
use Rattle.participants.specs.Loads.{load_in, earlier, first_from, first_of}
use Rattle.participants.specs.Laws.{ComesBefore}
use Rattle.participants.proofs.Parties.{has_party}

first_append : (loads : List ℕ) (first : Option ℕ) (xs ys : List ℕ) → first_from loads first (xs ++ ys) ≡ first_from loads (first_from loads first xs) ys
unfolding first_from
first_append loads first [] ys = refl
first_append loads first (p ∷ xs) ys = first_append loads (earlier loads first p) xs ys

-- one more party of the set, and one that isn't of it
pub first_takes : (loads : List ℕ) (set n : ℕ) → has set (n + 1) ≡ true → first_of loads (members_to (n + 1) set) ≡ earlier loads (first_of loads (members_to n set)) (n + 1)
unfolding first_from
first_takes loads set n h = rw (members_more set n, h) (first_append loads None (members_to n set) ((n + 1) ∷ []))

pub first_leaves : (loads : List ℕ) (set n : ℕ) → has set (n + 1) ≡ false → first_of loads (members_to (n + 1) set) ≡ first_of loads (members_to n set)
unfolding first_from
first_leaves loads set n h = rw (members_more set n, h) (first_append loads None (members_to n set) [])

pub first_none : (loads : List ℕ) (set : ℕ) → first_of loads (members_to 0 set) ≡ None
unfolding first_from
first_none loads set = rw (members_none set) refl

-- which of two it is
pub earlier_keeps : (loads : List ℕ) (p q : ℕ) → load_in loads p ≤ load_in loads q → earlier loads (Some p) q ≡ Some p
unfolding earlier
earlier_keeps loads p q l = rw (le-leb (load_in loads p) (load_in loads q) l) refl

pub earlier_turns : (loads : List ℕ) (p q : ℕ) → load_in loads q < load_in loads p → earlier loads (Some p) q ≡ Some q
unfolding earlier
earlier_turns loads p q l = rw (false_from_ne_true (nat_le (load_in loads p) (load_in loads q)) (λ h. let e = leb-true (load_in loads p) (load_in loads q) h in absurd (omega arith))) refl

pub earlier_alone : (loads : List ℕ) (q : ℕ) → earlier loads None q ≡ Some q
unfolding earlier
earlier_alone loads q = refl

-- a member that comes before all others up to n
pub record IsFirst (loads : List ℕ) (set p n : ℕ) : Type 0 where
  pub member : has set p ≡ true
  pub within : p ≤ n
  pub before : (q : ℕ) → q ≤ n → has set q ≡ true → q ≢ p → ComesBefore loads p q

-- and nobody where there is no member
abbrev pub First : List ℕ → ℕ → ℕ → Option ℕ → Type 0
First loads set n None = (q : ℕ) → q ≤ n → has set q ≡ false
First loads set n (Some p) = IsFirst loads set p n

comes_behind : (loads : List ℕ) (p q r : ℕ) → load_in loads q < load_in loads p → ComesBefore loads p r → ComesBefore loads q r
comes_behind loads p q r less (inl lower) = inl (omega arith)
comes_behind loads p q r less (inr same) = let e = same.0 in inl (omega arith)

takes : (loads : List ℕ) (set n : ℕ) (first : Option ℕ) → has set (n + 1) ≡ true → First loads set n first → First loads set (n + 1) (earlier loads first (n + 1))
takes loads set n None h f =
    rw (earlier_alone loads (n + 1)) (record {
      member = h;
      within = omega arith;
      before = λ q l m other. absurd (both_ways (has set q) (f q (omega arith)) m);
    })
takes loads set n (Some p) h f =
    let w = f.within in
    elim (cases_lt (load_in loads (n + 1)) (load_in loads p)) [
      | inl less ↦ rw (earlier_turns loads p (n + 1) less) (record {
        member = h;
        within = omega arith;
        before = λ q l m other. elim (cases_eq q p) [
          | inl same ↦ rw same (inl less)
          | inr another ↦ comes_behind loads p (n + 1) q less (f.before q (omega arith) m another)
        ];
      })
      | inr more ↦ rw (earlier_keeps loads p (n + 1) (omega arith)) (record {
        member = f.member;
        within = omega arith;
        before = λ q l m other. elim (cases_eq q (n + 1)) [
          | inl same ↦ rw same (elim (cases_eq (load_in loads p) (load_in loads (n + 1))) [
            | inl tie ↦ inr (tie, omega arith)
            | inr apart ↦ inl (omega arith)
          ])
          | inr old ↦ f.before q (omega arith) m other
        ];
      })
    ]

leaves : (loads : List ℕ) (set n : ℕ) (first : Option ℕ) → has set (n + 1) ≡ false → First loads set n first → First loads set (n + 1) first
leaves loads set n None h f = λ q l. elim (cases_eq q (n + 1)) [
  | inl same ↦ rw same h
  | inr old ↦ f q (omega arith)
]
leaves loads set n (Some p) h f =
    let w = f.within in
    record {
      member = f.member;
      within = omega arith;
      before = λ q l m other. elim (cases_eq q (n + 1)) [
        | inl same ↦ absurd (both_ways (has set q) (rw same h) m)
        | inr old ↦ f.before q (omega arith) m other
      ];
    }

first_to : (loads : List ℕ) (set n : ℕ) → First loads set n (first_of loads (members_to n set))
first_to loads set zero =
    rw (first_none loads set) (λ q l. false_from_ne_true (has set q) (λ h. let range = has_party set q h in let f = range.0 in absurd (omega arith)))
first_to loads set (suc n) =
    let e : suc n ≡ n + 1 = omega arith in
    rw e (elim (cases_Bool (has set (n + 1))) [
      | inl h ↦ rw (first_takes loads set n h) (takes loads set n (first_of loads (members_to n set)) h (first_to loads set n))
      | inr h ↦ rw (first_leaves loads set n h) (leaves loads set n (first_of loads (members_to n set)) h (first_to loads set n))
    ])

-- of all 32 parties
pub first_is : (loads : List ℕ) (set : ℕ) → First loads set 32 (first_of loads (members set))
first_is loads set = rw (members_all set) (first_to loads set 32)

pub ruleset one_by_one = (first_takes, first_leaves, first_none, members_all)
