-- Sets of parties, and two of them compared.
use Rattle.std.proofs.Common.{◌≡◌, ◌∙◌, sym, ap, refl, ℕ, ◌-◌, ◌^◌, ◌<◌, ◌≤◌, true, false, not, inl, inr, Contains, None, w32, arith}
use Rattle.std.specs.List.{range_with_len}
use Rattle.std.specs.Int.{bit_not}
use Rattle.std.proofs.lemmas.Bool.{and_cases, cases_Bool, both_ways, not-false}
use Rattle.std.proofs.lemmas.Nat.{and_le_l}
use Rattle.std.proofs.lemmas.List.Elements.{filter_agree}
use Rattle.std.proofs.lemmas.List.Sums.{length-filter}
use Rattle.share_spec.specs.Sets.{has, members_to, members, count}
use Rattle.proto_names.specs.Groups.{without_party, set_of, is_outside, first_outside, number_outside}
use Rattle.proto_names.proofs.Bits.{set_of-members}
use Rattle.participants.proofs.Parties.{truth}
pub use Rattle.participants.proofs.Parties.{has_party, has_nobody, with_keeps, with_has, with_cases, with_small, without_keeps}
use Rattle.session_rules.proofs.Contained.{contains_range, find_none, count_zero, count_same}

pub without_small : (set p : ℕ) → set < 2 ^ 32 → without_party set p < 2 ^ 32
unfolding without_party
without_small set p small = omega (arith, and_le_l set (bit_not w32 (2 ^ (p - 1))))

-- ---- two sets

party_within : (p : ℕ) → 1 ≤ p → p ≤ 32 → Contains (range_with_len 1 32) p
party_within p first last = contains_range 1 32 p first (omega arith)

inside : (set other p : ℕ) → is_outside set other p ≡ false → has set p ≡ true → has other p ≡ true
unfolding is_outside
inside set other p e h = elim (and_cases (has set p) (not (has other p)) e) [
  | inl no_member ↦ absurd (both_ways (has set p) no_member h)
  | inr kept ↦ not-false (has other p) kept
]

-- where nobody of a set is outside another, all are in the other
pub none_outside : (set other p : ℕ) → first_outside set other ≡ None → has set p ≡ true → has other p ≡ true
unfolding first_outside
none_outside set other p e h =
    let range = has_party set p h in
    inside set other p (find_none (is_outside set other) (range_with_len 1 32) p e (party_within p range.0 range.1)) h

pub nobody_outside : (set other p : ℕ) → number_outside set other ≡ 0 → has set p ≡ true → has other p ≡ true
unfolding number_outside
nobody_outside set other p e h =
    let range = has_party set p h in
    inside set other p (count_zero (is_outside set other) (range_with_len 1 32) p e (party_within p range.0 range.1)) h

outside_none : (set p : ℕ) → is_outside set 0 p ≡ has set p
unfolding is_outside
outside_none set p = rw (has_nobody p) (elim (cases_Bool (has set p)) [
  | inl e ↦ rw e refl
  | inr e ↦ rw e refl
])

-- all of a set are outside the empty one
pub outside_nobody : (set : ℕ) → number_outside set 0 ≡ count set
unfolding number_outside members members_to
outside_nobody set = count_same (is_outside set 0) (has set) (range_with_len 1 32) (outside_none set) ∙ sym (length-filter (has set) (range_with_len 1 32))

-- two sets with the same members are the same
pub same_sets : (a b : ℕ) → a < 2 ^ 32 → b < 2 ^ 32 → ((p : ℕ) → has a p ≡ true → has b p ≡ true) → ((p : ℕ) → has b p ≡ true → has a p ≡ true) → a ≡ b
unfolding members_to
same_sets a b l m h g =
    sym (set_of-members 32 a l (omega arith)) ∙ ap set_of (filter_agree (has a) (has b) (λ p. truth (has a p) (has b p) (h p) (g p)) (range_with_len 1 32)) ∙ set_of-members 32 b m (omega arith)
