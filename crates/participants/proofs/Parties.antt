-- Sets of parties with one more and with one less, and how many they are then.
use Rattle.std.proofs.Common.{◌≡◌, ◌∙◌, sym, ap, refl, ℕ, zero, suc, ◌+◌, ◌-◌, ◌*◌, ◌%◌, ◌^◌, ◌<◌, ◌≤◌, ◌≢◌, max, min, Bool, true, false, not, nat_eq, nat_le, ◌&&◌, ◌⊎◌, inl, inr, length, bit_or, bit_and, w32, arith}
use Rattle.std.specs.Int.{bit_at, bit_not}
use Rattle.std.proofs.lemmas.Bool.{and_parts, and_from, leb-true, le-leb, eqb-true, eq-eqb, cases_eq, cases_lt, both_ways, false_from_ne_true, not-true}
use Rattle.std.proofs.lemmas.Nat.{one_shl, or_of_32}
use Rattle.std.proofs.lemmas.Nat.Bits.{bit_at_or, bit_at-lt, bit_at-pow_other, bit_at-pow_same, bit_at_clear_other, bit_at_clear_same, bit_at-zero, bit_at_and, bit_at_not}
use Rattle.share_spec.specs.Sets.{has, members_to, count}
use Rattle.proto_names.specs.Groups.{with_party, without_party}
use Rattle.proto_names.proofs.Members.{count_more, members_none, members_all, members_same}

pub record Bit (set p : ℕ) : Type 0 where
  pub first : 1 ≤ p
  pub last : p ≤ 32
  pub bit : bit_at set (p - 1) ≡ 1

pub bit_from : (set p : ℕ) → has set p ≡ true → Bit set p
unfolding has
bit_from set p h =
    let both = and_parts (nat_le 1 p && nat_le p 32) (nat_eq (bit_at set (p - 1)) 1) h in
    let range = and_parts (nat_le 1 p) (nat_le p 32) both.0 in
    record { first = leb-true 1 p range.0; last = leb-true p 32 range.1; bit = eqb-true (bit_at set (p - 1)) 1 both.1 }

pub has_from : (set p : ℕ) → Bit set p → has set p ≡ true
unfolding has
has_from set p b = and_from (nat_le 1 p && nat_le p 32) (nat_eq (bit_at set (p - 1)) 1) (and_from (nat_le 1 p) (nat_le p 32) (le-leb 1 p b.first) (le-leb p 32 b.last)) (eq-eqb (bit_at set (p - 1)) 1 b.bit)

-- who is in a set is one of the parties 1 to 32
pub has_party : (set p : ℕ) → has set p ≡ true → (1 ≤ p) × (p ≤ 32)
has_party set p h = let b = bit_from set p h in (b.first, b.last)

pub has_nobody : (p : ℕ) → has 0 p ≡ false
has_nobody p = false_from_ne_true (has 0 p) (λ h. let b = bit_from 0 p h in let z = bit_at-zero (p - 1) in absurd (omega (arith, sym z ∙ b.bit)))

pub truth : (x y : Bool) → (x ≡ true → y ≡ true) → (y ≡ true → x ≡ true) → x ≡ y
truth true y h g = sym (h refl)
truth false true h g = g refl
truth false false h g = refl

-- ---- one more

pub with_keeps : (set p q : ℕ) → has set q ≡ true → has (with_party set p) q ≡ true
unfolding with_party
with_keeps set p q h =
    let b = bit_from set q h in
    has_from (bit_or set (2 ^ (p - 1))) q (record { first = b.first; last = b.last; bit = bit_at_or set (2 ^ (p - 1)) (q - 1) ∙ rw b.bit (grown (bit_at (2 ^ (p - 1)) (q - 1)) (bit_at-lt (2 ^ (p - 1)) (q - 1))) })
  where
    grown : (x : ℕ) → x < 2 → max 1 x ≡ 1
    grown x l = omega arith

pub with_has : (set p : ℕ) → 1 ≤ p → p ≤ 32 → has (with_party set p) p ≡ true
unfolding with_party
with_has set p first last =
    has_from (bit_or set (2 ^ (p - 1))) p (record { first = first; last = last; bit = bit_at_or set (2 ^ (p - 1)) (p - 1) ∙ grown (bit_at set (p - 1)) (bit_at (2 ^ (p - 1)) (p - 1)) (bit_at-lt set (p - 1)) (bit_at-pow_same (p - 1)) })
  where
    grown : (x y : ℕ) → x < 2 → y ≡ 1 → max x y ≡ 1
    grown x y l e = omega arith

pub with_cases : (set p q : ℕ) → 1 ≤ p → has (with_party set p) q ≡ true → (q ≡ p) ⊎ (has set q ≡ true)
unfolding with_party
with_cases set p q first h = elim (cases_eq q p) [
  | inl same ↦ inl same
  | inr other ↦
      let b = bit_from (bit_or set (2 ^ (p - 1))) q h in
      let f = b.first in
      let none : bit_at (2 ^ (p - 1)) (q - 1) ≡ 0 = bit_at-pow_other (p - 1) (q - 1) (λ e. other (omega arith)) in
      let bits : bit_at set (q - 1) ≡ 1 = only (bit_at set (q - 1)) (bit_at (2 ^ (p - 1)) (q - 1)) none (sym (bit_at_or set (2 ^ (p - 1)) (q - 1)) ∙ b.bit) in
      inr (has_from set q (record { first = f; last = b.last; bit = bits }))
]
  where
    only : (x y : ℕ) → y ≡ 0 → max x y ≡ 1 → x ≡ 1
    only x y e h = omega arith

pub with_small : (set p : ℕ) → set < 2 ^ 32 → p ≤ 32 → with_party set p < 2 ^ 32
unfolding with_party
with_small set p small last = or_of_32 set (2 ^ (p - 1)) small (let e = one_shl (p - 1) 32 (omega arith) in omega arith)

-- ---- one less

mask_is : (set p : ℕ) → 1 ≤ p → p ≤ 32 → bit_and set (bit_not w32 (1 * 2 ^ (p - 1) % 2 ^ 32)) ≡ bit_and set (bit_not w32 (2 ^ (p - 1)))
mask_is set p first last = ap (λ (z : ℕ). bit_and set (bit_not w32 z)) (one_shl (p - 1) 32 (omega arith))

other_bit : (set p q : ℕ) → 1 ≤ p → p ≤ 32 → 1 ≤ q → q ≤ 32 → q ≢ p → bit_at (without_party set p) (q - 1) ≡ bit_at set (q - 1)
unfolding without_party
other_bit set p q first last f l other =
    let bit : bit_at (bit_and set (bit_not w32 (1 * 2 ^ (p - 1) % 2 ^ 32))) (q - 1) ≡ bit_at set (q - 1) =
    bit_at_clear_other w32 set (p - 1) (omega arith) (q - 1) (omega arith) (λ e. other (omega arith)) in
    ap (λ (z : ℕ). bit_at z (q - 1)) (sym (mask_is set p first last)) ∙ bit

pub without_keeps : (set p q : ℕ) → 1 ≤ p → p ≤ 32 → q ≢ p → has set q ≡ true → has (without_party set p) q ≡ true
without_keeps set p q first last other h =
    let b = bit_from set q h in
    has_from (without_party set p) q (record { first = b.first; last = b.last; bit = other_bit set p q first last b.first b.last other ∙ b.bit })

pub without_loses : (set p : ℕ) → 1 ≤ p → p ≤ 32 → has (without_party set p) p ≡ false
unfolding without_party
without_loses set p first last =
    false_from_ne_true (has (without_party set p) p) (λ h.
    let b = bit_from (without_party set p) p h in
    let z : bit_at (bit_and set (bit_not w32 (1 * 2 ^ (p - 1) % 2 ^ 32))) (p - 1) ≡ 0 = bit_at_clear_same w32 set (p - 1) (omega arith) in
    let bit = ap (λ (z : ℕ). bit_at z (p - 1)) (mask_is set p first last) in
    absurd (omega (arith, sym b.bit ∙ sym bit ∙ z)))

pub without_from : (set p q : ℕ) → 1 ≤ p → p ≤ 32 → has (without_party set p) q ≡ true → (q ≢ p) × (has set q ≡ true)
without_from set p q first last h =
    let b = bit_from (without_party set p) q h in
    let other : q ≢ p = λ e. both_ways (has (without_party set p) q) (rw e (without_loses set p first last)) h in
    (other, has_from set q (record { first = b.first; last = b.last; bit = sym (other_bit set p q first last b.first b.last other) ∙ b.bit }))

-- ---- how many

-- nobody
pub count_none : (set n : ℕ) → ((p : ℕ) → p ≤ n → has set p ≡ false) → length (members_to n set) ≡ 0
count_none set zero h = ap length (members_none set)
count_none set (suc n) h =
    let e : suc n ≡ n + 1 = omega arith in
    rw (e, count_more set n, count_none set n (λ p l. h p (omega arith)), h (n + 1) (omega arith)) refl

-- all are those of another set and one party more
one_more_to : (a b p n : ℕ) → 1 ≤ p → p ≤ n → ((q : ℕ) → q ≢ p → has b q ≡ has a q) → has a p ≡ false → has b p ≡ true
    → length (members_to n b) ≡ length (members_to n a) + 1
one_more_to a b p zero first last same before after = absurd (omega arith)
one_more_to a b p (suc n) first last same before after =
    let e : suc n ≡ n + 1 = omega arith in
    rw (e, count_more a n, count_more b n) (elim (cases_eq p (n + 1)) [
      | inl here ↦
          let below : length (members_to n b) ≡ length (members_to n a) = ap length (members_same b a n n (omega arith) (λ q l. same q (λ f. absurd (omega arith)))) in
          rw (← here, before, after, below) (omega arith)
      | inr other ↦
          rw (one_more_to a b p n first (omega arith) same before after, same (n + 1) (λ f. other (sym f))) (omega arith)
    ])

pub count_one_more : (a b p : ℕ) → 1 ≤ p → p ≤ 32 → ((q : ℕ) → q ≢ p → has b q ≡ has a q) → has a p ≡ false → has b p ≡ true → count b ≡ count a + 1
count_one_more a b p first last same before after = rw (members_all a, members_all b) (one_more_to a b p 32 first last same before after)

pub count_with : (set p : ℕ) → 1 ≤ p → p ≤ 32 → has set p ≡ false → count (with_party set p) ≡ count set + 1
count_with set p first last none =
    count_one_more set (with_party set p) p first last
    (λ q other. truth (has (with_party set p) q) (has set q) (λ h. elim (with_cases set p q first h) [
      | inl same ↦ absurd (other same)
      | inr old ↦ old
    ]) (with_keeps set p q)) none (with_has set p first last)

pub count_without : (set p : ℕ) → has set p ≡ true → count set ≡ count (without_party set p) + 1
count_without set p h =
    let b = bit_from set p h in
    count_one_more (without_party set p) set p b.first b.last
    (λ q other. truth (has set q) (has (without_party set p) q) (without_keeps set p q b.first b.last other) (λ g. (without_from set p q b.first b.last g).1))
    (without_loses set p b.first b.last) h

-- ---- two sets

-- those of a set who aren't in another
pub outside : (set other p : ℕ) → other < 2 ^ 32 → has (bit_and set (bit_not w32 other)) p ≡ (has set p && not (has other p))
outside set other p small = truth (has (bit_and set (bit_not w32 other)) p) (has set p && not (has other p))
    (λ h.
    let b = bit_from (bit_and set (bit_not w32 other)) p h in
    let f = b.first in let l = b.last in
    let bits : min (bit_at set (p - 1)) (1 - bit_at other (p - 1)) ≡ 1 = rw (← bit_at_not w32 other (p - 1) small (omega arith)) (sym (bit_at_and set (bit_not w32 other) (p - 1)) ∙ b.bit) in
    and_from (has set p) (not (has other p)) (has_from set p (record { first = f; last = l; bit = omega arith }))
    (rw (false_from_ne_true (has other p) (λ g. let o = bit_from other p g in let e = o.bit in absurd (omega arith))) refl))
    (λ h.
    let both = and_parts (has set p) (not (has other p)) h in
    let b = bit_from set p both.0 in
    let f = b.first in let l = b.last in
    let none : bit_at other (p - 1) ≡ 0 = elim (cases_lt (bit_at other (p - 1)) 1) [
      | inl less ↦ omega arith
      | inr one ↦
          let two = bit_at-lt other (p - 1) in
          absurd (both_ways (has other p) (not-true (has other p) both.1) (has_from other p (record { first = f; last = l; bit = omega arith })))
    ] in
    has_from (bit_and set (bit_not w32 other)) p (record {
      first = f;
      last = l;
      bit = bit_at_and set (bit_not w32 other) (p - 1) ∙ rw (bit_at_not w32 other (p - 1) small (omega arith), b.bit, none) refl;
    }))

pub ruleset of_sets = (outside, has_nobody)
