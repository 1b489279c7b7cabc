-- The digits of a residue, of either kind.
use Rattle.std.proofs.Common.{◌≡◌, ℕ, zero, suc, ◌+◌, ◌*◌, ◌%◌, ◌^◌, ◌≤◌, ◌<◌, ap, ◌∙◌, inl, inr, arith}
use Rattle.std.specs.Prelude.{Bool, true, false, cond, ℤ, pos, ◌-ℤ◌, unsigned_abs, nat_lt}
use Rattle.std.proofs.lemmas.Bool.{cases_lt, cond-true, cond-false, lt-ltb, le-ltb}
use Rattle.std.proofs.lemmas.Nat.{mod-mul-add}
use Rattle.ring_spec.specs.Ring.{total, centre}
use Rattle.gadget_spec.specs.Digits.{Serves, weight, widest, digit}
use Rattle.gadget_laws.specs.Digits.{weighted, DigitsMakeUp, DigitsAreSmall}
use Rattle.gadget_laws.proofs.BaseDigits.{base_sum, base_digit_below}
use Rattle.gadget_laws.proofs.BalancedDigits.{balanced_sum, balanced_digit_within}
use borrow.Author.Differences.{ints}

-- a centre is at most half of q in absolute value
pub centre_half : (q x : ℕ) → x < q → 2 * unsigned_abs (centre q x) ≤ q
unfolding centre
centre_half q x h = elim (cases_lt (2 * x) q) [
  | inl l ↦ rw (cond-true (nat_lt (2 * x) q) (pos x) (pos x -ℤ pos q) (lt-ltb (2 * x) q l)) (omega arith)
  | inr l ↦ rw (cond-false (nat_lt (2 * x) q) (pos x) (pos x -ℤ pos q) (le-ltb (2 * x) q l)) (omega (arith, ints))
]

pub digits_make_up : DigitsMakeUp
unfolding digit weight total
digits_make_up q g x serves below = of_kind g.balanced g.bits g.rows serves
  where
    nothing : (z : ℤ) → 2 * unsigned_abs z ≤ 1 → pos 0 ≡ z
    nothing z h = omega (arith, ints)

    of_kind : (balanced : Bool) (b l : ℕ) → Serves q (record { bits = b; rows = l; balanced = balanced }) →
        total l (weighted q (record { bits = b; rows = l; balanced = balanced }) x) ≡ cond balanced (centre q x) (pos x)
    of_kind false b l s =
        let e : x ≡ 0 * 2 ^ (b * l) + x = omega arith in
        base_sum b l x ∙ ap pos (ap (λ (y : ℕ). y % 2 ^ (b * l)) e ∙ mod-mul-add 0 (2 ^ (b * l)) x (omega (arith, s.rows)))
    of_kind true b zero s =
        let e : 2 ^ (b * 0) ≡ 1 = ap (λ (y : ℕ). 2 ^ y) (let e' : b * 0 ≡ 0 = omega arith in e') in
        nothing (centre q x) (omega (arith, centre_half q x below, s.rows))
    of_kind true b (suc l) s = balanced_sum b (suc l) (centre q x) (omega arith)

pub digits_are_small : DigitsAreSmall
unfolding digit widest
digits_are_small q g x i serves below l = of_kind g.balanced g.bits g.rows serves l
  where
    of_kind : (balanced : Bool) (b l : ℕ) → Serves q (record { bits = b; rows = l; balanced = balanced }) → i < l →
        unsigned_abs (digit q (record { bits = b; rows = l; balanced = balanced }) i x) ≤ widest (record { bits = b; rows = l; balanced = balanced })
    of_kind false b l s r = base_digit_below b i x
    of_kind true b l s r = balanced_digit_within b l i (centre q x) s.bits (omega (arith, centre_half q x below, s.rows)) r
