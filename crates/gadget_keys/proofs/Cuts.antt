-- Digits by shifts and masks.
use Rattle.std.proofs.Common.{◌≡◌, ℕ, ◌+◌, ◌-◌, ◌*◌, ◌/◌, ◌%◌, ◌^◌, ◌≤◌, ◌<◌, sym, ap, ◌∙◌, arith}
use Rattle.std.specs.Prelude.{pos, ◌+ℤ◌, ◌-ℤ◌, unsigned_abs, nat_eq, cond}
use Rattle.std.specs.Int.Bits.{bit_and}
use Rattle.std.proofs.lemmas.Nat.{and_mask}
use Rattle.std.proofs.Math.Nat.{mod-eq_of_lt, pow-le-pow_right}
use Rattle.ring_spec.specs.Ring.{residue, centre}
use Rattle.gadget_spec.specs.Digits.{base_digit, balanced_digit}
use Rattle.gadget_laws.specs.Shifted.{halves}
use Rattle.gadget_laws.proofs.Shifts.{balanced_digits_are_shifted}
use Rattle.gadget_laws.proofs.BalancedDigits.{balanced_digit_within, half_power}
use Rattle.gadget_laws.proofs.Digits.{centre_half}
use borrow.Author.Differences.{ints}

-- a digit in base 2^b is no greater than its number, so it is its own residue
pub plain_digit_is : (q b i x : ℕ) → x < q → x / 2 ^ (b * i) % 2 ^ b ≡ residue q (pos (base_digit b i x))
unfolding base_digit residue
plain_digit_is q b i x h =
    let first : x / 2 ^ (b * i) ≤ x = omega arith in
    let less : x / 2 ^ (b * i) % 2 ^ b ≤ x / 2 ^ (b * i) = omega arith in
    sym (mod-eq_of_lt (omega (arith, first, less)))

-- a balanced digit by the number raised
pub raised_digit_is : (q b l i x y d : ℕ) → i < l → pos y ≡ centre q x +ℤ pos (halves b l) →
    d ≡ cond (nat_eq (i + 1) l) (y / 2 ^ (b * i)) (y / 2 ^ (b * i) % 2 ^ b) →
    pos d -ℤ pos (2 ^ (b - 1)) ≡ balanced_digit b l i (centre q x)
raised_digit_is q b l i x y d h e is =
    ap (λ (z : ℕ). pos z -ℤ pos (2 ^ (b - 1))) is ∙ sym (balanced_digits_are_shifted b l i y (centre q x) h e)

-- which is at most 2^b
pub raised_digit_small : (q b l i x d : ℕ) → 1 ≤ b → x < q → q < 2 ^ (b * l) → i < l →
    pos d -ℤ pos (2 ^ (b - 1)) ≡ balanced_digit b l i (centre q x) → d ≤ 2 ^ b
raised_digit_small q b l i x d h below rows within e =
    let half = centre_half q x below in
    let few : unsigned_abs (balanced_digit b l i (centre q x)) ≤ 2 ^ (b - 1) =
    balanced_digit_within b l i (centre q x) h (omega (arith, half, rows)) within in
    let few' : unsigned_abs (pos d -ℤ pos (2 ^ (b - 1))) ≤ 2 ^ (b - 1) = rw e few in
    omega (arith, ints, few', half_power b h)

-- a mask of b bits, made by a shift
pub mask_is : (w b x : ℕ) → 2 ^ 16 < w → b ≤ 16 → bit_and x (1 * 2 ^ b % w - 1) ≡ x % 2 ^ b
mask_is w b x wide few =
    let most : 2 ^ b ≤ 2 ^ 16 = pow-le-pow_right (omega arith) few in
    let small : 1 * 2 ^ b < w = omega (arith, most, wide) in
    let e : 1 * 2 ^ b % w ≡ 2 ^ b = mod-eq_of_lt small ∙ omega arith in
    ap (λ (y : ℕ). bit_and x (y - 1)) e ∙ and_mask x b
