-- Balanced digits by shifts: they are digits in base 2^b of the number raised by halves, each less 2^(b-1).
use Rattle.std.specs.Prelude.{◌≡◌, ℕ, zero, suc, ◌+◌, ◌-◌, ◌*◌, ◌/◌, ◌%◌, ◌^◌, ◌<◌, ◌≤◌, cond, nat_eq, ℤ, pos, ◌+ℤ◌, ◌-ℤ◌, unsigned_abs}
use Rattle.gadget_spec.specs.Digits.{balanced_digit}

-- 2^(b-1) in each of l digits: the sum of 2^(b*j) * 2^(b-1) over the j below l
unfoldable pub halves : ℕ → ℕ → ℕ
halves b zero = 0
halves b (suc l) = halves b l + 2 ^ (b * l) * 2 ^ (b - 1)

-- with y for z and the halves, digit i is that of y in base 2^b, and in the last row all that is left of y, less 2^(b-1)
abbrev pub BalancedDigitsAreShifted : Type 0
BalancedDigitsAreShifted =
    (b l i y : ℕ) (z : ℤ) → i < l → pos y ≡ z +ℤ pos (halves b l)
    → balanced_digit b l i z ≡ pos (cond (nat_eq (i + 1) l) (y / 2 ^ (b * i)) (y / 2 ^ (b * i) % 2 ^ b)) -ℤ pos (2 ^ (b - 1))

-- there is such a y for every number of which the digits are small
abbrev pub HalvesAreEnough : Type 0
HalvesAreEnough = (b l : ℕ) (z : ℤ) → 0 < b → 0 < l → 2 * unsigned_abs z ≤ 2 ^ (b * l) → unsigned_abs z ≤ halves b l
