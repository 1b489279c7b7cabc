-- What is asked of the modulus of a session, and the limit of noise and the digits that follow from it.
use Rattle.std.specs.Int.{div_ceil}
use Rattle.std.specs.Prelude.{ℕ, zero, suc, ◌+◌, ◌-◌, ◌*◌, ◌/◌, ◌%◌, ◌^◌, Bool, true, not, nat_eq, nat_le, ◌&&◌, if◌then◌else◌}

-- none of 2, 3, .., k + 1 divides q, so q has no common divisor above 1 with any of them
unfoldable pub indivisible : ℕ → ℕ → Bool
indivisible q zero = true
indivisible q (suc k) = indivisible q k && not (nat_eq (q % (k + 2)) 0)

-- the greatest size of noise under which decryption modulo t gives the plaintext
abbrev pub noise_limit : ℕ → ℕ → ℕ
noise_limit q t = (q - 1 - 2 * (q % t) * (t - 1)) / (2 * t)

-- the greatest k up to a bound with 2^(k-1) ≤ q; 0 where there is none
unfoldable pub digits_up_to : ℕ → ℕ → ℕ
digits_up_to q zero = 0
digits_up_to q (suc k) = if nat_le (2 ^ k) q then k + 1 else digits_up_to q k

-- how many binary digits a number below 2^64 has: the k with 2^(k-1) ≤ q < 2^k
unfoldable pub binary_digits : ℕ → ℕ
binary_digits q = digits_up_to q 64

-- l, how many digits of so many bits a residue modulo q takes
abbrev pub digit_rows : ℕ → ℕ → ℕ
digit_rows q digit_bits = div_ceil (binary_digits q) digit_bits
