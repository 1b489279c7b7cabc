-- The nearest whole number to t * x / q, from the quotient s and the rest y.
use Rattle.std.proofs.Common.{◌≡◌, ℕ, ◌+◌, ◌-◌, ◌*◌, ◌/◌, ◌%◌, ◌<◌, ◌≤◌, sym, ◌∙◌, ap, arith}
use Rattle.std.proofs.Math.Nat.{div-add-mod, mul-le-mul_left}
use Rattle.std.proofs.lemmas.Nat.{div-mul-add, div_below, mod_below}

-- a rest of at least one half counts as one more
pub raised : (q t x s y : ℕ) → 0 < q → s ≡ t * x / q → y ≡ t * x % q → q ≤ 2 * y → s + 1 ≡ (2 * t * x + q) / (2 * q)
raised q t x s y some is rest high =
    let below = mod_below (t * x) q some in
    let m = ap (λ z. z * q) is in
    let whole : (s + 1) * (2 * q) + (2 * y - q) ≡ 2 * t * x + q = omega (arith, div-add-mod (t * x) q, m, rest, high) in
    sym (div-mul-add (s + 1) (2 * q) (2 * y - q) (omega (arith, below, rest, high))) ∙ ap (λ z. z / (2 * q)) whole

-- one more is at most t
pub raised_within : (q t x s : ℕ) → 0 < t → x < q → s ≡ t * x / q → s + 1 ≤ t
raised_within q t x s some low is =
    let m : t * (x + 1) ≤ t * q = mul-le-mul_left t (omega arith) in
    let b = div_below (t * x) q t (omega arith) (omega (arith, m, some)) in
    omega (arith, is, b)
