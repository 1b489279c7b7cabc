-- A number that is scaled by its quotient and its rest.
use Rattle.std.proofs.Common.{◌≡◌, ℕ, ◌+◌, ◌-◌, ◌*◌, ◌/◌, ◌≤◌, ◌<◌, sym, ap, ◌∙◌, arith}
use Rattle.std.proofs.Math.Nat.{mul-add-div, div-mul-le_self}

-- t*a/q to the nearest, from both
pub apart : (t q a : ℕ) → 0 < q → t * (a / q) + (2 * t * (a - a / q * q) + q) / (2 * q) ≡ (2 * t * a + q) / (2 * q)
apart t q a h =
    let over : a / q * q ≤ a = div-mul-le_self a q in
    let whole : a / q * q + (a - a / q * q) ≡ a = omega (arith, over) in
    let two : 0 < 2 * q = omega arith in
    let split : 2 * t * a + q ≡ 2 * q * (t * (a / q)) + (2 * t * (a - a / q * q) + q) = omega (arith, ap (λ (x : ℕ). t * x) whole) in
    sym (ap (λ (x : ℕ). x / (2 * q)) split ∙ mul-add-div two (t * (a / q)) (2 * t * (a - a / q * q) + q))
