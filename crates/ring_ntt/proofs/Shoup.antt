-- Multiples of w modulo q by a precomputed quotient, where no division is left.
use Rattle.std.proofs.Common.{◌≡◌, ℕ, ◌+◌, ◌-◌, ◌*◌, ◌/◌, ◌%◌, ◌^◌, ◌<◌, ◌≤◌, arith}
use Rattle.std.proofs.Math.Nat.{div-add-mod, mul-le-mul_left, mul-le-mul_right}
use Rattle.std.proofs.lemmas.Nat.{mod_below}
use Rattle.ring_ntt.proofs.Congruence.{shift_same}

pub shoup : (q w s x h : ℕ) → 0 < q → s ≡ w * 2 ^ 64 / q → x < 2 ^ 64 → h ≡ s * x / 2 ^ 64 → (h * q ≤ w * x) × (w * x < h * q + 2 * q)
shoup q w s x h some is below top =
    let b : ℕ = 2 ^ 64 in
    let d1 = div-add-mod (w * b) q in
    let r1 = mod_below (w * b) q some in
    let e1 : q * s + w * b % q ≡ w * b = rw is d1 in
    let d2 = div-add-mod (s * x) b in
    let low : h * b ≤ s * x = omega (arith, top, d2) in
    let high : s * x + 1 ≤ h * b + b = omega (arith, top, d2) in
    let m1 : h * b * q ≤ s * x * q = mul-le-mul_right q low in
    let m2 : s * q * x ≤ w * b * x = mul-le-mul_right x (omega (arith, e1)) in
    let m3 : w * b * x ≤ (s * q + q) * x = mul-le-mul_right x (omega (arith, e1, r1)) in
    let m4 : (s * x + 1) * q ≤ (h * b + b) * q = mul-le-mul_right q high in
    let m5 : q * (x + 1) ≤ q * b = mul-le-mul_left q (omega arith) in
    (omega (arith, m1, m2), omega (arith, m3, m4, m5))

pub shoup_same : (q w x h : ℕ) → h * q ≤ w * x → (w * x - h * q) % q ≡ w * x % q
shoup_same q w x h l = shift_same q (w * x - h * q) (w * x) h 0 (omega arith)
