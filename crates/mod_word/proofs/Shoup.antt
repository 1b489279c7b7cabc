-- A multiple of w modulo q by the quotient that was taken before.
use Rattle.std.proofs.Common.{◌≡◌, ℕ, ◌+◌, ◌-◌, ◌*◌, ◌/◌, ◌%◌, ◌^◌, ◌<◌, ◌≤◌, sym, ◌∙◌, ap, arith}
use Rattle.std.proofs.Math.Nat.{div-add-mod, mul-le-mul_left, mul-le-mul_right, add-mul-mod_self_right}
use Rattle.std.proofs.lemmas.Nat.{mod_below, div-mul-add, mod-mul-add}

-- with s the quotient and h the high word of s * x, w * x is from h * q to less than h * q + 2q
pub shoup : (q w s x h : ℕ) → 0 < q → s ≡ w * 2 ^ 64 / q → x < 2 ^ 64 → h ≡ s * x / 2 ^ 64 → (h * q ≤ w * x) × (w * x < h * q + 2 * q)
shoup q w s x h some is below top =
    let b : ℕ = 2 ^ 64 in
    let whole = div-add-mod (w * b) q in
    let rest = mod_below (w * b) q some in
    let split : q * s + w * b % q ≡ w * b = rw is whole in
    let halves = div-add-mod (s * x) b in
    let from : h * b ≤ s * x = omega (arith, top, halves) in
    let to : s * x + 1 ≤ h * b + b = omega (arith, top, halves) in
    let m1 : h * b * q ≤ s * x * q = mul-le-mul_right q from in
    let m2 : s * q * x ≤ w * b * x = mul-le-mul_right x (omega (arith, split)) in
    let m3 : w * b * x ≤ (s * q + q) * x = mul-le-mul_right x (omega (arith, split, rest)) in
    let m4 : (s * x + 1) * q ≤ (h * b + b) * q = mul-le-mul_right q to in
    let m5 : q * (x + 1) ≤ q * b = mul-le-mul_left q (omega arith) in
    (omega (arith, m1, m2), omega (arith, m3, m4, m5))

-- a multiple of q may be taken off
pub taken_off : (q a h : ℕ) → h * q ≤ a → (a - h * q) % q ≡ a % q
taken_off q a h l =
    let e : a - h * q + h * q ≡ a = omega arith in
    sym (add-mul-mod_self_right (a - h * q) h q) ∙ ap (λ z. z % q) e

-- where a rest below q is left, the multiple is the quotient
pub quotient_is : (q a h r : ℕ) → r < q → h * q + r ≡ a → h ≡ a / q
quotient_is q a h r below whole = sym (div-mul-add h q r below) ∙ ap (λ z. z / q) whole

pub rest_is : (q a h r : ℕ) → r < q → h * q + r ≡ a → r ≡ a % q
rest_is q a h r below whole = sym (mod-mul-add h q r below) ∙ ap (λ z. z % q) whole
