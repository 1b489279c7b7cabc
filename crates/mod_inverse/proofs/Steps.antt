-- One step of Euclid's algorithm keeps that factor * x and the remainder agree modulo q.
use Rattle.std.proofs.Common.{◌≡◌, ℕ, ◌+◌, ◌-◌, ◌*◌, ◌/◌, ◌%◌, ◌<◌, sym, ap, ◌∙◌, arith}
use Rattle.std.proofs.Math.Nat.{add-mul-mod_self_right}
use Rattle.std.proofs.lemmas.Nat.{mul-mod_first}

-- numbers that differ by multiples of q have the same rest
same_mod : (q x y s t : ℕ) → x + s * q ≡ y + t * q → x % q ≡ y % q
same_mod q x y s t e =
    sym (add-mul-mod_self_right x s q) ∙ ap (λ z. z % q) e ∙ add-mul-mod_self_right y t q

pub step_agrees : (q x r₀ t₀ r₁ t₁ : ℕ) → 0 < q → 0 < r₁ → t₀ * x % q ≡ r₀ % q → t₁ * x % q ≡ r₁ % q →
    (t₀ + (q - r₀ / r₁ * t₁ % q)) % q * x % q ≡ r₀ % r₁ % q
step_agrees q x r₀ t₀ r₁ t₁ h p e f =
    let k = r₀ / r₁ in
    let m = k * t₁ % q in
    let u = k * t₁ / q in
    let s = t₀ + (q - m) in
    let A = t₀ * x / q in let B = r₀ / q in let C = t₁ * x / q in let D = r₁ / q in
    let below : m < q = omega arith in
    let taken : k * t₁ ≡ u * q + m = omega arith in
    let whole : k * r₁ + r₀ % r₁ ≡ r₀ = omega arith in
    let e₀ : t₀ * x + B * q ≡ r₀ + A * q = omega arith in
    let e₁ : t₁ * x + D * q ≡ r₁ + C * q = omega arith in
    let e₂ : s * x + m * x ≡ t₀ * x + q * x = (let e' : s * x + m * x ≡ (s + m) * x = omega arith in e') ∙ ap (λ z. z * x) (let e' : s + m ≡ t₀ + q = omega arith in e') ∙ omega arith in
    let e₃ : k * t₁ * x ≡ u * q * x + m * x = ap (λ z. z * x) taken ∙ omega arith in
    let e₄ : k * t₁ * x + k * D * q ≡ k * r₁ + k * C * q = (let e' : k * t₁ * x + k * D * q ≡ k * (t₁ * x + D * q) = omega arith in e') ∙ ap (λ z. k * z) e₁ ∙ omega arith in
    mul-mod_first s x q ∙ same_mod q (s * x) (r₀ % r₁) (B + k * C) (A + x + u * x + k * D) (omega arith)
