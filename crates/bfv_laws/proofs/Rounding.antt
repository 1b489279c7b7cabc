-- Decryption gives the plaintext that is carried, where the noise is at most the limit.
use Rattle.std.proofs.Common.{◌≡◌, ℕ, suc, ◌+◌, ◌-◌, ◌*◌, ◌/◌, ◌%◌, ◌≤◌, ◌<◌, ap, ◌∙◌, arith}
use Rattle.std.specs.Prelude.{ℤ, pos, negsuc, ◌+ℤ◌, ◌*ℤ◌, unsigned_abs}
use Rattle.std.proofs.lemmas.Nat.{mul-le, div-mul-add, mod-mul-add}
use Rattle.bfv_spec.specs.Scheme.{delta, remainder, rounded}
use Rattle.ring_laws.proofs.Integers.{sums, times_negative}

-- where 2tx + q is 2q * (m + t*k) and less than 2q more, x is rounded to m
quotient_is : (q t x m k s : ℕ) → 0 < t → m < t → s < 2 * q → 2 * t * x + q ≡ (k * t + m) * (2 * q) + s → rounded q t x ≡ m
quotient_is q t x m k s h l p e =
    ap (λ (y : ℕ). y / (2 * q) % t) e ∙ ap (λ (y : ℕ). y % t) (div-mul-add (k * t + m) (2 * q) s p) ∙ mod-mul-add k t m l

-- a number D*m + e modulo q is rounded to m, where 2t|e| + 2r(t-1) is below q
pub rounded_is : (q t x m v : ℕ) (e k : ℤ) → 0 < t → m < t → unsigned_abs e ≤ v → 2 * t * v + 2 * remainder q t * (t - 1) < q →
    pos x ≡ pos (delta q t * m) +ℤ e +ℤ pos q *ℤ k → rounded q t x ≡ m
rounded_is q t x m v (pos a) (pos k) h l b c e =
    let r = q % t in let D = q / t in
    let xe : x ≡ D * m + a + q * k = omega (arith, sums, e) in
    let qe : q ≡ t * D + r = omega (arith, h) in
    let ta : t * a ≤ t * v = mul-le t a t v (omega arith) b in
    let rm : r * m ≤ r * (t - 1) = mul-le r m r (t - 1) (omega arith) (omega arith) in
    let e₁ : t * x ≡ t * D * m + t * a + t * q * k = ap (λ (y : ℕ). t * y) xe ∙ omega arith in
    let e₂ : q * m ≡ t * D * m + r * m = ap (λ (y : ℕ). y * m) qe ∙ omega arith in
    quotient_is q t x m k (q + 2 * (t * a) - 2 * (r * m)) h l (omega arith) (omega arith)
rounded_is q t x m v (negsuc a) (pos k) h l b c e =
    let r = q % t in let D = q / t in
    let xe : x + suc a ≡ D * m + q * k = omega (arith, sums, e) in
    let qe : q ≡ t * D + r = omega (arith, h) in
    let ta : t * suc a ≤ t * v = mul-le t (suc a) t v (omega arith) b in
    let rm : r * m ≤ r * (t - 1) = mul-le r m r (t - 1) (omega arith) (omega arith) in
    let e₁ : t * x + t * suc a ≡ t * D * m + t * q * k = (omega arith) ∙ ap (λ (y : ℕ). t * y) xe ∙ omega arith in
    let e₂ : q * m ≡ t * D * m + r * m = ap (λ (y : ℕ). y * m) qe ∙ omega arith in
    quotient_is q t x m k (q - 2 * (t * suc a) - 2 * (r * m)) h l (omega arith) (omega arith)
rounded_is q t x m v (pos a) (negsuc k) h l b c e =
    let r = q % t in let D = q / t in
    let xe : x + q * suc k ≡ D * m + a = omega (arith, sums, e, times_negative (pos q) (pos (suc k))) in
    let qe : q ≡ t * D + r = omega (arith, h) in
    let ta : t * a ≤ t * v = mul-le t a t v (omega arith) b in
    let qm : q * m ≤ q * (t - 1) = mul-le q m q (t - 1) (omega arith) (omega arith) in
    let e₁ : t * x + t * q * suc k ≡ t * D * m + t * a = (omega arith) ∙ ap (λ (y : ℕ). t * y) xe ∙ omega arith in
    let e₂ : q * m ≡ t * D * m + r * m = ap (λ (y : ℕ). y * m) qe ∙ omega arith in
    let e₃ : q * t ≡ q * (t - 1) + q = ap (λ (y : ℕ). q * y) (let y : t ≡ t - 1 + 1 = omega arith in y) ∙ omega arith in
    absurd (omega arith)
rounded_is q t x m v (negsuc a) (negsuc k) h l b c e =
    let r = q % t in let D = q / t in
    let xe : x + suc a + q * suc k ≡ D * m = omega (arith, sums, e, times_negative (pos q) (pos (suc k))) in
    let qe : q ≡ t * D + r = omega (arith, h) in
    let qm : q * m ≤ q * (t - 1) = mul-le q m q (t - 1) (omega arith) (omega arith) in
    let e₁ : t * x + t * suc a + t * q * suc k ≡ t * D * m = (omega arith) ∙ ap (λ (y : ℕ). t * y) xe ∙ omega arith in
    let e₂ : q * m ≡ t * D * m + r * m = ap (λ (y : ℕ). y * m) qe ∙ omega arith in
    let e₃ : q * t ≡ q * (t - 1) + q = ap (λ (y : ℕ). q * y) (let y : t ≡ t - 1 + 1 = omega arith in y) ∙ omega arith in
    absurd (omega arith)
