-- One coefficient of a product, over plain whole numbers.
use Rattle.std.proofs.Common.{◌≡◌, ℕ, zero, suc, ◌+◌, ◌-◌, ◌*◌, ◌/◌, ◌%◌, ◌≤◌, ◌<◌, refl, ap, ◌∙◌, sym, inl, inr, arith}
use Rattle.std.specs.Prelude.{ℤ, pos, ◌+ℤ◌, ◌-ℤ◌, ◌*ℤ◌, neg_ℤ, unsigned_abs}
use Rattle.std.proofs.lemmas.Bool.{cases_lt}
use Rattle.std.proofs.lemmas.Int.{unsigned_abs-mul}
use Rattle.std.proofs.lemmas.Nat.{mul-le}
use Rattle.bfv_spec.specs.Scheme.{delta, remainder}
use Rattle.ring_laws.proofs.Integers.{sums, times_sum, times_times, times_negative, abs_sum}
use borrow.Author.Differences.{ints}

-- ---- a factor: t times a number is q times a whole part and a rest

-- a factor's number p is D*m + e + q*k; then t*p is q * (m + t*k) + (t*e - r*m)
pub factor_is : (q t m : ℕ) (p e k : ℤ) → 0 < t → p ≡ pos (delta q t * m) +ℤ e +ℤ pos q *ℤ k →
    pos t *ℤ p ≡ pos q *ℤ (pos m +ℤ pos t *ℤ k) +ℤ (pos t *ℤ e -ℤ pos (remainder q t * m))
factor_is q t m p e k h is =
    let D = q / t in let r = q % t in
    let a : pos t *ℤ p ≡ pos (t * (D * m)) +ℤ pos t *ℤ e +ℤ pos t *ℤ (pos q *ℤ k) =
    ap (λ (z : ℤ). pos t *ℤ z) is ∙ times_sum (pos t) (pos (D * m) +ℤ e) (pos q *ℤ k) ∙ ap (λ (z : ℤ). z +ℤ pos t *ℤ (pos q *ℤ k)) (times_sum (pos t) (pos (D * m)) e) in
    let b : pos q *ℤ (pos m +ℤ pos t *ℤ k) ≡ pos (q * m) +ℤ pos q *ℤ (pos t *ℤ k) = times_sum (pos q) (pos m) (pos t *ℤ k) in
    let c : pos t *ℤ (pos q *ℤ k) ≡ pos q *ℤ (pos t *ℤ k) =
    sym (times_times (pos t) (pos q) k) ∙ ap (λ (x : ℕ). pos x *ℤ k) (omega arith) ∙ times_times (pos q) (pos t) k in
    let d : q * m ≡ t * (D * m) + r * m = ap (λ (x : ℕ). x * m) (let e' : q ≡ t * D + r = omega (arith, h) in e') ∙ omega arith in
    omega (arith, sums, a, b, c, d)

-- D*m + v is below q, where 2*t*v is
below : (q t m v : ℕ) → 0 < t → m < t → 2 * t * v < q → delta q t * m + v < q
below q t m v h l p =
    let D = q / t in
    elim (cases_lt (D * m + v) q) [
      | inl less ↦ less
      | inr more ↦ absurd (
          let a : t * q ≤ t * (D * m + v) = mul-le t q t (D * m + v) (omega arith) more in
          let b : (D * t) * m ≤ q * (t - 1) = mul-le (D * t) m q (t - 1) (omega (arith, h)) (omega arith) in
          let c : t * q ≡ q * (t - 1) + q = ap (λ (x : ℕ). x * q) (let e : t ≡ t - 1 + 1 = omega arith in e) ∙ omega arith in
          omega arith)
    ]

-- the size of k is at most x/2 + 1, where that of p is at most q * (1 + x) / 2
pub wraps_within : (q t m v x : ℕ) (p e k : ℤ) → 0 < t → m < t → unsigned_abs e ≤ v → 2 * t * v < q → 2 * unsigned_abs p ≤ q * (1 + x) →
    p ≡ pos (delta q t * m) +ℤ e +ℤ pos q *ℤ k → unsigned_abs k ≤ x / 2 + 1
wraps_within q t m v x p e k h l b c few is =
    let D = q / t in
    let a : q * unsigned_abs k ≤ unsigned_abs p + (D * m + unsigned_abs e) = omega (arith, ints, is, unsigned_abs-mul (pos q) k) in
    let d : D * m + v < q = below q t m v h l c in
    let f : 2 * unsigned_abs k < x + 3 = elim (cases_lt (2 * unsigned_abs k) (x + 3)) [
      | inl less ↦ less
      | inr more ↦ absurd (let g : q * (x + 3) ≤ q * (2 * unsigned_abs k) = mul-le q (x + 3) q (2 * unsigned_abs k) (omega arith) more in omega arith)
    ] in
    omega arith

-- ---- the product of two

-- where q*T is t times the product and d, t * t * the product is q * q * M + q * X + Y, and M is m + t*j
pub product_is : (q t m : ℕ) (T P M X Y d j : ℤ) → 0 < t → pos q *ℤ T ≡ pos t *ℤ P +ℤ d →
    pos t *ℤ (pos t *ℤ P) ≡ pos q *ℤ (pos q *ℤ M) +ℤ pos q *ℤ X +ℤ Y → M ≡ pos m +ℤ pos t *ℤ j →
    pos (t * q) *ℤ ((T -ℤ pos (delta q t * m)) -ℤ pos q *ℤ j) ≡ pos (q * (remainder q t * m)) +ℤ pos q *ℤ X +ℤ Y +ℤ pos t *ℤ d
product_is q t m T P M X Y d j h rounded squared whole =
    let D = q / t in let r = q % t in let tq = pos (t * q) in
    let a : pos t *ℤ (pos q *ℤ T) ≡ pos t *ℤ (pos t *ℤ P) +ℤ pos t *ℤ d = ap (λ (z : ℤ). pos t *ℤ z) rounded ∙ times_sum (pos t) (pos t *ℤ P) d in
    let b : tq *ℤ T ≡ pos t *ℤ (pos q *ℤ T) = times_times (pos t) (pos q) T in
    let c : tq *ℤ ((T -ℤ pos (D * m)) -ℤ pos q *ℤ j) ≡ tq *ℤ T +ℤ neg_ℤ (pos (t * q * (D * m))) +ℤ neg_ℤ (tq *ℤ (pos q *ℤ j)) =
    times_sum tq (T -ℤ pos (D * m)) (neg_ℤ (pos q *ℤ j))
    ∙ ap (λ (z : ℤ). z +ℤ tq *ℤ neg_ℤ (pos q *ℤ j)) (times_sum tq T (neg_ℤ (pos (D * m))) ∙ ap (λ (z : ℤ). tq *ℤ T +ℤ z) (times_negative tq (pos (D * m))))
    ∙ ap (λ (z : ℤ). tq *ℤ T +ℤ neg_ℤ (pos (t * q * (D * m))) +ℤ z) (times_negative tq (pos q *ℤ j)) in
    let e : pos q *ℤ (pos q *ℤ M) ≡ pos (q * (q * m)) +ℤ pos q *ℤ (pos q *ℤ (pos t *ℤ j)) =
    ap (λ (z : ℤ). pos q *ℤ z) (ap (λ (z : ℤ). pos q *ℤ z) whole ∙ times_sum (pos q) (pos m) (pos t *ℤ j)) ∙ times_sum (pos q) (pos (q * m)) (pos q *ℤ (pos t *ℤ j)) in
    let f : pos q *ℤ (pos q *ℤ (pos t *ℤ j)) ≡ tq *ℤ (pos q *ℤ j) =
    sym (times_times (pos q) (pos q) (pos t *ℤ j)) ∙ sym (times_times (pos (q * q)) (pos t) j) ∙ ap (λ (x : ℕ). pos x *ℤ j) (let e' : q * q * t ≡ t * q * q = omega arith in e') ∙ times_times tq (pos q) j in
    let g : q * (q * m) ≡ t * q * (D * m) + q * (r * m) = ap (λ (x : ℕ). x * (q * m)) (let e' : q ≡ t * D + r = omega (arith, h) in e') ∙ omega arith in
    omega (arith, sums, a, b, c, e, f, g, squared)

-- x + x * x is even
pub even : (x : ℕ) → (x + x * x) % 2 ≡ 0
even zero = refl
even (suc x) = omega (arith, even x)

-- then the size of the quotient is at most n * K * (y1 + y2) + (x + x^2) / 2, with a + 1 = t * K
pub product_within : (q t r n a k y1 y2 x m : ℕ) (z X Y d : ℤ) → 0 < q → 0 < t → 0 < n → m < t → r * (t - 1) ≤ y1 → r * (t - 1) ≤ y2 → 2 * y2 ≤ q → a + 1 ≡ t * k →
    unsigned_abs X ≤ n * a * y2 + n * y1 * a → unsigned_abs Y ≤ n * y1 * y2 → 2 * unsigned_abs d ≤ q * (1 + x + x * x) →
    pos (t * q) *ℤ z ≡ pos (q * (r * m)) +ℤ pos q *ℤ X +ℤ Y +ℤ pos t *ℤ d → unsigned_abs z ≤ n * k * (y1 + y2) + (x + x * x) / 2
product_within q t r n a k y1 y2 x m z X Y d hq ht hn l r1 r2 half whole lX lY ld is =
    let b : t * q * unsigned_abs z ≤ q * (r * m) + q * unsigned_abs X + unsigned_abs Y + t * unsigned_abs d =
    omega (
      arith,
      ap unsigned_abs is,
      unsigned_abs-mul (pos (t * q)) z,
      unsigned_abs-mul (pos q) X,
      unsigned_abs-mul (pos t) d,
      abs_sum (pos (q * (r * m)) +ℤ pos q *ℤ X +ℤ Y) (pos t *ℤ d),
      abs_sum (pos (q * (r * m)) +ℤ pos q *ℤ X) Y,
      abs_sum (pos (q * (r * m))) (pos q *ℤ X),
    ) in
    let c : q * (r * m) ≤ q * (r * (t - 1)) = mul-le q (r * m) q (r * (t - 1)) (omega arith) (mul-le r m r (t - 1) (omega arith) (omega arith)) in
    let e : q * unsigned_abs X ≤ q * (n * a * y2 + n * y1 * a) = mul-le q (unsigned_abs X) q (n * a * y2 + n * y1 * a) (omega arith) lX in
    let f : n * y1 * (2 * y2) ≤ n * y1 * q = mul-le (n * y1) (2 * y2) (n * y1) q (omega arith) half in
    let g : t * (2 * unsigned_abs d) ≤ t * (q * (1 + x + x * x)) = mul-le t (2 * unsigned_abs d) t (q * (1 + x + x * x)) (omega arith) ld in
    let i : q * (2 * (r * (t - 1))) ≤ q * (n * (y1 + y2)) =
    mul-le q (2 * (r * (t - 1))) q (n * (y1 + y2)) (omega arith) (let i' : 1 * (y1 + y2) ≤ n * (y1 + y2) = mul-le 1 (y1 + y2) n (y1 + y2) hn (omega arith) in omega arith) in
    let u = n * k * (y1 + y2) in
    let o : q * n * (y1 + y2) * (a + 1) ≡ q * n * (y1 + y2) * (t * k) = ap (λ (w : ℕ). q * n * (y1 + y2) * w) whole in
    let all : t * q * (2 * unsigned_abs z) ≤ t * q * (2 * u + 1 + x + x * x) = omega arith in
    let most : 2 * unsigned_abs z ≤ 2 * u + 1 + x + x * x = elim (cases_lt (2 * u + 1 + x + x * x) (2 * unsigned_abs z)) [
      | inl more ↦ absurd (
          let s : t * q * (2 * u + 1 + x + x * x + 1) ≤ t * q * (2 * unsigned_abs z) = mul-le (t * q) (2 * u + 1 + x + x * x + 1) (t * q) (2 * unsigned_abs z) (omega arith) (omega arith) in
          let s' : 1 * 1 ≤ t * q = mul-le 1 1 t q ht hq in
          omega arith)
      | inr less ↦ less
    ] in
    omega (arith, even x)
