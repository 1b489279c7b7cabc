-- The rounding of a scaled number: it is near, and for q odd nothing else is.
use Rattle.std.proofs.Common.{◌≡◌, ℕ, suc, ◌+◌, ◌*◌, ◌/◌, ◌%◌, ◌≤◌, ◌<◌, ap, ◌∙◌, inl, inr, arith}
use Rattle.std.specs.Prelude.{ℤ, pos, negsuc, ◌+ℤ◌, ◌-ℤ◌, ◌*ℤ◌, neg_ℤ, unsigned_abs}
use Rattle.std.proofs.lemmas.Bool.{cases_lt}
use Rattle.std.proofs.lemmas.Int.{unsigned_abs-mul}
use Rattle.std.proofs.lemmas.Nat.{mul-le}
use Rattle.std.proofs.lemmas.List.FromFn.{get_or-map-range_with_len}
use Rattle.ring_spec.specs.Ring.{wrapped, signed}
use Rattle.tensor_spec.specs.Rounding.{int_product, nearest}
use Rattle.tensor_laws.specs.Rounding.{off, NearestIsNear, NearestIsNearer, NearestIsTheOnly, ProductsAreWrapped}
use Rattle.ring_laws.proofs.Integers.{times_sum, times_negative}
use borrow.Author.Differences.{ints}

-- y, the quotient of 2x + q by 2q, is a half from x/q at most
half : (q x y r : ℕ) → r < 2 * q → 2 * x + q ≡ 2 * q * y + r → 2 * unsigned_abs (pos (q * y) -ℤ pos x) ≤ q
half q x y r h e = omega (arith, ints, e)

pub nearest_is_near : NearestIsNear
unfolding nearest
nearest_is_near t q (pos a) h =
    let p = 2 * t * a + q in
    half q (t * a) (p / (2 * q)) (p % (2 * q)) (omega arith) (omega (arith, h))
nearest_is_near t q (negsuc a) h =
    let p = 2 * t * suc a + q in let y = p / (2 * q) in
    let near = half q (t * suc a) y (p % (2 * q)) (omega arith) (omega (arith, h)) in
    omega (arith, ints, near, times_negative (pos q) (pos y), times_negative (pos t) (pos (suc a)))

pub nearest_is_nearer : NearestIsNearer
nearest_is_nearer t q x odd = omega (arith, nearest_is_near t q x (omega (arith, odd)))

pub nearest_is_the_only : NearestIsTheOnly
nearest_is_the_only t q x y odd near =
    let z = nearest t q x in
    let d = z -ℤ y in
    let e₁ : pos q *ℤ d ≡ pos q *ℤ z -ℤ pos q *ℤ y = times_sum (pos q) z (neg_ℤ y) ∙ ap (λ (w : ℤ). pos q *ℤ z +ℤ w) (times_negative (pos q) y) in
    let e₂ : q * unsigned_abs d ≤ off t q x z + off t q x y = omega (arith, ints, e₁, unsigned_abs-mul (pos q) d) in
    let e₃ : 2 * off t q x z < q = nearest_is_nearer t q x odd in
    let e₄ : unsigned_abs d < 1 = elim (cases_lt (unsigned_abs d) 1) [
      | inl l ↦ l
      | inr l ↦ absurd (let more : q * 1 ≤ q * unsigned_abs d = mul-le q 1 q (unsigned_abs d) (omega arith) l in omega arith)
    ] in
    omega (arith, ints, e₄)

pub products_are_wrapped : ProductsAreWrapped
unfolding int_product
products_are_wrapped n f g i h = get_or-map-range_with_len (wrapped n (signed f) (signed g)) 0 n i i (pos 0) h (omega arith)
