-- The product of polynomials is associative: a product with X^i times b is X^i times the product with b.
use Rattle.std.proofs.Common.{◌≡◌, ℕ, zero, suc, ◌+◌, ◌-◌, ◌≤◌, ◌<◌, refl, sym, ap, ◌∙◌, inl, inr, arith}
use Rattle.std.specs.Prelude.{ℤ, ◌+ℤ◌, ◌*ℤ◌, neg_ℤ}
use Rattle.std.proofs.lemmas.Bool.{cases_lt}
use Rattle.ring_spec.specs.Ring.{total, wrapped}
use Rattle.ring_laws.proofs.Integers.{sums, times_times, times_commutes, negative_times, times_negative}
use Rattle.ring_laws.proofs.Totals.{total_same, total_times, total_negative, total_first, total_swap}
use Rattle.ring_laws.proofs.Products.{shifted, shifted_low, shifted_high, shifted_same, wrapped_is, wrapped_same}

-- X^(i+1) times b is X times X^i times b
pub shifted_next : (n i : ℕ) (b : ℕ → ℤ) (k : ℕ) → i < n → k < n → shifted n (suc i) b k ≡ shifted n 1 (shifted n i b) k
shifted_next n i b zero h l =
    shifted_high n (suc i) b 0 (omega arith) ∙ ap (λ (x : ℕ). neg_ℤ (b x)) (omega arith)
    ∙ ap neg_ℤ (sym (shifted_low n i b (0 + n - 1) (omega arith))) ∙ sym (shifted_high n 1 (shifted n i b) 0 (omega arith))
shifted_next n i b (suc k) h l =
    (elim (cases_lt (suc k) (suc i)) [
      | inl p ↦ shifted_high n (suc i) b (suc k) p ∙ ap (λ (x : ℕ). neg_ℤ (b x)) (omega arith) ∙ sym (shifted_high n i b (suc k - 1) (omega arith))
      | inr p ↦ shifted_low n (suc i) b (suc k) p ∙ ap b (omega arith) ∙ sym (shifted_low n i b (suc k - 1) (omega arith))
    ])
    ∙ sym (shifted_low n 1 (shifted n i b) (suc k) (omega arith))

-- X^0 times b is b
pub shifted_none : (n : ℕ) (b : ℕ → ℤ) (k : ℕ) → shifted n 0 b k ≡ b k
shifted_none n b k = shifted_low n 0 b k (omega arith) ∙ ap b (omega arith)

-- X^i passes into a sum of multiples
shifted_total : (n i m : ℕ) (a : ℕ → ℤ) (f : ℕ → ℕ → ℤ) (k : ℕ) → shifted n i (λ x. total m (λ j. a j *ℤ f j x)) k ≡ total m (λ j. a j *ℤ shifted n i (f j) k)
shifted_total n i m a f k = elim (cases_lt k i) [
  | inl p ↦ shifted_high n i (λ x. total m (λ j. a j *ℤ f j x)) k p ∙ sym (total_negative m (λ j. a j *ℤ f j (k + n - i)))
      ∙ total_same m (λ j. neg_ℤ (a j *ℤ f j (k + n - i))) (λ j. a j *ℤ shifted n i (f j) k)
      (λ j l. sym (times_negative (a j) (f j (k + n - i))) ∙ ap (λ (z : ℤ). a j *ℤ z) (sym (shifted_high n i (f j) k p)))
  | inr p ↦ shifted_low n i (λ x. total m (λ j. a j *ℤ f j x)) k p
      ∙ total_same m (λ j. a j *ℤ f j (k - i)) (λ j. a j *ℤ shifted n i (f j) k) (λ j l. ap (λ (z : ℤ). a j *ℤ z) (sym (shifted_low n i (f j) k p)))
]

-- X times a product is the sum of a_j times X^(j+1) times b
shifted_product : (n : ℕ) (a b : ℕ → ℤ) (k : ℕ) → k < n → shifted n 1 (wrapped n a b) k ≡ total n (λ j. a j *ℤ shifted n (suc j) b k)
shifted_product n a b k h =
    shifted_same n 1 (wrapped n a b) (λ x. total n (λ j. a j *ℤ shifted n j b x)) k (omega arith) h (λ j l. wrapped_is n a b j)
    ∙ shifted_total n 1 n a (λ j. shifted n j b) k
    ∙ total_same n (λ j. a j *ℤ shifted n 1 (shifted n j b) k) (λ j. a j *ℤ shifted n (suc j) b k) (λ j l. ap (λ (z : ℤ). a j *ℤ z) (sym (shifted_next n j b k l h)))

-- X passes out of a product
pub one_shifted : (n : ℕ) (a b : ℕ → ℤ) (k : ℕ) → k < n → wrapped n (shifted n 1 a) b k ≡ shifted n 1 (wrapped n a b) k
unfolding total
one_shifted zero a b k h = absurd (omega arith)
one_shifted (suc m) a b k h =
    let head : shifted (suc m) 1 a 0 *ℤ shifted (suc m) 0 b k ≡ neg_ℤ (a m *ℤ b k) =
    ap (λ (z : ℤ). z *ℤ shifted (suc m) 0 b k) (shifted_high (suc m) 1 a 0 (omega arith) ∙ ap (λ (x : ℕ). neg_ℤ (a x)) (omega arith))
    ∙ ap (λ (z : ℤ). neg_ℤ (a m) *ℤ z) (shifted_none (suc m) b k) ∙ negative_times (a m) (b k) in
    let rest : total m (λ j. shifted (suc m) 1 a (suc j) *ℤ shifted (suc m) (suc j) b k) ≡ total m (λ j. a j *ℤ shifted (suc m) (suc j) b k) =
    total_same m (λ j. shifted (suc m) 1 a (suc j) *ℤ shifted (suc m) (suc j) b k) (λ j. a j *ℤ shifted (suc m) (suc j) b k)
    (λ j l. ap (λ (z : ℤ). z *ℤ shifted (suc m) (suc j) b k) (shifted_low (suc m) 1 a (suc j) (omega arith) ∙ ap a (omega arith))) in
    let last : a m *ℤ shifted (suc m) (suc m) b k ≡ neg_ℤ (a m *ℤ b k) =
    ap (λ (z : ℤ). a m *ℤ z) (shifted_high (suc m) (suc m) b k h ∙ ap (λ (x : ℕ). neg_ℤ (b x)) (omega arith)) ∙ times_negative (a m) (b k) in
    wrapped_is (suc m) (shifted (suc m) 1 a) b k
    ∙ total_first m (λ j. shifted (suc m) 1 a j *ℤ shifted (suc m) j b k)
    ∙ ap (λ (z : ℤ). z +ℤ total m (λ j. shifted (suc m) 1 a (suc j) *ℤ shifted (suc m) (suc j) b k)) head
    ∙ ap (λ (z : ℤ). neg_ℤ (a m *ℤ b k) +ℤ z) rest
    ∙ omega (arith, sums)
    ∙ ap (λ (z : ℤ). total m (λ j. a j *ℤ shifted (suc m) (suc j) b k) +ℤ z) (sym last)
    ∙ sym (shifted_product (suc m) a b k h)

-- X^i passes out of a product
pub shifted_wrapped : (n i : ℕ) (a b : ℕ → ℤ) (k : ℕ) → i ≤ n → k < n → wrapped n (shifted n i a) b k ≡ shifted n i (wrapped n a b) k
shifted_wrapped n zero a b k l h =
    wrapped_same n (shifted n 0 a) b a b k h (λ j p. shifted_none n a j) (λ j p. refl) ∙ sym (shifted_none n (wrapped n a b) k)
shifted_wrapped n (suc i) a b k l h =
    wrapped_same n (shifted n (suc i) a) b (shifted n 1 (shifted n i a)) b k h (λ j p. shifted_next n i a j (omega arith) p) (λ j p. refl)
    ∙ one_shifted n (shifted n i a) b k h
    ∙ shifted_same n 1 (wrapped n (shifted n i a) b) (shifted n i (wrapped n a b)) k (omega arith) h (λ j p. shifted_wrapped n i a b j (omega arith) p)
    ∙ sym (shifted_next n i (wrapped n a b) k (omega arith) h)

-- a product with a sum of multiples of polynomials is the sum of the multiples of the products
pub wrapped_total : (n m : ℕ) (a : ℕ → ℤ) (f : ℕ → ℕ → ℤ) (b : ℕ → ℤ) (k : ℕ) → wrapped n (λ x. total m (λ i. a i *ℤ f i x)) b k ≡ total m (λ i. a i *ℤ wrapped n (f i) b k)
wrapped_total n m a f b k =
    wrapped_is n (λ x. total m (λ i. a i *ℤ f i x)) b k
    ∙ total_same n (λ j. total m (λ i. a i *ℤ f i j) *ℤ shifted n j b k) (λ j. total m (λ i. a i *ℤ (f i j *ℤ shifted n j b k)))
    (λ j l. times_commutes (total m (λ i. a i *ℤ f i j)) (shifted n j b k) ∙ sym (total_times m (shifted n j b k) (λ i. a i *ℤ f i j))
    ∙ total_same m (λ i. shifted n j b k *ℤ (a i *ℤ f i j)) (λ i. a i *ℤ (f i j *ℤ shifted n j b k)) (λ i l'. times_commutes (shifted n j b k) (a i *ℤ f i j) ∙ times_times (a i) (f i j) (shifted n j b k)))
    ∙ total_swap n m (λ j i. a i *ℤ (f i j *ℤ shifted n j b k))
    ∙ total_same m (λ i. total n (λ j. a i *ℤ (f i j *ℤ shifted n j b k))) (λ i. a i *ℤ wrapped n (f i) b k)
    (λ i l. total_times n (a i) (λ j. f i j *ℤ shifted n j b k) ∙ ap (λ (z : ℤ). a i *ℤ z) (sym (wrapped_is n (f i) b k)))

-- a product is associative
pub wrapped_associates : (n : ℕ) (a b c : ℕ → ℤ) (k : ℕ) → k < n → wrapped n (wrapped n a b) c k ≡ wrapped n a (wrapped n b c) k
wrapped_associates n a b c k h =
    wrapped_same n (wrapped n a b) c (λ x. total n (λ i. a i *ℤ shifted n i b x)) c k h (λ j p. wrapped_is n a b j) (λ j p. refl)
    ∙ wrapped_total n n a (λ i. shifted n i b) c k
    ∙ total_same n (λ i. a i *ℤ wrapped n (shifted n i b) c k) (λ i. a i *ℤ shifted n i (wrapped n b c) k) (λ i l. ap (λ (z : ℤ). a i *ℤ z) (shifted_wrapped n i b c k (omega arith) h))
    ∙ sym (wrapped_is n a (wrapped n b c) k)
