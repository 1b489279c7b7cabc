-- The map that takes X to X^g for g odd: it respects the ring's operations, and a size does not grow.
use Rattle.std.proofs.Common.{◌≡◌, ℕ, zero, suc, ◌+◌, ◌*◌, ◌%◌, ◌≤◌, ◌<◌, List, cond, refl, sym, ap, ◌∙◌, inl, inr, arith}
use Rattle.std.specs.Prelude.{ℤ, pos, ◌+ℤ◌, ◌*ℤ◌, neg_ℤ, nat_eq}
use Rattle.std.proofs.lemmas.Bool.{cases_eq, cond-true, cond-false, eq-eqb, ne_eqb}
use Rattle.ring_spec.specs.Ring.{total, wrapped, turned, moved, plus, negated, times, coefficient, residues, IsPoly, ring_turned, ring_sum, ring_product}
use Rattle.ring_laws.specs.Congruence.{Agree}
use Rattle.ring_laws.proofs.Integers.{sums, sum_times, times_times, times_commutes, negative_times, times_negative, times_zero, one_times}
use Rattle.ring_laws.proofs.Totals.{total_same, total_sum, total_times, total_negative, total_first, total_swap}
use Rattle.ring_laws.proofs.Products.{shifted, shifted_low, shifted_high, wrapped_is, wrapped_same, wrapped_commutes}
use Rattle.ring_laws.proofs.Associates.{shifted_next, shifted_none, wrapped_associates, wrapped_total}
use Rattle.ring_laws.proofs.Powers.{power, unit_one, unit_minus, unit_none, power_zero, power_sum, power_half}
use Rattle.ring_laws.proofs.Congruences.{congruent_equal, congruent_chain, congruent_product, congruent_self, total_congruent, agree_self, agree_chain}
use Rattle.ring_laws.proofs.Residues.{residues_poly, residues_same, coefficients_agree, sum_poly, product_poly}
use Rattle.ring_laws.proofs.Rings.{by_coefficients, sum_agrees, product_agrees}

-- what coefficient i gives is a_i times X^(i*g)
moved_is : (n g : ℕ) (a : ℕ → ℤ) (k i : ℕ) → k < n → moved n g a k i ≡ a i *ℤ power n (i * g) k
moved_is n g a k i h =
    let r = i * g % (2 * n) in
    elim (cases_eq r k) [
      | inl e ↦ cond-true (nat_eq r k) (a i) (cond (nat_eq r (k + n)) (neg_ℤ (a i)) (pos 0)) (eq-eqb r k e)
          ∙ sym (ap (λ (z : ℤ). a i *ℤ z) (unit_one n r k e) ∙ times_commutes (a i) (pos 1) ∙ one_times (a i))
      | inr ne ↦ cond-false (nat_eq r k) (a i) (cond (nat_eq r (k + n)) (neg_ℤ (a i)) (pos 0)) (ne_eqb r k ne)
          ∙ (elim (cases_eq r (k + n)) [
            | inl e ↦ cond-true (nat_eq r (k + n)) (neg_ℤ (a i)) (pos 0) (eq-eqb r (k + n) e)
                ∙ sym (ap (λ (z : ℤ). a i *ℤ z) (unit_minus n r k (omega arith) e) ∙ times_negative (a i) (pos 1) ∙ ap neg_ℤ (times_commutes (a i) (pos 1) ∙ one_times (a i)))
            | inr ne' ↦ cond-false (nat_eq r (k + n)) (neg_ℤ (a i)) (pos 0) (ne_eqb r (k + n) ne')
                ∙ sym (ap (λ (z : ℤ). a i *ℤ z) (unit_none n r k ne ne') ∙ times_zero (a i))
          ])
    ]

-- the image of a is the sum of a_i times X^(i*g)
pub turned_is : (n g : ℕ) (a : ℕ → ℤ) (k : ℕ) → k < n → turned n g a k ≡ total n (λ i. a i *ℤ power n (i * g) k)
unfolding turned
turned_is n g a k h = total_same n (moved n g a k) (λ i. a i *ℤ power n (i * g) k) (λ i l. moved_is n g a k i h)

-- it goes by the coefficients below n alone
pub turned_same : (n g : ℕ) (a b : ℕ → ℤ) (k : ℕ) → k < n → ((i : ℕ) → i < n → a i ≡ b i) → turned n g a k ≡ turned n g b k
turned_same n g a b k h e =
    turned_is n g a k h ∙ total_same n (λ i. a i *ℤ power n (i * g) k) (λ i. b i *ℤ power n (i * g) k) (λ i l. ap (λ (z : ℤ). z *ℤ power n (i * g) k) (e i l))
    ∙ sym (turned_is n g b k h)

-- a sum of multiples goes to the sum of the multiples of the images
turned_total : (n g m : ℕ) (a : ℕ → ℤ) (f : ℕ → ℕ → ℤ) (k : ℕ) → k < n → turned n g (λ x. total m (λ i. a i *ℤ f i x)) k ≡ total m (λ i. a i *ℤ turned n g (f i) k)
turned_total n g m a f k h =
    turned_is n g (λ x. total m (λ i. a i *ℤ f i x)) k h
    ∙ total_same n (λ j. total m (λ i. a i *ℤ f i j) *ℤ power n (j * g) k) (λ j. total m (λ i. a i *ℤ (f i j *ℤ power n (j * g) k)))
    (λ j l. times_commutes (total m (λ i. a i *ℤ f i j)) (power n (j * g) k) ∙ sym (total_times m (power n (j * g) k) (λ i. a i *ℤ f i j))
    ∙ total_same m (λ i. power n (j * g) k *ℤ (a i *ℤ f i j)) (λ i. a i *ℤ (f i j *ℤ power n (j * g) k)) (λ i l'. times_commutes (power n (j * g) k) (a i *ℤ f i j) ∙ times_times (a i) (f i j) (power n (j * g) k)))
    ∙ total_swap n m (λ j i. a i *ℤ (f i j *ℤ power n (j * g) k))
    ∙ total_same m (λ i. total n (λ j. a i *ℤ (f i j *ℤ power n (j * g) k))) (λ i. a i *ℤ turned n g (f i) k)
    (λ i l. total_times n (a i) (λ j. f i j *ℤ power n (j * g) k) ∙ ap (λ (z : ℤ). a i *ℤ z) (sym (turned_is n g (f i) k h)))

-- the image of a sum
pub turned_sum : (n g : ℕ) (a b : ℕ → ℤ) (k : ℕ) → k < n → turned n g (plus a b) k ≡ turned n g a k +ℤ turned n g b k
turned_sum n g a b k h =
    turned_is n g (plus a b) k h
    ∙ total_same n (λ i. plus a b i *ℤ power n (i * g) k) (λ i. a i *ℤ power n (i * g) k +ℤ b i *ℤ power n (i * g) k) (λ i l. sum_times (a i) (b i) (power n (i * g) k))
    ∙ total_sum n (λ i. a i *ℤ power n (i * g) k) (λ i. b i *ℤ power n (i * g) k)
    ∙ ap (λ (z : ℤ). z +ℤ total n (λ i. b i *ℤ power n (i * g) k)) (sym (turned_is n g a k h)) ∙ ap (λ (z : ℤ). turned n g a k +ℤ z) (sym (turned_is n g b k h))

-- the image of a negative
pub turned_negative : (n g : ℕ) (a : ℕ → ℤ) (k : ℕ) → k < n → turned n g (negated a) k ≡ neg_ℤ (turned n g a k)
turned_negative n g a k h =
    turned_is n g (negated a) k h
    ∙ total_same n (λ i. negated a i *ℤ power n (i * g) k) (λ i. neg_ℤ (a i *ℤ power n (i * g) k)) (λ i l. negative_times (a i) (power n (i * g) k))
    ∙ total_negative n (λ i. a i *ℤ power n (i * g) k) ∙ ap neg_ℤ (sym (turned_is n g a k h))

-- the image of a multiple
pub turned_times : (n g : ℕ) (z : ℤ) (a : ℕ → ℤ) (k : ℕ) → k < n → turned n g (times z a) k ≡ z *ℤ turned n g a k
turned_times n g z a k h =
    turned_is n g (times z a) k h
    ∙ total_same n (λ i. times z a i *ℤ power n (i * g) k) (λ i. z *ℤ (a i *ℤ power n (i * g) k)) (λ i l. times_times z (a i) (power n (i * g) k))
    ∙ total_times n z (λ i. a i *ℤ power n (i * g) k) ∙ ap (λ (x : ℤ). z *ℤ x) (sym (turned_is n g a k h))

-- the image of X times b is X^g times the image of b
turned_one : (n g : ℕ) (b : ℕ → ℤ) (k : ℕ) → k < n → g % 2 ≡ 1 → turned n g (shifted n 1 b) k ≡ wrapped n (power n g) (turned n g b) k
unfolding total
turned_one zero g b k h odd = absurd (omega arith)
turned_one (suc m) g b k h odd =
    let n = suc m in
    let head : shifted n 1 b 0 *ℤ power n (0 * g) k ≡ b m *ℤ power n (n * g) k =
    ap (λ (z : ℤ). z *ℤ power n (0 * g) k) (shifted_high n 1 b 0 (omega arith) ∙ ap (λ (x : ℕ). neg_ℤ (b x)) (omega arith))
    ∙ negative_times (b m) (power n (0 * g) k) ∙ sym (times_negative (b m) (power n (0 * g) k))
    ∙ ap (λ (x : ℕ). b m *ℤ neg_ℤ (power n x k)) (omega arith)
    ∙ ap (λ (z : ℤ). b m *ℤ z) (sym (power_half n g k h odd)) in
    let rest : total m (λ i. shifted n 1 b (suc i) *ℤ power n (suc i * g) k) ≡ total m (λ i. b i *ℤ power n (suc i * g) k) =
    total_same m (λ i. shifted n 1 b (suc i) *ℤ power n (suc i * g) k) (λ i. b i *ℤ power n (suc i * g) k)
    (λ i l. ap (λ (z : ℤ). z *ℤ power n (suc i * g) k) (shifted_low n 1 b (suc i) (omega arith) ∙ ap b (omega arith))) in
    let image : wrapped n (power n g) (turned n g b) k ≡ total n (λ i. b i *ℤ power n (suc i * g) k) =
    wrapped_commutes n (power n g) (turned n g b) k h
    ∙ wrapped_same n (turned n g b) (power n g) (λ x. total n (λ i. b i *ℤ power n (i * g) x)) (power n g) k h (λ j l. turned_is n g b j l) (λ j l. refl)
    ∙ wrapped_total n n b (λ i. power n (i * g)) (power n g) k
    ∙ total_same n (λ i. b i *ℤ wrapped n (power n (i * g)) (power n g) k) (λ i. b i *ℤ power n (suc i * g) k)
    (λ i l. ap (λ (z : ℤ). b i *ℤ z) (power_sum n (i * g) g k h ∙ ap (λ (x : ℕ). power n x k) (omega arith))) in
    turned_is n g (shifted n 1 b) k h
    ∙ total_first m (λ i. shifted n 1 b i *ℤ power n (i * g) k)
    ∙ ap (λ (z : ℤ). z +ℤ total m (λ i. shifted n 1 b (suc i) *ℤ power n (suc i * g) k)) head
    ∙ ap (λ (z : ℤ). b m *ℤ power n (n * g) k +ℤ z) rest
    ∙ omega (arith, sums)
    ∙ sym image

-- the image of X^i times b is X^(i*g) times the image of b
turned_shifted : (n g i : ℕ) (b : ℕ → ℤ) (k : ℕ) → i ≤ n → k < n → g % 2 ≡ 1 → turned n g (shifted n i b) k ≡ wrapped n (power n (i * g)) (turned n g b) k
turned_shifted n g zero b k l h odd =
    turned_same n g (shifted n 0 b) b k h (λ j p. shifted_none n b j) ∙ sym (power_zero n (turned n g b) k h)
    ∙ ap (λ (x : ℕ). wrapped n (power n x) (turned n g b) k) (omega arith)
turned_shifted n g (suc i) b k l h odd =
    turned_same n g (shifted n (suc i) b) (shifted n 1 (shifted n i b)) k h (λ j p. shifted_next n i b j (omega arith) p)
    ∙ turned_one n g (shifted n i b) k h odd
    ∙ wrapped_same n (power n g) (turned n g (shifted n i b)) (power n g) (wrapped n (power n (i * g)) (turned n g b)) k h (λ j p. refl) (λ j p. turned_shifted n g i b j (omega arith) p odd)
    ∙ sym (wrapped_associates n (power n g) (power n (i * g)) (turned n g b) k h)
    ∙ wrapped_same n (wrapped n (power n g) (power n (i * g))) (turned n g b) (power n (suc i * g)) (turned n g b) k h
    (λ j p. power_sum n g (i * g) j p ∙ ap (λ (x : ℕ). power n x j) (omega arith)) (λ j p. refl)

-- the image of a product is the product of the images
pub turned_product : (n g : ℕ) (a b : ℕ → ℤ) (k : ℕ) → k < n → g % 2 ≡ 1 → turned n g (wrapped n a b) k ≡ wrapped n (turned n g a) (turned n g b) k
turned_product n g a b k h odd =
    turned_same n g (wrapped n a b) (λ x. total n (λ i. a i *ℤ shifted n i b x)) k h (λ j l. wrapped_is n a b j)
    ∙ turned_total n g n a (λ i. shifted n i b) k h
    ∙ total_same n (λ i. a i *ℤ turned n g (shifted n i b) k) (λ i. a i *ℤ wrapped n (power n (i * g)) (turned n g b) k)
    (λ i l. ap (λ (z : ℤ). a i *ℤ z) (turned_shifted n g i b k (omega arith) h odd))
    ∙ sym (wrapped_total n n a (λ i. power n (i * g)) (turned n g b) k)
    ∙ wrapped_same n (λ x. total n (λ i. a i *ℤ power n (i * g) x)) (turned n g b) (turned n g a) (turned n g b) k h (λ j l. sym (turned_is n g a j l)) (λ j l. refl)

-- ---- lists of residues

-- the images of polynomials that agree modulo q agree
pub agree_turned : {q n : ℕ} {a b : ℕ → ℤ} (g : ℕ) → Agree q n a b → Agree q n (turned n g a) (turned n g b)
agree_turned {q} {n} {a} {b} g c = record {
  each = λ k h.
      congruent_chain (congruent_equal q (turned n g a k) (total n (λ i. a i *ℤ power n (i * g) k)) (turned_is n g a k h))
      (congruent_chain
      (total_congruent q n (λ i. a i *ℤ power n (i * g) k) (λ i. b i *ℤ power n (i * g) k) (λ i l. congruent_product (c.each i l) (congruent_self q (power n (i * g) k))))
      (congruent_equal q (total n (λ i. b i *ℤ power n (i * g) k)) (turned n g b k) (sym (turned_is n g b k h))));
}

-- the coefficients of an image, from those of the list
pub turned_agrees : {q n : ℕ} {a : ℕ → ℤ} (g : ℕ) (f : List ℕ) → 0 < q → Agree q n (coefficient f) a → Agree q n (coefficient (ring_turned q n g f)) (turned n g a)
unfolding ring_turned
turned_agrees {q} {n} g f h c = agree_chain (coefficients_agree q n (turned n g (coefficient f)) h) (agree_turned g c)

-- an image is a polynomial of the ring
pub turned_poly : (q n g : ℕ) (f : List ℕ) → 0 < q → IsPoly q n (ring_turned q n g f)
unfolding ring_turned
turned_poly q n g f h = residues_poly q n (turned n g (coefficient f)) h

-- the image of residues is the residues of the image
pub turned_residues : (q n g : ℕ) (a : ℕ → ℤ) → 0 < q → ring_turned q n g (residues q n a) ≡ residues q n (turned n g a)
unfolding ring_turned
turned_residues q n g a h = residues_same q n (turned n g (coefficient (residues q n a))) (turned n g a) h (agree_turned g (coefficients_agree q n a h))

-- the image of a sum is the sum of the images
pub ring_turned_sum : (q n g : ℕ) (f h : List ℕ) → 0 < q → ring_turned q n g (ring_sum q n f h) ≡ ring_sum q n (ring_turned q n g f) (ring_turned q n g h)
ring_turned_sum q n g f h p =
    let F = coefficient f in let H = coefficient h in
    by_coefficients (turned n g (plus F H)) (plus (turned n g F) (turned n g H)) (ring_turned q n g (ring_sum q n f h)) (ring_sum q n (ring_turned q n g f) (ring_turned q n g h)) p
    (turned_poly q n g (ring_sum q n f h) p) (sum_poly q n (ring_turned q n g f) (ring_turned q n g h) p)
    (turned_agrees g (ring_sum q n f h) p (sum_agrees f h p (agree_self q n F) (agree_self q n H)))
    (sum_agrees (ring_turned q n g f) (ring_turned q n g h) p (turned_agrees g f p (agree_self q n F)) (turned_agrees g h p (agree_self q n H)))
    (λ i l. turned_sum n g F H i l)

-- the image of a product is the product of the images
pub ring_turned_product : (q n g : ℕ) (f h : List ℕ) → 0 < q → g % 2 ≡ 1 → ring_turned q n g (ring_product q n f h) ≡ ring_product q n (ring_turned q n g f) (ring_turned q n g h)
ring_turned_product q n g f h p odd =
    let F = coefficient f in let H = coefficient h in
    by_coefficients (turned n g (wrapped n F H)) (wrapped n (turned n g F) (turned n g H)) (ring_turned q n g (ring_product q n f h)) (ring_product q n (ring_turned q n g f) (ring_turned q n g h)) p
    (turned_poly q n g (ring_product q n f h) p) (product_poly q n (ring_turned q n g f) (ring_turned q n g h) p)
    (turned_agrees g (ring_product q n f h) p (product_agrees f h p (agree_self q n F) (agree_self q n H)))
    (product_agrees (ring_turned q n g f) (ring_turned q n g h) p (turned_agrees g f p (agree_self q n F)) (turned_agrees g h p (agree_self q n H)))
    (λ i l. turned_product n g F H i l odd)
