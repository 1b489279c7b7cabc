-- Whole numbers modulo q: what sums, products and residues make of numbers that agree.
use Rattle.std.proofs.Common.{◌≡◌, ℕ, zero, suc, ◌+◌, ◌-◌, ◌/◌, ◌<◌, refl, sym, ap, ◌∙◌, inl, inr, arith}
use Rattle.std.specs.Prelude.{ℤ, pos, negsuc, ◌+ℤ◌, ◌-ℤ◌, ◌*ℤ◌, neg_ℤ}
use Rattle.std.proofs.lemmas.Bool.{cases_lt}
use Rattle.ring_spec.specs.Ring.{total, wrapped, residue, plus, minus, negated, times}
use Rattle.ring_laws.specs.Congruence.{IsCongruent, Agree}
use Rattle.ring_laws.proofs.Integers.{sums, times_sum, times_times, times_commutes, times_negative, times_zero}
use Rattle.ring_laws.proofs.Products.{shifted, shifted_low, shifted_high, wrapped_is}

-- ---- numbers

-- a number agrees with what it is equal to
pub congruent_equal : (q : ℕ) (z w : ℤ) → z ≡ w → IsCongruent q z w
congruent_equal q z w e = record { k = pos 0; is = e ∙ (omega (arith, sums, times_zero (pos q))) }

-- a number agrees with itself
pub congruent_self : (q : ℕ) (z : ℤ) → IsCongruent q z z
congruent_self q z = congruent_equal q z z refl

-- agreement goes both ways
pub congruent_back : {q : ℕ} {z w : ℤ} → IsCongruent q z w → IsCongruent q w z
congruent_back {q} {z} {w} c = record { k = neg_ℤ c.k; is = omega (arith, sums, c.is, times_negative (pos q) c.k) }

-- numbers that agree with one number agree
pub congruent_chain : {q : ℕ} {z w x : ℤ} → IsCongruent q z w → IsCongruent q w x → IsCongruent q z x
congruent_chain {q} {z} {w} {x} c d =
    record { k = c.k +ℤ d.k; is = omega (arith, sums, c.is, d.is, times_sum (pos q) c.k d.k) }

-- sums of numbers that agree
pub congruent_sum : {q : ℕ} {z w x y : ℤ} → IsCongruent q z w → IsCongruent q x y → IsCongruent q (z +ℤ x) (w +ℤ y)
congruent_sum {q} {z} {w} {x} {y} c d =
    record { k = c.k +ℤ d.k; is = omega (arith, sums, c.is, d.is, times_sum (pos q) c.k d.k) }

-- negatives of numbers that agree
pub congruent_negative : {q : ℕ} {z w : ℤ} → IsCongruent q z w → IsCongruent q (neg_ℤ z) (neg_ℤ w)
congruent_negative {q} {z} {w} c = record { k = neg_ℤ c.k; is = omega (arith, sums, c.is, times_negative (pos q) c.k) }

-- differences of numbers that agree
pub congruent_difference : {q : ℕ} {z w x y : ℤ} → IsCongruent q z w → IsCongruent q x y → IsCongruent q (z -ℤ x) (w -ℤ y)
congruent_difference c d = congruent_sum c (congruent_negative d)

-- multiples of numbers that agree
pub congruent_times : {q : ℕ} {z w : ℤ} (x : ℤ) → IsCongruent q z w → IsCongruent q (x *ℤ z) (x *ℤ w)
congruent_times {q} {z} {w} x c = record {
  k = x *ℤ c.k;
  is = ap (λ (y : ℤ). x *ℤ y) c.is ∙ times_sum x w (pos q *ℤ c.k)
      ∙ ap (λ (y : ℤ). x *ℤ w +ℤ y) (sym (times_times x (pos q) c.k) ∙ ap (λ (y : ℤ). y *ℤ c.k) (times_commutes x (pos q)) ∙ times_times (pos q) x c.k);
}

-- products of numbers that agree
pub congruent_product : {q : ℕ} {z w x y : ℤ} → IsCongruent q z w → IsCongruent q x y → IsCongruent q (z *ℤ x) (w *ℤ y)
congruent_product {q} {z} {w} {x} {y} c d =
    congruent_chain (congruent_times z d)
    (congruent_chain (congruent_equal q (z *ℤ y) (y *ℤ z) (times_commutes z y)) (congruent_chain (congruent_times y c) (congruent_equal q (y *ℤ w) (w *ℤ y) (times_commutes y w))))

-- a multiple of q agrees with nothing
pub congruent_multiple : (q : ℕ) (z : ℤ) → IsCongruent q (pos q *ℤ z) (pos 0)
congruent_multiple q z = record { k = z; is = omega (arith, sums) }

-- ---- residues

-- two numbers from 0 to q - 1 that agree modulo q are equal
pub same_below : (q x y : ℕ) (k : ℤ) → x < q → y < q → pos x ≡ pos y +ℤ pos q *ℤ k → x ≡ y
same_below q x y (pos zero) h l e = omega (arith, sums, e, times_zero (pos q))
same_below q x y (pos (suc k)) h l e = absurd (omega (arith, sums, e))
same_below q x y (negsuc k) h l e = absurd (omega (arith, sums, e, times_negative (pos q) (pos (suc k))))

-- a residue is below q
pub residue_below : (q : ℕ) (z : ℤ) → 0 < q → residue q z < q
unfolding residue
residue_below q (pos a) h = omega arith
residue_below q (negsuc a) h = omega arith

-- and differs from the number by a multiple of q
pub residue_congruent : (q : ℕ) (z : ℤ) → 0 < q → IsCongruent q (pos (residue q z)) z
unfolding residue
residue_congruent q (pos a) h = record { k = neg_ℤ (pos (a / q)); is = omega (arith, sums, times_negative (pos q) (pos (a / q))) }
residue_congruent q (negsuc a) h = record { k = pos (a / q + 1); is = omega (arith, sums) }

-- a number from 0 to q - 1 that agrees with z is its residue
pub residue_unique : (q x : ℕ) (z : ℤ) → x < q → IsCongruent q (pos x) z → residue q z ≡ x
residue_unique q x z h c =
    let d : IsCongruent q (pos (residue q z)) (pos x) = congruent_chain (residue_congruent q z (omega arith)) (congruent_back c) in
    same_below q (residue q z) x d.k (residue_below q z (omega arith)) h d.is

-- numbers that agree modulo q have the same residue
pub residue_same : (q : ℕ) (z w : ℤ) → 0 < q → IsCongruent q z w → residue q z ≡ residue q w
residue_same q z w h c = residue_unique q (residue q w) z (residue_below q w h) (congruent_chain (residue_congruent q w h) (congruent_back c))

-- a number from 0 to q - 1 is its own residue
pub residue_itself : (q x : ℕ) → x < q → residue q (pos x) ≡ x
residue_itself q x h = residue_unique q x (pos x) h (congruent_self q (pos x))

-- ---- polynomials

-- a sum of terms that agree
pub total_congruent : (q n : ℕ) (f g : ℕ → ℤ) → ((i : ℕ) → i < n → IsCongruent q (f i) (g i)) → IsCongruent q (total n f) (total n g)
unfolding total
total_congruent q zero f g c = congruent_self q (pos 0)
total_congruent q (suc n) f g c = congruent_sum (total_congruent q n f g (λ i l. c i (omega arith))) (c n (omega arith))

-- polynomials that are equal at each place below n agree
pub agree_equal : (q n : ℕ) (a b : ℕ → ℤ) → ((i : ℕ) → i < n → a i ≡ b i) → Agree q n a b
agree_equal q n a b e = record { each = λ i l. congruent_equal q (a i) (b i) (e i l) }

-- a polynomial agrees with itself
pub agree_self : (q n : ℕ) (a : ℕ → ℤ) → Agree q n a a
agree_self q n a = record { each = λ i l. congruent_self q (a i) }

-- agreement goes both ways
pub agree_back : {q n : ℕ} {a b : ℕ → ℤ} → Agree q n a b → Agree q n b a
agree_back c = record { each = λ i l. congruent_back (c.each i l) }

-- polynomials that agree with one polynomial agree
pub agree_chain : {q n : ℕ} {a b c : ℕ → ℤ} → Agree q n a b → Agree q n b c → Agree q n a c
agree_chain c d = record { each = λ i l. congruent_chain (c.each i l) (d.each i l) }

-- sums of polynomials that agree
pub agree_sum : {q n : ℕ} {a b c d : ℕ → ℤ} → Agree q n a c → Agree q n b d → Agree q n (plus a b) (plus c d)
agree_sum c d = record { each = λ i l. congruent_sum (c.each i l) (d.each i l) }

-- differences of polynomials that agree
pub agree_difference : {q n : ℕ} {a b c d : ℕ → ℤ} → Agree q n a c → Agree q n b d → Agree q n (minus a b) (minus c d)
agree_difference c d = record { each = λ i l. congruent_difference (c.each i l) (d.each i l) }

-- negatives of polynomials that agree
pub agree_negative : {q n : ℕ} {a b : ℕ → ℤ} → Agree q n a b → Agree q n (negated a) (negated b)
agree_negative c = record { each = λ i l. congruent_negative (c.each i l) }

-- multiples of polynomials that agree
pub agree_times : {q n : ℕ} {a b : ℕ → ℤ} (z : ℤ) → Agree q n a b → Agree q n (times z a) (times z b)
agree_times z c = record { each = λ i l. congruent_times z (c.each i l) }

shifted_congruent : {q n : ℕ} {b d : ℕ → ℤ} (i k : ℕ) → i < n → k < n → Agree q n b d → IsCongruent q (shifted n i b k) (shifted n i d k)
shifted_congruent {q} {n} {b} {d} i k h l c = elim (cases_lt k i) [
  | inl p ↦ congruent_chain (congruent_equal q (shifted n i b k) (neg_ℤ (b (k + n - i))) (shifted_high n i b k p))
      (congruent_chain (congruent_negative (c.each (k + n - i) (omega arith))) (congruent_equal q (neg_ℤ (d (k + n - i))) (shifted n i d k) (sym (shifted_high n i d k p))))
  | inr p ↦ congruent_chain (congruent_equal q (shifted n i b k) (b (k - i)) (shifted_low n i b k p))
      (congruent_chain (c.each (k - i) (omega arith)) (congruent_equal q (d (k - i)) (shifted n i d k) (sym (shifted_low n i d k p))))
]

-- a product of polynomials that agree
pub agree_product : {q n : ℕ} {a b c d : ℕ → ℤ} → Agree q n a c → Agree q n b d → Agree q n (wrapped n a b) (wrapped n c d)
agree_product {q} {n} {a} {b} {c} {d} ac bd = record {
  each = λ k h.
      congruent_chain (congruent_equal q (wrapped n a b k) (total n (λ i. a i *ℤ shifted n i b k)) (wrapped_is n a b k))
      (congruent_chain
      (total_congruent q n (λ i. a i *ℤ shifted n i b k) (λ i. c i *ℤ shifted n i d k) (λ i l. congruent_product (ac.each i l) (shifted_congruent i k l h bd)))
      (congruent_equal q (total n (λ i. c i *ℤ shifted n i d k)) (wrapped n c d k) (sym (wrapped_is n c d k))));
}
