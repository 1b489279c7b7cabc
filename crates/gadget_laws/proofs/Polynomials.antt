-- The polynomials of digits: of the ring, small, and with their weights they make up the polynomial.
use Rattle.std.proofs.Common.{◌≡◌, ℕ, zero, suc, ◌+◌, ◌<◌, List, [], ◌∷◌, map, get_or, refl, ap, ◌∙◌, sym, arith}
use Rattle.std.specs.Prelude.{Bool, true, false, cond, ℤ, pos, ◌+ℤ◌, ◌*ℤ◌}
use Rattle.std.specs.List.{range_with_len}
use Rattle.ring_spec.specs.Ring.{total, coefficient, centre, IsPoly, ring_multiple}
use Rattle.ring_spec.specs.Aggregate.{ring_total}
use Rattle.ring_laws.specs.Congruence.{IsCongruent, Agree}
use Rattle.gadget_spec.specs.Digits.{Gadget, Serves, weight, digit_at, digit_poly, digit_polys}
use Rattle.gadget_laws.specs.Digits.{weighted}
use Rattle.gadget_laws.specs.Switching.{weighted_poly, PolynomialsMakeUp, DigitsArePolynomials, PolynomialsAreSmall}
use Rattle.ring_laws.proofs.Totals.{total_first, total_same}
use Rattle.ring_laws.proofs.Congruences.{congruent_chain, congruent_equal, congruent_self, congruent_times, total_congruent, agree_self, agree_chain}
use Rattle.ring_laws.proofs.Residues.{residues_poly, coefficients_agree, entry_below, same_polys}
use Rattle.ring_laws.proofs.Rings.{sum_agrees, multiple_agrees}
use Rattle.ring_laws.proofs.Aggregates.{total_poly}
use Rattle.ring_laws.proofs.Sizes.{size_residues, centre_congruent}
use Rattle.gadget_laws.proofs.Digits.{digits_make_up, digits_are_small}

pub digits_are_polynomials : DigitsArePolynomials
unfolding digit_poly
digits_are_polynomials q n g f i h = residues_poly q n (digit_at q g i f) h

pub polynomials_are_small : PolynomialsAreSmall
unfolding digit_poly
polynomials_are_small q n g f i h serves p l =
    size_residues q n _ (digit_at q g i f) h (λ k r. digits_are_small q g _ i serves (entry_below q n f k p r) l)

-- ---- sums of polynomials times weights

-- polynomials times weights, the weight of the first being w 0
abbrev pub made : (ℕ → ℕ) → List (List ℕ) → ℕ → ℤ
made w [] x = pos 0
made w (d ∷ ds) x = pos (w 0) *ℤ coefficient d x +ℤ made (λ k. w (suc k)) ds x

-- the list of these products
abbrev weighted_by : ℕ → ℕ → (ℕ → ℕ) → List (List ℕ) → List (List ℕ)
weighted_by q n w [] = []
weighted_by q n w (d ∷ ds) = ring_multiple q n (w 0) d ∷ weighted_by q n (λ k. w (suc k)) ds

-- for polynomials made one after the other it is a sum over their numbers
made_total : (l i : ℕ) (w : ℕ → ℕ) (f : ℕ → List ℕ) (x : ℕ) →
    made w (map f (range_with_len i l)) x ≡ total l (λ k. pos (w k) *ℤ coefficient (f (i + k)) x)
unfolding total
made_total zero i w f x = refl
made_total (suc l) i w f x =
    ap (λ (z : ℤ). pos (w 0) *ℤ coefficient (f i) x +ℤ z)
    (made_total l (i + 1) (λ k. w (suc k)) f x
    ∙ total_same l (λ k. pos (w (suc k)) *ℤ coefficient (f (i + 1 + k)) x) (λ k. pos (w (suc k)) *ℤ coefficient (f (i + suc k)) x)
    (λ k r. ap (λ (y : ℕ). pos (w (suc k)) *ℤ coefficient (f y) x) (omega arith)))
    ∙ ap (λ (y : ℕ). pos (w 0) *ℤ coefficient (f y) x +ℤ total l (λ k. pos (w (suc k)) *ℤ coefficient (f (i + suc k)) x)) (let e : i ≡ i + 0 = omega arith in e)
    ∙ sym (total_first l (λ k. pos (w k) *ℤ coefficient (f (i + k)) x))

-- the polynomials of digits times their weights agree with the polynomial
pub digits_agree : (q n : ℕ) (g : Gadget) (f : List ℕ) → 0 < q → Serves q g → IsPoly q n f → Agree q n (made (weight g) (digit_polys q n g f)) (coefficient f)
unfolding digit_polys digit_poly
digits_agree q n g f h serves p = record {
  each = λ x r.
      let y = get_or f x 0 in
      congruent_chain (congruent_equal q (made (weight g) (digit_polys q n g f) x) (total g.rows (λ k. pos (weight g k) *ℤ coefficient (digit_poly q n g f (0 + k)) x)) (made_total g.rows 0 (weight g) (digit_poly q n g f) x))
      (congruent_chain (total_congruent q g.rows (λ k. pos (weight g k) *ℤ coefficient (digit_poly q n g f (0 + k)) x) (weighted q g y) (λ k l. digit_there x r k))
      (congruent_chain (congruent_equal q (total g.rows (weighted q g y)) (cond g.balanced (centre q y) (pos y)) (digits_make_up q g y serves (entry_below q n f x p r)))
      (either g.balanced y)));
}
  where
    digit_there : (x : ℕ) → x < n → (k : ℕ) → IsCongruent q (pos (weight g k) *ℤ coefficient (digit_poly q n g f (0 + k)) x) (weighted q g (get_or f x 0) k)
    digit_there x r k =
        let e : 0 + k ≡ k = omega arith in
        congruent_times (pos (weight g k))
        (congruent_chain (congruent_equal q (coefficient (digit_poly q n g f (0 + k)) x) (coefficient (digit_poly q n g f k) x) (ap (λ (y : ℕ). coefficient (digit_poly q n g f y) x) e))
        ((coefficients_agree q n (digit_at q g k f) h).each x r))

    either : (balanced : Bool) (x : ℕ) → IsCongruent q (cond balanced (centre q x) (pos x)) (pos x)
    either true x = centre_congruent q x
    either false x = congruent_self q (pos x)

-- so do their sums as polynomials of the ring
total_agrees : (q n : ℕ) (w : ℕ → ℕ) (ds : List (List ℕ)) → 0 < q → Agree q n (coefficient (ring_total q n (weighted_by q n w ds))) (made w ds)
unfolding ring_total
total_agrees q n w [] h = coefficients_agree q n (λ x. pos 0) h
total_agrees q n w (d ∷ ds) h =
    sum_agrees (ring_multiple q n (w 0) d) (ring_total q n (weighted_by q n (λ k. w (suc k)) ds)) h
    (multiple_agrees (w 0) d h (agree_self q n (coefficient d))) (total_agrees q n (λ k. w (suc k)) ds h)

pub polynomials_make_up : PolynomialsMakeUp
unfolding digit_polys
polynomials_make_up q n g f h serves p =
    ap (ring_total q n) (sym (weighted_is g.rows 0 (weight g) (λ k. ap (weight g) (let e : k ≡ 0 + k = omega arith in e))))
    ∙ same_polys q n (ring_total q n (weighted_by q n (weight g) (digit_polys q n g f))) f h (total_poly q n (weighted_by q n (weight g) (digit_polys q n g f)) h) p
    (agree_chain (total_agrees q n (weight g) (digit_polys q n g f) h) (digits_agree q n g f h serves p))
  where
    weighted_is : (l i : ℕ) (w : ℕ → ℕ) → ((k : ℕ) → w k ≡ weight g (i + k)) →
        weighted_by q n w (map (digit_poly q n g f) (range_with_len i l)) ≡ map (weighted_poly q n g f) (range_with_len i l)
    weighted_is zero i w e = refl
    weighted_is (suc l) i w e =
        ap (λ (y : ℕ). ring_multiple q n y (digit_poly q n g f i) ∷ weighted_by q n (λ k. w (suc k)) (map (digit_poly q n g f) (range_with_len (i + 1) l)))
        (e 0 ∙ ap (weight g) (let e' : i + 0 ≡ i = omega arith in e'))
        ∙ ap (λ (ds : List (List ℕ)). ring_multiple q n (weight g i) (digit_poly q n g f i) ∷ ds)
        (weighted_is l (i + 1) (λ k. w (suc k)) (λ k. e (suc k) ∙ ap (weight g) (let e' : i + suc k ≡ i + 1 + k = omega arith in e')))
