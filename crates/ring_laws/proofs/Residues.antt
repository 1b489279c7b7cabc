-- Lists of residues: a ring operation on the residues of polynomials gives the residues of what the
-- operation gives over the whole numbers.
use Rattle.std.proofs.Common.{◌≡◌, ℕ, ◌<◌, List, length, get_or, sym, ap, ◌∙◌, arith}
use Rattle.std.specs.Prelude.{ℤ, pos}
use Rattle.std.proofs.lemmas.List.FromFn.{length-map-range_with_len, get_or-map-range_with_len, fill_by_all}
use Rattle.std.proofs.lemmas.List.Elements.{All-from_get_or, All-get_or}
use Rattle.ring_spec.specs.Ring.{wrapped, residue, residues, plus, minus, negated, times, coefficient, IsPoly, ring_sum, ring_difference, ring_negative, ring_multiple, ring_product}
use Rattle.ring_laws.specs.Congruence.{Agree}
use Rattle.ring_laws.proofs.Congruences.{residue_below, residue_congruent, residue_same, residue_itself, congruent_equal, congruent_chain, agree_sum, agree_difference, agree_negative, agree_times, agree_product}

-- ---- the list of the residues of a polynomial

-- it has n entries
pub length_residues : (q n : ℕ) (a : ℕ → ℤ) → length (residues q n a) ≡ n
unfolding residues
length_residues q n a = length-map-range_with_len (λ i. residue q (a i)) 0 n

-- entry i is the residue of coefficient i
pub residues_at : (q n : ℕ) (a : ℕ → ℤ) (i : ℕ) → i < n → get_or (residues q n a) i 0 ≡ residue q (a i)
unfolding residues
residues_at q n a i h = get_or-map-range_with_len (λ j. residue q (a j)) 0 n i i 0 h (omega arith)

-- a list of n entries is what its entries say
pub residues_unique : (q n : ℕ) (a : ℕ → ℤ) (f : List ℕ) → length f ≡ n → ((i : ℕ) → i < n → get_or f i 0 ≡ residue q (a i)) → f ≡ residues q n a
unfolding residues
residues_unique q n a f e h = fill_by_all (λ i. residue q (a i)) f n 0 e h

-- it is a polynomial of the ring
pub residues_poly : (q n : ℕ) (a : ℕ → ℤ) → 0 < q → IsPoly q n (residues q n a)
residues_poly q n a h = record {
  entries = length_residues q n a;
  below = All-from_get_or (λ x. x < q) (residues q n a) 0
      (λ i l. let l' : i < n = omega (arith, length_residues q n a) in rw (residues_at q n a i l') (residue_below q (a i) h));
}

-- polynomials that agree modulo q have the same residues
pub residues_same : (q n : ℕ) (a b : ℕ → ℤ) → 0 < q → Agree q n a b → residues q n a ≡ residues q n b
residues_same q n a b h c =
    residues_unique q n b (residues q n a) (length_residues q n a) (λ i l. residues_at q n a i l ∙ residue_same q (a i) (b i) h (c.each i l))

-- so do polynomials that are equal at each place below n
pub residues_equal : (q n : ℕ) (a b : ℕ → ℤ) → ((i : ℕ) → i < n → a i ≡ b i) → residues q n a ≡ residues q n b
residues_equal q n a b e =
    residues_unique q n b (residues q n a) (length_residues q n a) (λ i l. residues_at q n a i l ∙ ap (residue q) (e i l))

-- the coefficients of the list agree with those of the polynomial
pub coefficients_agree : (q n : ℕ) (a : ℕ → ℤ) → 0 < q → Agree q n (coefficient (residues q n a)) a
coefficients_agree q n a h = record {
  each = λ i l. congruent_chain (congruent_equal q (coefficient (residues q n a) i) (pos (residue q (a i))) (ap pos (residues_at q n a i l))) (residue_congruent q (a i) h);
}

-- an entry of a polynomial of the ring is below q
pub entry_below : (q n : ℕ) (f : List ℕ) (i : ℕ) → IsPoly q n f → i < n → get_or f i 0 < q
entry_below q n f i p h = All-get_or (λ x. x < q) f i 0 (omega (arith, p.entries)) p.below

-- a polynomial of the ring is the list of the residues of its coefficients
pub residues_coefficient : (q n : ℕ) (f : List ℕ) → IsPoly q n f → residues q n (coefficient f) ≡ f
residues_coefficient q n f p =
    sym (residues_unique q n (coefficient f) f p.entries (λ i l. sym (residue_itself q (get_or f i 0) (entry_below q n f i p l))))

-- two polynomials of the ring whose coefficients agree modulo q are equal
pub same_polys : (q n : ℕ) (f g : List ℕ) → 0 < q → IsPoly q n f → IsPoly q n g → Agree q n (coefficient f) (coefficient g) → f ≡ g
same_polys q n f g h p r c =
    sym (residues_coefficient q n f p) ∙ residues_same q n (coefficient f) (coefficient g) h c ∙ residues_coefficient q n g r

-- ---- the operations on lists of residues

-- the sum of residues is the residues of the sum
pub sum_residues : (q n : ℕ) (a b : ℕ → ℤ) → 0 < q → ring_sum q n (residues q n a) (residues q n b) ≡ residues q n (plus a b)
unfolding ring_sum
sum_residues q n a b h =
    residues_same q n (plus (coefficient (residues q n a)) (coefficient (residues q n b))) (plus a b) h
    (agree_sum (coefficients_agree q n a h) (coefficients_agree q n b h))

-- the same of a difference
pub difference_residues : (q n : ℕ) (a b : ℕ → ℤ) → 0 < q → ring_difference q n (residues q n a) (residues q n b) ≡ residues q n (minus a b)
unfolding ring_difference
difference_residues q n a b h =
    residues_same q n (minus (coefficient (residues q n a)) (coefficient (residues q n b))) (minus a b) h
    (agree_difference (coefficients_agree q n a h) (coefficients_agree q n b h))

-- the same of a negative
pub negative_residues : (q n : ℕ) (a : ℕ → ℤ) → 0 < q → ring_negative q n (residues q n a) ≡ residues q n (negated a)
unfolding ring_negative
negative_residues q n a h =
    residues_same q n (negated (coefficient (residues q n a))) (negated a) h (agree_negative (coefficients_agree q n a h))

-- the same of a multiple
pub multiple_residues : (q n k : ℕ) (a : ℕ → ℤ) → 0 < q → ring_multiple q n k (residues q n a) ≡ residues q n (times (pos k) a)
unfolding ring_multiple
multiple_residues q n k a h =
    residues_same q n (times (pos k) (coefficient (residues q n a))) (times (pos k) a) h (agree_times (pos k) (coefficients_agree q n a h))

-- the same of a product
pub product_residues : (q n : ℕ) (a b : ℕ → ℤ) → 0 < q → ring_product q n (residues q n a) (residues q n b) ≡ residues q n (wrapped n a b)
unfolding ring_product
product_residues q n a b h =
    residues_same q n (wrapped n (coefficient (residues q n a)) (coefficient (residues q n b))) (wrapped n a b) h
    (agree_product (coefficients_agree q n a h) (coefficients_agree q n b h))

-- ---- each operation gives a polynomial of the ring

-- a sum is a polynomial of the ring, whatever the lists
pub sum_poly : (q n : ℕ) (f g : List ℕ) → 0 < q → IsPoly q n (ring_sum q n f g)
unfolding ring_sum
sum_poly q n f g h = residues_poly q n (plus (coefficient f) (coefficient g)) h

-- so is a difference
pub difference_poly : (q n : ℕ) (f g : List ℕ) → 0 < q → IsPoly q n (ring_difference q n f g)
unfolding ring_difference
difference_poly q n f g h = residues_poly q n (minus (coefficient f) (coefficient g)) h

-- so is a negative
pub negative_poly : (q n : ℕ) (f : List ℕ) → 0 < q → IsPoly q n (ring_negative q n f)
unfolding ring_negative
negative_poly q n f h = residues_poly q n (negated (coefficient f)) h

-- so is a multiple
pub multiple_poly : (q n k : ℕ) (f : List ℕ) → 0 < q → IsPoly q n (ring_multiple q n k f)
unfolding ring_multiple
multiple_poly q n k f h = residues_poly q n (times (pos k) (coefficient f)) h

-- so is a product
pub product_poly : (q n : ℕ) (f g : List ℕ) → 0 < q → IsPoly q n (ring_product q n f g)
unfolding ring_product
product_poly q n f g h = residues_poly q n (wrapped n (coefficient f) (coefficient g)) h
