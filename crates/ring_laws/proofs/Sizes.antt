-- Sizes: the greatest absolute value among the centres of a list of residues.
use Rattle.std.proofs.Common.{◌≡◌, ℕ, zero, suc, ◌+◌, ◌-◌, ◌*◌, ◌≤◌, ◌<◌, List, [], ◌∷◌, map, length, get_or, sym, ◌∙◌, inl, inr, arith}
use Rattle.std.specs.Prelude.{ℤ, pos, negsuc, ◌+ℤ◌, ◌-ℤ◌, ◌*ℤ◌, unsigned_abs, nat_lt}
use Rattle.std.proofs.lemmas.Bool.{cases_lt, cond-true, cond-false, lt-ltb, le-ltb}
use Rattle.std.proofs.lemmas.Int.{unsigned_abs-mul}
use Rattle.std.proofs.lemmas.Nat.{mul-le}
use Rattle.std.proofs.lemmas.List.{get_or-map, length-map}
use Rattle.ring_spec.specs.Ring.{total, wrapped, centre, residues, plus, minus, negated, times, coefficient, greatest, size, IsWithin, IsPoly, ring_sum, ring_difference, ring_negative, ring_multiple, ring_product, centred}
use Rattle.ring_laws.specs.Congruence.{IsCongruent, Agree}
use Rattle.ring_laws.proofs.Integers.{sums, times_negative, abs_sum, abs_negative}
use Rattle.ring_laws.proofs.Totals.{total_within}
use Rattle.ring_laws.proofs.Products.{shifted, shifted_low, shifted_high, wrapped_is}
use Rattle.ring_laws.proofs.Congruences.{congruent_equal, congruent_back}
use Rattle.ring_laws.proofs.Residues.{residues_poly, residues_same, residues_coefficient, coefficients_agree, entry_below, sum_poly, difference_poly, negative_poly, multiple_poly, product_poly}
use Rattle.ring_laws.proofs.Rings.{sum_agrees, difference_agrees, negative_agrees, multiple_agrees, product_agrees}
use borrow.Author.Differences.{ints}

-- ---- polynomials over the whole numbers

-- bounds add up in a sum
pub within_sum : (n v w : ℕ) (a b : ℕ → ℤ) → IsWithin n v a → IsWithin n w b → IsWithin n (v + w) (plus a b)
within_sum n v w a b h l i p = omega (arith, h i p, l i p, abs_sum (a i) (b i))

-- a negative keeps the bound
pub within_negative : (n v : ℕ) (a : ℕ → ℤ) → IsWithin n v a → IsWithin n v (negated a)
within_negative n v a h i p = omega (arith, h i p, abs_negative (a i))

-- bounds add up in a difference
pub within_difference : (n v w : ℕ) (a b : ℕ → ℤ) → IsWithin n v a → IsWithin n w b → IsWithin n (v + w) (minus a b)
within_difference n v w a b h l = within_sum n v w a (negated b) h (within_negative n w b l)

-- a multiple multiplies the bound
pub within_times : (n k v : ℕ) (a : ℕ → ℤ) → IsWithin n v a → IsWithin n (k * v) (times (pos k) a)
within_times n k v a h i p = omega (arith, unsigned_abs-mul (pos k) (a i), mul-le k (unsigned_abs (a i)) k v (omega arith) (h i p))

-- a bound may be raised
pub within_more : (n v w : ℕ) (a : ℕ → ℤ) → v ≤ w → IsWithin n v a → IsWithin n w a
within_more n v w a l h i p = omega (arith, h i p)

shifted_within : (n w i : ℕ) (b : ℕ → ℤ) (k : ℕ) → i < n → k < n → IsWithin n w b → unsigned_abs (shifted n i b k) ≤ w
shifted_within n w i b k p r h = elim (cases_lt k i) [
  | inl l ↦ rw (shifted_high n i b k l, abs_negative) (h (k + n - i) (omega arith))
  | inr l ↦ rw (shifted_low n i b k l) (h (k - i) (omega arith))
]

-- a product of n terms for each coefficient
pub within_product : (n v w : ℕ) (a b : ℕ → ℤ) → IsWithin n v a → IsWithin n w b → IsWithin n (n * v * w) (wrapped n a b)
within_product n v w a b h l k p =
    rw (wrapped_is n a b k)
    (let e : unsigned_abs (total n (λ i. a i *ℤ shifted n i b k)) ≤ n * (v * w) =
    total_within n (v * w) (λ i. a i *ℤ shifted n i b k)
    (λ i r. omega (arith, unsigned_abs-mul (a i) (shifted n i b k), mul-le (unsigned_abs (a i)) (unsigned_abs (shifted n i b k)) v w (h i r) (shifted_within n w i b k r p l))) in
    omega arith)

-- ---- centres

-- the centre differs from the residue by a multiple of q
pub centre_congruent : (q x : ℕ) → IsCongruent q (centre q x) (pos x)
unfolding centre
centre_congruent q x = elim (cases_lt (2 * x) q) [
  | inl l ↦ congruent_equal q (centre q x) (pos x) (cond-true (nat_lt (2 * x) q) (pos x) (pos x -ℤ pos q) (lt-ltb (2 * x) q l))
  | inr l ↦ record { k = negsuc 0; is = cond-false (nat_lt (2 * x) q) (pos x) (pos x -ℤ pos q) (le-ltb (2 * x) q l) ∙ omega (arith, sums, times_negative (pos q) (pos 1)) }
]

-- no number of the same residue is less in absolute value
least : (q x : ℕ) (k z : ℤ) → x < q → z ≡ pos x +ℤ pos q *ℤ k → unsigned_abs (centre q x) ≤ unsigned_abs z
unfolding centre
least q x k z h e = elim (cases_lt (2 * x) q) [
  | inl l ↦ rw (cond-true (nat_lt (2 * x) q) (pos x) (pos x -ℤ pos q) (lt-ltb (2 * x) q l)) (near q x k z l e)
  | inr l ↦ rw (cond-false (nat_lt (2 * x) q) (pos x) (pos x -ℤ pos q) (le-ltb (2 * x) q l)) (far q x k z h l e)
]
  where
    near : (q x : ℕ) (k z : ℤ) → 2 * x < q → z ≡ pos x +ℤ pos q *ℤ k → x ≤ unsigned_abs z
    near q x (pos k) z l e = omega (arith, ints, e)
    near q x (negsuc k) z l e = omega (arith, ints, e, times_negative (pos q) (pos (suc k)))

    far : (q x : ℕ) (k z : ℤ) → x < q → q ≤ 2 * x → z ≡ pos x +ℤ pos q *ℤ k → unsigned_abs (pos x -ℤ pos q) ≤ unsigned_abs z
    far q x (pos k) z h l e = omega (arith, ints, e)
    far q x (negsuc k) z h l e = omega (arith, ints, e, times_negative (pos q) (pos (suc k)))

-- the centre is least in absolute value among the numbers of its residue
pub centre_least : (q x : ℕ) (z : ℤ) → x < q → IsCongruent q z (pos x) → unsigned_abs (centre q x) ≤ unsigned_abs z
centre_least q x z h c = least q x c.k z h c.is

-- ---- sizes

-- a bound on each is a bound on the greatest
pub greatest_from : (xs : List ℤ) (v : ℕ) → ((i : ℕ) → i < length xs → unsigned_abs (get_or xs i (pos 0)) ≤ v) → greatest xs ≤ v
greatest_from [] v h = omega arith
greatest_from (x ∷ xs) v h = omega (arith, h 0 (omega arith), greatest_from xs v (λ i l. h (suc i) (omega arith)))

-- each is at most the greatest
pub greatest_at : (xs : List ℤ) (i : ℕ) → i < length xs → unsigned_abs (get_or xs i (pos 0)) ≤ greatest xs
greatest_at [] i h = absurd (omega arith)
greatest_at (x ∷ xs) zero h = omega arith
greatest_at (x ∷ xs) (suc i) h = omega (arith, greatest_at xs i (omega arith))

-- entry i of the centres is the centre of entry i
centre_at : (q : ℕ) (f : List ℕ) (i : ℕ) → i < length f → get_or (map (centre q) f) i (pos 0) ≡ centre q (get_or f i 0)
centre_at q f i h = get_or-map (centre q) f i 0 (pos 0) h

-- a bound on each centre is a bound on the size
pub size_from : (q : ℕ) (f : List ℕ) (v : ℕ) → ((i : ℕ) → i < length f → unsigned_abs (centre q (get_or f i 0)) ≤ v) → size q f ≤ v
size_from q f v h =
    greatest_from (map (centre q) f) v
    (λ i l. let l' : i < length f = omega (arith, length-map f (centre q)) in rw (centre_at q f i l') (h i l'))

-- each centre is at most the size
pub size_at : (q : ℕ) (f : List ℕ) (i : ℕ) → i < length f → unsigned_abs (centre q (get_or f i 0)) ≤ size q f
size_at q f i h = rw (← centre_at q f i h) (greatest_at (map (centre q) f) i (omega (arith, length-map f (centre q))))

-- the centres of a polynomial of the ring agree with it
pub centred_agrees : (q n : ℕ) (f : List ℕ) → Agree q n (coefficient f) (centred q f)
centred_agrees q n f = record { each = λ i l. congruent_back (centre_congruent q (get_or f i 0)) }

-- and are within its size
pub centred_within : (q n : ℕ) (f : List ℕ) → IsPoly q n f → IsWithin n (size q f) (centred q f)
centred_within q n f p i h = size_at q f i (omega (arith, p.entries))

-- a polynomial of the ring is the residues of its centres
pub centred_residues : (q n : ℕ) (f : List ℕ) → 0 < q → IsPoly q n f → f ≡ residues q n (centred q f)
centred_residues q n f h p = sym (residues_coefficient q n f p) ∙ residues_same q n (coefficient f) (centred q f) h (centred_agrees q n f)

-- the size is at most any bound on a polynomial that agrees with it
pub size_within : {q n : ℕ} (v : ℕ) (f : List ℕ) (a : ℕ → ℤ) → IsPoly q n f → Agree q n (coefficient f) a → IsWithin n v a → size q f ≤ v
size_within {q} {n} v f a p c h =
    size_from q f v
    (λ i l. let l' : i < n = omega (arith, p.entries) in
    omega (arith, h i l', centre_least q (get_or f i 0) (a i) (entry_below q n f i p l') (congruent_back (c.each i l'))))

-- the residues of a polynomial within v have size at most v
pub size_residues : (q n v : ℕ) (a : ℕ → ℤ) → 0 < q → IsWithin n v a → size q (residues q n a) ≤ v
size_residues q n v a p h = size_within v (residues q n a) a (residues_poly q n a p) (coefficients_agree q n a p) h

-- ---- the size of a result

-- the size of a sum is at most the sum of the sizes
pub size_sum : (q n : ℕ) (f g : List ℕ) → 0 < q → IsPoly q n f → IsPoly q n g → size q (ring_sum q n f g) ≤ size q f + size q g
size_sum q n f g h p r =
    size_within (size q f + size q g) (ring_sum q n f g) (plus (centred q f) (centred q g)) (sum_poly q n f g h)
    (sum_agrees f g h (centred_agrees q n f) (centred_agrees q n g))
    (within_sum n (size q f) (size q g) (centred q f) (centred q g) (centred_within q n f p) (centred_within q n g r))

-- so is that of a difference
pub size_difference : (q n : ℕ) (f g : List ℕ) → 0 < q → IsPoly q n f → IsPoly q n g → size q (ring_difference q n f g) ≤ size q f + size q g
size_difference q n f g h p r =
    size_within (size q f + size q g) (ring_difference q n f g) (minus (centred q f) (centred q g)) (difference_poly q n f g h)
    (difference_agrees f g h (centred_agrees q n f) (centred_agrees q n g))
    (within_difference n (size q f) (size q g) (centred q f) (centred q g) (centred_within q n f p) (centred_within q n g r))

-- the size of a negative is at most the size
pub size_negative : (q n : ℕ) (f : List ℕ) → 0 < q → IsPoly q n f → size q (ring_negative q n f) ≤ size q f
size_negative q n f h p =
    size_within (size q f) (ring_negative q n f) (negated (centred q f)) (negative_poly q n f h)
    (negative_agrees f h (centred_agrees q n f)) (within_negative n (size q f) (centred q f) (centred_within q n f p))

-- the size of k f is at most k times that of f
pub size_multiple : (q n k : ℕ) (f : List ℕ) → 0 < q → IsPoly q n f → size q (ring_multiple q n k f) ≤ k * size q f
size_multiple q n k f h p =
    size_within (k * size q f) (ring_multiple q n k f) (times (pos k) (centred q f)) (multiple_poly q n k f h)
    (multiple_agrees k f h (centred_agrees q n f)) (within_times n k (size q f) (centred q f) (centred_within q n f p))

-- the size of a product is at most n times the product of the sizes
pub size_product : (q n : ℕ) (f g : List ℕ) → 0 < q → IsPoly q n f → IsPoly q n g → size q (ring_product q n f g) ≤ n * size q f * size q g
size_product q n f g h p r =
    size_within (n * size q f * size q g) (ring_product q n f g) (wrapped n (centred q f) (centred q g)) (product_poly q n f g h)
    (product_agrees f g h (centred_agrees q n f) (centred_agrees q n g))
    (within_product n (size q f) (size q g) (centred q f) (centred q g) (centred_within q n f p) (centred_within q n g r))
