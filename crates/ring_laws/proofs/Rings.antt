-- The laws of the ring on lists of residues. An expression of ring operations has coefficients that
-- agree with the same expression over the whole numbers, so two expressions are equal where those are.
use Rattle.std.proofs.Common.{◌≡◌, ℕ, ◌+◌, ◌*◌, ◌<◌, List, refl, sym, ap, ◌∙◌, arith}
use Rattle.std.specs.Prelude.{ℤ, pos}
use Rattle.ring_spec.specs.Ring.{wrapped, residues, plus, minus, negated, times, coefficient, IsPoly, ring_sum, ring_difference, ring_negative, ring_multiple, ring_product}
use Rattle.ring_laws.specs.Congruence.{Agree}
use Rattle.ring_laws.proofs.Integers.{sums, sum_times, times_sum, times_times}
use Rattle.ring_laws.proofs.Products.{wrapped_commutes, wrapped_sum_left, wrapped_difference_left, wrapped_negative_left, wrapped_times_left, wrapped_zero_left}
use Rattle.ring_laws.proofs.Associates.{wrapped_associates}
use Rattle.ring_laws.proofs.Congruences.{agree_equal, agree_self, agree_back, agree_chain, agree_sum, agree_difference, agree_negative, agree_times, agree_product}
use Rattle.ring_laws.proofs.Residues.{residues_equal, residues_poly, coefficients_agree, same_polys, sum_poly, difference_poly, negative_poly, multiple_poly, product_poly}

-- ---- the coefficients of an expression

-- the coefficients of a sum, from those of its parts
pub sum_agrees : {q n : ℕ} {a b : ℕ → ℤ} (f g : List ℕ) → 0 < q → Agree q n (coefficient f) a → Agree q n (coefficient g) b → Agree q n (coefficient (ring_sum q n f g)) (plus a b)
unfolding ring_sum
sum_agrees {q} {n} f g h c d = agree_chain (coefficients_agree q n (plus (coefficient f) (coefficient g)) h) (agree_sum c d)

-- the same of a difference
pub difference_agrees : {q n : ℕ} {a b : ℕ → ℤ} (f g : List ℕ) → 0 < q → Agree q n (coefficient f) a → Agree q n (coefficient g) b → Agree q n (coefficient (ring_difference q n f g)) (minus a b)
unfolding ring_difference
difference_agrees {q} {n} f g h c d = agree_chain (coefficients_agree q n (minus (coefficient f) (coefficient g)) h) (agree_difference c d)

-- the same of a negative
pub negative_agrees : {q n : ℕ} {a : ℕ → ℤ} (f : List ℕ) → 0 < q → Agree q n (coefficient f) a → Agree q n (coefficient (ring_negative q n f)) (negated a)
unfolding ring_negative
negative_agrees {q} {n} f h c = agree_chain (coefficients_agree q n (negated (coefficient f)) h) (agree_negative c)

-- the same of a multiple
pub multiple_agrees : {q n : ℕ} {a : ℕ → ℤ} (k : ℕ) (f : List ℕ) → 0 < q → Agree q n (coefficient f) a → Agree q n (coefficient (ring_multiple q n k f)) (times (pos k) a)
unfolding ring_multiple
multiple_agrees {q} {n} k f h c = agree_chain (coefficients_agree q n (times (pos k) (coefficient f)) h) (agree_times (pos k) c)

-- the same of a product
pub product_agrees : {q n : ℕ} {a b : ℕ → ℤ} (f g : List ℕ) → 0 < q → Agree q n (coefficient f) a → Agree q n (coefficient g) b → Agree q n (coefficient (ring_product q n f g)) (wrapped n a b)
unfolding ring_product
product_agrees {q} {n} f g h c d = agree_chain (coefficients_agree q n (wrapped n (coefficient f) (coefficient g)) h) (agree_product c d)

-- two polynomials of the ring are equal where their coefficients agree with polynomials that are equal at each place below n
pub by_coefficients : {q n : ℕ} (a b : ℕ → ℤ) (f g : List ℕ) → 0 < q → IsPoly q n f → IsPoly q n g → Agree q n (coefficient f) a → Agree q n (coefficient g) b → ((i : ℕ) → i < n → a i ≡ b i) → f ≡ g
by_coefficients {q} {n} a b f g h p r c d e = same_polys q n f g h p r (agree_chain c (agree_chain (agree_equal q n a b e) (agree_back d)))

-- ---- sums

-- f + g = g + f
pub ring_sum_commutes : (q n : ℕ) (f g : List ℕ) → ring_sum q n f g ≡ ring_sum q n g f
unfolding ring_sum
ring_sum_commutes q n f g = residues_equal q n (plus (coefficient f) (coefficient g)) (plus (coefficient g) (coefficient f)) (λ i l. omega (arith, sums))

-- (f + g) + h = f + (g + h)
pub ring_sum_associates : (q n : ℕ) (f g h : List ℕ) → 0 < q → ring_sum q n (ring_sum q n f g) h ≡ ring_sum q n f (ring_sum q n g h)
ring_sum_associates q n f g h p =
    let F = coefficient f in let G = coefficient g in let H = coefficient h in
    by_coefficients (plus (plus F G) H) (plus F (plus G H)) (ring_sum q n (ring_sum q n f g) h) (ring_sum q n f (ring_sum q n g h)) p
    (sum_poly q n (ring_sum q n f g) h p) (sum_poly q n f (ring_sum q n g h) p)
    (sum_agrees (ring_sum q n f g) h p (sum_agrees f g p (agree_self q n F) (agree_self q n G)) (agree_self q n H))
    (sum_agrees f (ring_sum q n g h) p (agree_self q n F) (sum_agrees g h p (agree_self q n G) (agree_self q n H)))
    (λ i l. omega (arith, sums))

-- a difference is a sum with the negative
pub ring_difference_is : (q n : ℕ) (f g : List ℕ) → 0 < q → ring_difference q n f g ≡ ring_sum q n f (ring_negative q n g)
ring_difference_is q n f g p =
    let F = coefficient f in let G = coefficient g in
    by_coefficients (minus F G) (plus F (negated G)) (ring_difference q n f g) (ring_sum q n f (ring_negative q n g)) p
    (difference_poly q n f g p) (sum_poly q n f (ring_negative q n g) p)
    (difference_agrees f g p (agree_self q n F) (agree_self q n G))
    (sum_agrees f (ring_negative q n g) p (agree_self q n F) (negative_agrees g p (agree_self q n G)))
    (λ i l. refl)

-- what is added and taken away is gone
pub ring_sum_cancels : (q n : ℕ) (f g : List ℕ) → 0 < q → IsPoly q n f → ring_difference q n (ring_sum q n f g) g ≡ f
ring_sum_cancels q n f g p r =
    let F = coefficient f in let G = coefficient g in
    by_coefficients (minus (plus F G) G) F (ring_difference q n (ring_sum q n f g) g) f p
    (difference_poly q n (ring_sum q n f g) g p) r
    (difference_agrees (ring_sum q n f g) g p (sum_agrees f g p (agree_self q n F) (agree_self q n G)) (agree_self q n G)) (agree_self q n F)
    (λ i l. omega (arith, sums))

-- nothing added changes nothing
pub ring_sum_zero : (q n : ℕ) (f : List ℕ) → 0 < q → IsPoly q n f → ring_sum q n f (residues q n (λ i. pos 0)) ≡ f
ring_sum_zero q n f p r =
    let F = coefficient f in
    by_coefficients (plus F (λ i. pos 0)) F (ring_sum q n f (residues q n (λ i. pos 0))) f p
    (sum_poly q n f (residues q n (λ i. pos 0)) p) r
    (sum_agrees f (residues q n (λ i. pos 0)) p (agree_self q n F) (coefficients_agree q n (λ i. pos 0) p)) (agree_self q n F)
    (λ i l. omega (arith, sums))

-- ---- products

-- f * g = g * f
pub ring_product_commutes : (q n : ℕ) (f g : List ℕ) → ring_product q n f g ≡ ring_product q n g f
unfolding ring_product
ring_product_commutes q n f g =
    residues_equal q n (wrapped n (coefficient f) (coefficient g)) (wrapped n (coefficient g) (coefficient f)) (λ i l. wrapped_commutes n (coefficient f) (coefficient g) i l)

-- (f * g) * h = f * (g * h)
pub ring_product_associates : (q n : ℕ) (f g h : List ℕ) → 0 < q → ring_product q n (ring_product q n f g) h ≡ ring_product q n f (ring_product q n g h)
ring_product_associates q n f g h p =
    let F = coefficient f in let G = coefficient g in let H = coefficient h in
    by_coefficients (wrapped n (wrapped n F G) H) (wrapped n F (wrapped n G H)) (ring_product q n (ring_product q n f g) h) (ring_product q n f (ring_product q n g h)) p
    (product_poly q n (ring_product q n f g) h p) (product_poly q n f (ring_product q n g h) p)
    (product_agrees (ring_product q n f g) h p (product_agrees f g p (agree_self q n F) (agree_self q n G)) (agree_self q n H))
    (product_agrees f (ring_product q n g h) p (agree_self q n F) (product_agrees g h p (agree_self q n G) (agree_self q n H)))
    (λ i l. wrapped_associates n F G H i l)

-- (f + g) * h = f * h + g * h
pub ring_product_sum_left : (q n : ℕ) (f g h : List ℕ) → 0 < q → ring_product q n (ring_sum q n f g) h ≡ ring_sum q n (ring_product q n f h) (ring_product q n g h)
ring_product_sum_left q n f g h p =
    let F = coefficient f in let G = coefficient g in let H = coefficient h in
    by_coefficients (wrapped n (plus F G) H) (plus (wrapped n F H) (wrapped n G H)) (ring_product q n (ring_sum q n f g) h) (ring_sum q n (ring_product q n f h) (ring_product q n g h)) p
    (product_poly q n (ring_sum q n f g) h p) (sum_poly q n (ring_product q n f h) (ring_product q n g h) p)
    (product_agrees (ring_sum q n f g) h p (sum_agrees f g p (agree_self q n F) (agree_self q n G)) (agree_self q n H))
    (sum_agrees (ring_product q n f h) (ring_product q n g h) p (product_agrees f h p (agree_self q n F) (agree_self q n H)) (product_agrees g h p (agree_self q n G) (agree_self q n H)))
    (λ i l. wrapped_sum_left n F G H i)

-- f * (g + h) = f * g + f * h
pub ring_product_sum_right : (q n : ℕ) (f g h : List ℕ) → 0 < q → ring_product q n f (ring_sum q n g h) ≡ ring_sum q n (ring_product q n f g) (ring_product q n f h)
ring_product_sum_right q n f g h p =
    ring_product_commutes q n f (ring_sum q n g h) ∙ ring_product_sum_left q n g h f p
    ∙ ap (λ (x : List ℕ). ring_sum q n x (ring_product q n h f)) (ring_product_commutes q n g f)
    ∙ ap (λ (x : List ℕ). ring_sum q n (ring_product q n f g) x) (ring_product_commutes q n h f)

-- (f - g) * h = f * h - g * h
pub ring_product_difference_left : (q n : ℕ) (f g h : List ℕ) → 0 < q → ring_product q n (ring_difference q n f g) h ≡ ring_difference q n (ring_product q n f h) (ring_product q n g h)
ring_product_difference_left q n f g h p =
    let F = coefficient f in let G = coefficient g in let H = coefficient h in
    by_coefficients (wrapped n (minus F G) H) (minus (wrapped n F H) (wrapped n G H)) (ring_product q n (ring_difference q n f g) h) (ring_difference q n (ring_product q n f h) (ring_product q n g h)) p
    (product_poly q n (ring_difference q n f g) h p) (difference_poly q n (ring_product q n f h) (ring_product q n g h) p)
    (product_agrees (ring_difference q n f g) h p (difference_agrees f g p (agree_self q n F) (agree_self q n G)) (agree_self q n H))
    (difference_agrees (ring_product q n f h) (ring_product q n g h) p (product_agrees f h p (agree_self q n F) (agree_self q n H)) (product_agrees g h p (agree_self q n G) (agree_self q n H)))
    (λ i l. wrapped_difference_left n F G H i)

-- f * (g - h) = f * g - f * h
pub ring_product_difference_right : (q n : ℕ) (f g h : List ℕ) → 0 < q → ring_product q n f (ring_difference q n g h) ≡ ring_difference q n (ring_product q n f g) (ring_product q n f h)
ring_product_difference_right q n f g h p =
    ring_product_commutes q n f (ring_difference q n g h) ∙ ring_product_difference_left q n g h f p
    ∙ ap (λ (x : List ℕ). ring_difference q n x (ring_product q n h f)) (ring_product_commutes q n g f)
    ∙ ap (λ (x : List ℕ). ring_difference q n (ring_product q n f g) x) (ring_product_commutes q n h f)

-- (-f) * g = -(f * g)
pub ring_product_negative_left : (q n : ℕ) (f g : List ℕ) → 0 < q → ring_product q n (ring_negative q n f) g ≡ ring_negative q n (ring_product q n f g)
ring_product_negative_left q n f g p =
    let F = coefficient f in let G = coefficient g in
    by_coefficients (wrapped n (negated F) G) (negated (wrapped n F G)) (ring_product q n (ring_negative q n f) g) (ring_negative q n (ring_product q n f g)) p
    (product_poly q n (ring_negative q n f) g p) (negative_poly q n (ring_product q n f g) p)
    (product_agrees (ring_negative q n f) g p (negative_agrees f p (agree_self q n F)) (agree_self q n G))
    (negative_agrees (ring_product q n f g) p (product_agrees f g p (agree_self q n F) (agree_self q n G)))
    (λ i l. wrapped_negative_left n F G i)

-- f * (-g) = -(f * g)
pub ring_product_negative_right : (q n : ℕ) (f g : List ℕ) → 0 < q → ring_product q n f (ring_negative q n g) ≡ ring_negative q n (ring_product q n f g)
ring_product_negative_right q n f g p =
    ring_product_commutes q n f (ring_negative q n g) ∙ ring_product_negative_left q n g f p ∙ ap (ring_negative q n) (ring_product_commutes q n g f)

-- ---- multiples

-- (k f) * g = k (f * g)
pub ring_product_multiple_left : (q n k : ℕ) (f g : List ℕ) → 0 < q → ring_product q n (ring_multiple q n k f) g ≡ ring_multiple q n k (ring_product q n f g)
ring_product_multiple_left q n k f g p =
    let F = coefficient f in let G = coefficient g in
    by_coefficients (wrapped n (times (pos k) F) G) (times (pos k) (wrapped n F G)) (ring_product q n (ring_multiple q n k f) g) (ring_multiple q n k (ring_product q n f g)) p
    (product_poly q n (ring_multiple q n k f) g p) (multiple_poly q n k (ring_product q n f g) p)
    (product_agrees (ring_multiple q n k f) g p (multiple_agrees k f p (agree_self q n F)) (agree_self q n G))
    (multiple_agrees k (ring_product q n f g) p (product_agrees f g p (agree_self q n F) (agree_self q n G)))
    (λ i l. wrapped_times_left n (pos k) F G i)

-- f * (k g) = k (f * g)
pub ring_product_multiple_right : (q n k : ℕ) (f g : List ℕ) → 0 < q → ring_product q n f (ring_multiple q n k g) ≡ ring_multiple q n k (ring_product q n f g)
ring_product_multiple_right q n k f g p =
    ring_product_commutes q n f (ring_multiple q n k g) ∙ ring_product_multiple_left q n k g f p ∙ ap (ring_multiple q n k) (ring_product_commutes q n g f)

-- k (f + g) = k f + k g
pub ring_multiple_sum : (q n k : ℕ) (f g : List ℕ) → 0 < q → ring_multiple q n k (ring_sum q n f g) ≡ ring_sum q n (ring_multiple q n k f) (ring_multiple q n k g)
ring_multiple_sum q n k f g p =
    let F = coefficient f in let G = coefficient g in
    by_coefficients (times (pos k) (plus F G)) (plus (times (pos k) F) (times (pos k) G)) (ring_multiple q n k (ring_sum q n f g)) (ring_sum q n (ring_multiple q n k f) (ring_multiple q n k g)) p
    (multiple_poly q n k (ring_sum q n f g) p) (sum_poly q n (ring_multiple q n k f) (ring_multiple q n k g) p)
    (multiple_agrees k (ring_sum q n f g) p (sum_agrees f g p (agree_self q n F) (agree_self q n G)))
    (sum_agrees (ring_multiple q n k f) (ring_multiple q n k g) p (multiple_agrees k f p (agree_self q n F)) (multiple_agrees k g p (agree_self q n G)))
    (λ i l. times_sum (pos k) (F i) (G i))

-- j (k f) = (j k) f
pub ring_multiple_multiple : (q n j k : ℕ) (f : List ℕ) → 0 < q → ring_multiple q n j (ring_multiple q n k f) ≡ ring_multiple q n (j * k) f
ring_multiple_multiple q n j k f p =
    let F = coefficient f in
    by_coefficients (times (pos j) (times (pos k) F)) (times (pos (j * k)) F) (ring_multiple q n j (ring_multiple q n k f)) (ring_multiple q n (j * k) f) p
    (multiple_poly q n j (ring_multiple q n k f) p) (multiple_poly q n (j * k) f p)
    (multiple_agrees j (ring_multiple q n k f) p (multiple_agrees k f p (agree_self q n F))) (multiple_agrees (j * k) f p (agree_self q n F))
    (λ i l. sym (times_times (pos j) (pos k) (F i)))

-- (j + k) f = j f + k f
pub ring_multiple_more : (q n j k : ℕ) (f : List ℕ) → 0 < q → ring_multiple q n (j + k) f ≡ ring_sum q n (ring_multiple q n j f) (ring_multiple q n k f)
ring_multiple_more q n j k f p =
    let F = coefficient f in
    by_coefficients (times (pos (j + k)) F) (plus (times (pos j) F) (times (pos k) F)) (ring_multiple q n (j + k) f) (ring_sum q n (ring_multiple q n j f) (ring_multiple q n k f)) p
    (multiple_poly q n (j + k) f p) (sum_poly q n (ring_multiple q n j f) (ring_multiple q n k f) p)
    (multiple_agrees (j + k) f p (agree_self q n F))
    (sum_agrees (ring_multiple q n j f) (ring_multiple q n k f) p (multiple_agrees j f p (agree_self q n F)) (multiple_agrees k f p (agree_self q n F)))
    (λ i l. sum_times (pos j) (pos k) (F i))

-- 0 * f = 0
pub ring_product_zero : (q n : ℕ) (f : List ℕ) → 0 < q → ring_product q n (residues q n (λ i. pos 0)) f ≡ residues q n (λ i. pos 0)
ring_product_zero q n f p =
    let F = coefficient f in let o = residues q n (λ i. pos 0) in
    by_coefficients (wrapped n (λ i. pos 0) F) (λ i. pos 0) (ring_product q n o f) o p
    (product_poly q n o f p) (residues_poly q n (λ i. pos 0) p)
    (product_agrees o f p (coefficients_agree q n (λ i. pos 0) p) (agree_self q n F)) (coefficients_agree q n (λ i. pos 0) p)
    (λ i l. wrapped_zero_left n F i)
