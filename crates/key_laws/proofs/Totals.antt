-- What the shares of several parties add up to: the share of the sums of their parts and of their noises.
use Rattle.std.proofs.Common.{◌≡◌, ℕ, ◌*◌, ◌≤◌, ◌<◌, List, [], ◌∷◌, map, length, refl, sym, ap, ◌∙◌, arith}
use Rattle.std.specs.Prelude.{ℤ, pos}
use Rattle.ring_spec.specs.Ring.{wrapped, turned, residues, plus, minus, negated, times, coefficient, size, IsPoly, ring_sum, ring_difference, ring_negative, ring_multiple, ring_product, ring_turned}
use Rattle.ring_spec.specs.Aggregate.{ring_total}
use Rattle.ring_laws.specs.Congruence.{Agree}
use Rattle.key_spec.specs.Rounds.{switch_share}
use Rattle.ring_laws.proofs.Integers.{sums, times_sum, times_zero}
use Rattle.ring_laws.proofs.Products.{wrapped_sum_left, wrapped_sum_right, wrapped_zero_left, wrapped_zero_right}
use Rattle.ring_laws.proofs.Congruences.{agree_self}
use Rattle.ring_laws.proofs.Residues.{residues_equal, residues_poly, coefficients_agree, sum_poly, difference_poly}
use Rattle.ring_laws.proofs.Rings.{by_coefficients, sum_agrees, difference_agrees, negative_agrees, multiple_agrees, product_agrees}
use Rattle.ring_laws.proofs.Turns.{turned_sum, turned_residues, ring_turned_sum}
use Rattle.ring_laws.proofs.Aggregates.{total_poly}
use Rattle.ring_laws.proofs.Sizes.{size_residues, size_sum}

abbrev nothing : ℕ → ℤ
nothing i = pos 0

-- functions that are equal everywhere make equal lists
pub map_same : (f g : ℕ → List ℕ) (js : List ℕ) → ((j : ℕ) → f j ≡ g j) → map f js ≡ map g js
map_same f g [] e = refl
map_same f g (j ∷ js) e = ap (λ (x : List ℕ). x ∷ map f js) (e j) ∙ ap (λ (xs : List (List ℕ)). g j ∷ xs) (map_same f g js e)

-- ---- sizes

-- polynomials of size at most b sum to one of size at most b for each
pub total_small : (q n b : ℕ) (e : ℕ → List ℕ) (js : List ℕ) → 0 < q → ((j : ℕ) → IsPoly q n (e j)) → ((j : ℕ) → size q (e j) ≤ b) →
    size q (ring_total q n (map e js)) ≤ length js * b
unfolding ring_total
total_small q n b e [] h p l = omega (arith, size_residues q n 0 nothing h (λ i r. omega arith))
total_small q n b e (j ∷ js) h p l =
    omega (arith, size_sum q n (e j) (ring_total q n (map e js)) h (p j) (total_poly q n (map e js) h), l j, total_small q n b e js h p l)

-- ---- shares of a switch key's row

-- the coefficients of a share
pub share_agrees : {q n : ℕ} {A S Z E : ℕ → ℤ} (w : ℕ) (a s z e : List ℕ) → 0 < q → Agree q n (coefficient a) A → Agree q n (coefficient s) S → Agree q n (coefficient z) Z → Agree q n (coefficient e) E →
    Agree q n (coefficient (switch_share q n w a s z e)) (plus (plus (negated (wrapped n A S)) (times (pos w) Z)) E)
unfolding switch_share
share_agrees {q} {n} w a s z e h at_a at_s at_z at_e =
    let by = ring_product q n a s in
    sum_agrees (ring_sum q n (ring_negative q n by) (ring_multiple q n w z)) e h
    (sum_agrees (ring_negative q n by) (ring_multiple q n w z) h (negative_agrees by h (product_agrees a s h at_a at_s)) (multiple_agrees w z h at_z)) at_e

pub share_poly : (q n w : ℕ) (a s z e : List ℕ) → 0 < q → IsPoly q n (switch_share q n w a s z e)
unfolding switch_share
share_poly q n w a s z e h = sum_poly q n (ring_sum q n (ring_negative q n (ring_product q n a s)) (ring_multiple q n w z)) e h

-- the shares add up to the share of the sums
pub shares_total : (q n w : ℕ) (a : List ℕ) (s z e : ℕ → List ℕ) (js : List ℕ) → 0 < q →
    ring_total q n (map (λ j. switch_share q n w a (s j) (z j) (e j)) js)
    ≡ switch_share q n w a (ring_total q n (map s js)) (ring_total q n (map z js)) (ring_total q n (map e js))
unfolding ring_total
shares_total q n w a s z e [] h =
    let A = coefficient a in let o = residues q n nothing in
    let at_o : Agree q n (coefficient o) nothing = coefficients_agree q n nothing h in
    by_coefficients nothing (plus (plus (negated (wrapped n A nothing)) (times (pos w) nothing)) nothing) o (switch_share q n w a o o o) h
    (residues_poly q n nothing h) (share_poly q n w a o o o h) at_o (share_agrees w a o o o h (agree_self q n A) at_o at_o at_o)
    (λ i l. omega (arith, sums, wrapped_zero_right n A i l, times_zero (pos w)))
shares_total q n w a s z e (j ∷ js) h =
    let s' = ring_total q n (map s js) in let z' = ring_total q n (map z js) in let e' = ring_total q n (map e js) in
    ap (ring_sum q n (switch_share q n w a (s j) (z j) (e j))) (shares_total q n w a s z e js h)
    ∙ two (s j) s' (z j) z' (e j) e'
  where
    two : (s s' z z' e e' : List ℕ) → ring_sum q n (switch_share q n w a s z e) (switch_share q n w a s' z' e')
        ≡ switch_share q n w a (ring_sum q n s s') (ring_sum q n z z') (ring_sum q n e e')
    two s s' z z' e e' =
        let A = coefficient a in let S = coefficient s in let S' = coefficient s' in
        let Z = coefficient z in let Z' = coefficient z' in let E = coefficient e in let E' = coefficient e' in
        let one = switch_share q n w a s z e in let other = switch_share q n w a s' z' e' in
        by_coefficients (plus (plus (plus (negated (wrapped n A S)) (times (pos w) Z)) E) (plus (plus (negated (wrapped n A S')) (times (pos w) Z')) E'))
        (plus (plus (negated (wrapped n A (plus S S'))) (times (pos w) (plus Z Z'))) (plus E E'))
        (ring_sum q n one other) (switch_share q n w a (ring_sum q n s s') (ring_sum q n z z') (ring_sum q n e e')) h
        (sum_poly q n one other h) (share_poly q n w a (ring_sum q n s s') (ring_sum q n z z') (ring_sum q n e e') h)
        (sum_agrees one other h (share_agrees w a s z e h (agree_self q n A) (agree_self q n S) (agree_self q n Z) (agree_self q n E))
        (share_agrees w a s' z' e' h (agree_self q n A) (agree_self q n S') (agree_self q n Z') (agree_self q n E')))
        (share_agrees w a (ring_sum q n s s') (ring_sum q n z z') (ring_sum q n e e') h (agree_self q n A)
        (sum_agrees s s' h (agree_self q n S) (agree_self q n S')) (sum_agrees z z' h (agree_self q n Z) (agree_self q n Z')) (sum_agrees e e' h (agree_self q n E) (agree_self q n E')))
        (λ i l. omega (arith, sums, wrapped_sum_right n A S S' i l, times_sum (pos w) (Z i) (Z' i)))

-- ---- products with a polynomial that all have, and noise

pub products_total : (q n : ℕ) (c : List ℕ) (s e : ℕ → List ℕ) (js : List ℕ) → 0 < q →
    ring_total q n (map (λ j. ring_sum q n (ring_product q n (s j) c) (e j)) js)
    ≡ ring_sum q n (ring_product q n (ring_total q n (map s js)) c) (ring_total q n (map e js))
unfolding ring_total
products_total q n c s e [] h =
    let C = coefficient c in let o = residues q n nothing in
    let at_o : Agree q n (coefficient o) nothing = coefficients_agree q n nothing h in
    by_coefficients nothing (plus (wrapped n nothing C) nothing) o (ring_sum q n (ring_product q n o c) o) h
    (residues_poly q n nothing h) (sum_poly q n (ring_product q n o c) o h) at_o (sum_agrees (ring_product q n o c) o h (product_agrees o c h at_o (agree_self q n C)) at_o)
    (λ i l. omega (arith, sums, wrapped_zero_left n C i))
products_total q n c s e (j ∷ js) h =
    ap (ring_sum q n (ring_sum q n (ring_product q n (s j) c) (e j))) (products_total q n c s e js h)
    ∙ two (s j) (ring_total q n (map s js)) (e j) (ring_total q n (map e js))
  where
    two : (s s' e e' : List ℕ) → ring_sum q n (ring_sum q n (ring_product q n s c) e) (ring_sum q n (ring_product q n s' c) e')
        ≡ ring_sum q n (ring_product q n (ring_sum q n s s') c) (ring_sum q n e e')
    two s s' e e' =
        let C = coefficient c in let S = coefficient s in let S' = coefficient s' in let E = coefficient e in let E' = coefficient e' in
        let one = ring_sum q n (ring_product q n s c) e in let other = ring_sum q n (ring_product q n s' c) e' in
        let ss = ring_sum q n s s' in let ee = ring_sum q n e e' in
        by_coefficients (plus (plus (wrapped n S C) E) (plus (wrapped n S' C) E')) (plus (wrapped n (plus S S') C) (plus E E'))
        (ring_sum q n one other) (ring_sum q n (ring_product q n ss c) ee) h
        (sum_poly q n one other h) (sum_poly q n (ring_product q n ss c) ee h)
        (sum_agrees one other h (sum_agrees (ring_product q n s c) e h (product_agrees s c h (agree_self q n S) (agree_self q n C)) (agree_self q n E))
        (sum_agrees (ring_product q n s' c) e' h (product_agrees s' c h (agree_self q n S') (agree_self q n C)) (agree_self q n E')))
        (sum_agrees (ring_product q n ss c) ee h (product_agrees ss c h (sum_agrees s s' h (agree_self q n S) (agree_self q n S')) (agree_self q n C))
        (sum_agrees e e' h (agree_self q n E) (agree_self q n E')))
        (λ i l. omega (arith, sums, wrapped_sum_left n S S' C i))

-- ---- differences, and images under X to X^e

pub differences_total : (q n : ℕ) (u s : ℕ → List ℕ) (js : List ℕ) → 0 < q →
    ring_total q n (map (λ j. ring_difference q n (u j) (s j)) js) ≡ ring_difference q n (ring_total q n (map u js)) (ring_total q n (map s js))
unfolding ring_total
differences_total q n u s [] h =
    let o = residues q n nothing in
    let at_o : Agree q n (coefficient o) nothing = coefficients_agree q n nothing h in
    by_coefficients nothing (minus nothing nothing) o (ring_difference q n o o) h (residues_poly q n nothing h) (difference_poly q n o o h)
    at_o (difference_agrees o o h at_o at_o) (λ i l. omega (arith, sums))
differences_total q n u s (j ∷ js) h =
    ap (ring_sum q n (ring_difference q n (u j) (s j))) (differences_total q n u s js h)
    ∙ two (u j) (ring_total q n (map u js)) (s j) (ring_total q n (map s js))
  where
    two : (u u' s s' : List ℕ) → ring_sum q n (ring_difference q n u s) (ring_difference q n u' s') ≡ ring_difference q n (ring_sum q n u u') (ring_sum q n s s')
    two u u' s s' =
        let U = coefficient u in let U' = coefficient u' in let S = coefficient s in let S' = coefficient s' in
        let one = ring_difference q n u s in let other = ring_difference q n u' s' in
        by_coefficients (plus (minus U S) (minus U' S')) (minus (plus U U') (plus S S')) (ring_sum q n one other) (ring_difference q n (ring_sum q n u u') (ring_sum q n s s')) h
        (sum_poly q n one other h) (difference_poly q n (ring_sum q n u u') (ring_sum q n s s') h)
        (sum_agrees one other h (difference_agrees u s h (agree_self q n U) (agree_self q n S)) (difference_agrees u' s' h (agree_self q n U') (agree_self q n S')))
        (difference_agrees (ring_sum q n u u') (ring_sum q n s s') h (sum_agrees u u' h (agree_self q n U) (agree_self q n U')) (sum_agrees s s' h (agree_self q n S) (agree_self q n S')))
        (λ i l. omega (arith, sums))

pub turned_total : (q n e : ℕ) (s : ℕ → List ℕ) (js : List ℕ) → 0 < q → ring_total q n (map (λ j. ring_turned q n e (s j)) js) ≡ ring_turned q n e (ring_total q n (map s js))
unfolding ring_total
turned_total q n e s [] h =
    sym (turned_residues q n e nothing h ∙ residues_equal q n (turned n e nothing) nothing (λ i l. omega (arith, sums, turned_sum n e nothing nothing i l)))
turned_total q n e s (j ∷ js) h =
    ap (ring_sum q n (ring_turned q n e (s j))) (turned_total q n e s js h) ∙ sym (ring_turned_sum q n e (s j) (ring_total q n (map s js)) h)
