-- Sums of lists of polynomials: entry by entry, in any order, in parts, and how large they are.
use Rattle.std.proofs.Common.{◌≡◌, ℕ, ◌+◌, ◌*◌, ◌%◌, ◌≤◌, ◌<◌, List, [], ◌∷◌, ◌++◌, length, get_or, sym, ap, ◌∙◌, arith}
use Rattle.std.specs.Prelude.{pos, All, sum_by, IsPermutation}
use Rattle.std.proofs.lemmas.List.{ext_get_or}
use Rattle.std.proofs.lemmas.List.Elements.{All-head, All-tail}
use Rattle.std.proofs.lemmas.List.Sums.{sum_by-cons}
use Rattle.std.proofs.lemmas.List.Sorted.{sum_by-IsPermutation}
use Rattle.std.proofs.Math.Nat.{add-mod-mod}
use Rattle.ring_spec.specs.Ring.{residue, residues, plus, coefficient, size, IsPoly, ring_sum}
use Rattle.ring_spec.specs.Aggregate.{ring_total}
use Rattle.ring_laws.proofs.Residues.{residues_at, residues_poly, sum_poly}
use Rattle.ring_laws.proofs.Rings.{ring_sum_zero, ring_sum_commutes, ring_sum_associates}
use Rattle.ring_laws.proofs.Sizes.{size_residues, size_sum}

-- a sum is a polynomial of the ring
pub total_poly : (q n : ℕ) (fs : List (List ℕ)) → 0 < q → IsPoly q n (ring_total q n fs)
unfolding ring_total
total_poly q n [] h = residues_poly q n (λ i. pos 0) h
total_poly q n (f ∷ fs) h = sum_poly q n f (ring_total q n fs) h

-- entry i of a sum of two
pub sum_at : (q n : ℕ) (f g : List ℕ) (i : ℕ) → i < n → get_or (ring_sum q n f g) i 0 ≡ (get_or f i 0 + get_or g i 0) % q
unfolding ring_sum residue
sum_at q n f g i h = residues_at q n (plus (coefficient f) (coefficient g)) i h

-- entry i of a sum is the sum of the entries i, modulo q
pub total_at : (q n : ℕ) (fs : List (List ℕ)) (i : ℕ) → i < n → get_or (ring_total q n fs) i 0 ≡ sum_by (λ f. get_or f i 0) fs % q
unfolding ring_total residue
total_at q n [] i h = residues_at q n (λ j. pos 0) i h
total_at q n (f ∷ fs) i h =
    sum_at q n f (ring_total q n fs) i h
    ∙ ap (λ (x : ℕ). (get_or f i 0 + x) % q) (total_at q n fs i h)
    ∙ add-mod-mod (get_or f i 0) (sum_by (λ (g : List ℕ). get_or g i 0) fs) q
    ∙ ap (λ (x : ℕ). x % q) (sym (sum_by-cons (λ (g : List ℕ). get_or g i 0) f fs))

-- the order of the polynomials is free
pub total_permutation : (q n : ℕ) (fs gs : List (List ℕ)) → 0 < q → IsPermutation fs gs → ring_total q n gs ≡ ring_total q n fs
total_permutation q n fs gs h p =
    let a = total_poly q n gs h in let b = total_poly q n fs h in
    ext_get_or 0 (ring_total q n gs) (ring_total q n fs) (omega (arith, a.entries, b.entries))
    (λ i l. let l' : i < n = omega (arith, a.entries) in
    total_at q n gs i l' ∙ ap (λ (x : ℕ). x % q) (sum_by-IsPermutation (λ (g : List ℕ). get_or g i 0) fs gs p) ∙ sym (total_at q n fs i l'))

-- a sum in two parts
pub total_append : (q n : ℕ) (fs gs : List (List ℕ)) → 0 < q → ring_total q n (fs ++ gs) ≡ ring_sum q n (ring_total q n fs) (ring_total q n gs)
unfolding ring_total
total_append q n [] gs h =
    sym (ring_sum_commutes q n (residues q n (λ i. pos 0)) (ring_total q n gs) ∙ ring_sum_zero q n (ring_total q n gs) h (total_poly q n gs h))
total_append q n (f ∷ fs) gs h =
    ap (ring_sum q n f) (total_append q n fs gs h) ∙ sym (ring_sum_associates q n f (ring_total q n fs) (ring_total q n gs) h)

-- polynomials of size at most v sum to one of size at most v for each
pub size_total : (q n v : ℕ) (fs : List (List ℕ)) → 0 < q → All (IsPoly q n) fs → All (λ f. size q f ≤ v) fs → size q (ring_total q n fs) ≤ length fs * v
unfolding ring_total
size_total q n v [] h p l =
    let e : size q (residues q n (λ i. pos 0)) ≤ 0 = size_residues q n 0 (λ i. pos 0) h (λ i r. omega arith) in omega arith
size_total q n v (f ∷ fs) h p l =
    let a : size q (ring_sum q n f (ring_total q n fs)) ≤ size q f + size q (ring_total q n fs) =
    size_sum q n f (ring_total q n fs) h (All-head (IsPoly q n) f fs p) (total_poly q n fs h) in
    let b : size q (ring_total q n fs) ≤ length fs * v = size_total q n v fs h (All-tail (IsPoly q n) f fs p) (All-tail (λ f. size q f ≤ v) f fs l) in
    let c : size q f ≤ v = All-head (λ f. size q f ≤ v) f fs l in
    omega arith
