-- The value of a dealing at a point, by Horner's rule.
use Rattle.std.proofs.Common.{◌≡◌, ℕ, suc, ◌+◌, ◌-◌, ◌*◌, ◌%◌, ◌<◌, ◌≤◌, List, [], ◌∷◌, length, get_or, drop, replicate, map, sym, ap, subst, ◌∙◌, arith}
use Rattle.std.specs.Prelude.{ℤ, pos, ◌+ℤ◌, ◌*ℤ◌}
use Rattle.std.specs.List.{range_with_len}
use Rattle.std.proofs.lemmas.List.{ext_get_or, get_or-replicate, length-replicate, drop_all}
use Rattle.std.proofs.lemmas.List.FromFn.{length-map-range_with_len, get_or-map-range_with_len}
use Rattle.std.proofs.Math.Seq.{drop-cons}
use Rattle.std.proofs.Math.Nat.{add-mod-mod, mod-eq_of_lt}
use Rattle.ring_spec.specs.Ring.{IsPoly, residue, residues, total, coefficient, times, ring_sum, ring_multiple}
use Rattle.ring_laws.proofs.Congruences.{agree_self}
use Rattle.ring_laws.proofs.Residues.{residues_at, residues_poly, residues_unique, sum_poly, coefficients_agree}
use Rattle.ring_laws.proofs.Rings.{sum_agrees, multiple_agrees, by_coefficients}
use Rattle.ring_laws.proofs.Aggregates.{sum_at}
use Rattle.share_spec.specs.Dealing.{power, value_at}
use Rattle.share_laws.proofs.Shares.{powers}

-- ---- one step

-- what a step writes at a place
abbrev pub stepped : ℕ → ℕ → List ℕ → List ℕ → ℕ → ℕ
stepped q p v f i = (get_or v i 0 * p + get_or f i 0) % q

multiple_at : (q n k : ℕ) (f : List ℕ) (i : ℕ) → i < n → get_or (ring_multiple q n k f) i 0 ≡ k * get_or f i 0 % q
unfolding ring_multiple residue
multiple_at q n k f i h = residues_at q n (times (pos k) (coefficient f)) i h

-- all entries together are p times the one and the other
pub steps_are : (q n p : ℕ) (v f now : List ℕ) → 0 < q → now ≡ map (stepped q p v f) (range_with_len 0 n) → now ≡ ring_sum q n f (ring_multiple q n p v)
steps_are q n p v f now h e =
    let all = map (stepped q p v f) (range_with_len 0 n) in
    let len : length all ≡ n = length-map-range_with_len (stepped q p v f) 0 n in
    let s = sum_poly q n f (ring_multiple q n p v) h in
    e ∙ ext_get_or 0 all (ring_sum q n f (ring_multiple q n p v)) (omega (arith, len, s.entries)) (λ i l.
    let l' : i < n = omega (arith, len) in
    get_or-map-range_with_len (stepped q p v f) 0 n i i 0 l' (omega arith)
    ∙ sym (sum_at q n f (ring_multiple q n p v) i l' ∙ ap (λ (x : ℕ). (get_or f i 0 + x) % q) (multiple_at q n p v i l')
    ∙ add-mod-mod (get_or f i 0) (p * get_or v i 0) q ∙ ap (λ (x : ℕ). x % q) (omega arith)))

-- ---- all steps

residue_of_none : (q : ℕ) → 0 < q → residue q (pos 0) ≡ 0
unfolding residue
residue_of_none q h = mod-eq_of_lt h

-- nothing but zeros is the value where there is no coefficient
pub value_none : (q n p : ℕ) → 0 < q → replicate n 0 ≡ value_at q n [] p
unfolding value_at total
value_none q n p h =
    residues_unique q n (λ i. pos 0) (replicate n 0) (length-replicate n 0)
    (λ i l. get_or-replicate n i 0 0 l ∙ sym (residue_of_none q h))

-- one more coefficient
pub value_more : (q n p : ℕ) (f : List ℕ) (fs : List (List ℕ)) → 0 < q → ring_sum q n f (ring_multiple q n p (value_at q n fs p)) ≡ value_at q n (f ∷ fs) p
unfolding value_at
value_more q n p f fs h =
    let a = λ (i : ℕ). total (length fs) (power fs p i) in
    let b = λ (i : ℕ). total (length (f ∷ fs)) (power (f ∷ fs) p i) in
    by_coefficients (λ i. coefficient f i +ℤ pos p *ℤ a i) b (ring_sum q n f (ring_multiple q n p (residues q n a))) (residues q n b) h
    (sum_poly q n f (ring_multiple q n p (residues q n a)) h) (residues_poly q n b h)
    (sum_agrees f (ring_multiple q n p (residues q n a)) h (agree_self q n (coefficient f)) (multiple_agrees p (residues q n a) h (coefficients_agree q n a h)))
    (coefficients_agree q n b h)
    (λ i l. ap (λ (z : ℤ). coefficient f i +ℤ pos p *ℤ z) (powers fs p i) ∙ sym (powers (f ∷ fs) p i))

-- the value of the last k coefficients of a list, of which one more is taken from its end
pub value_step : (q n p : ℕ) (fs : List (List ℕ)) (k : ℕ) (was now f : List ℕ) → 0 < q → k < length fs → was ≡ value_at q n (drop (length fs - k) fs) p →
    f ≡ get_or fs (length fs - 1 - k) [] → now ≡ ring_sum q n f (ring_multiple q n p was) → now ≡ value_at q n (drop (length fs - (k + 1)) fs) p
value_step q n p fs k was now f h l e g s =
    let i = length fs - 1 - k in
    let here : length fs - (k + 1) ≡ i = omega arith in
    let there : suc i ≡ length fs - k = omega arith in
    s ∙ ap (λ (x : List ℕ). ring_sum q n x (ring_multiple q n p was)) g
    ∙ ap (λ (x : List ℕ). ring_sum q n (get_or fs i []) (ring_multiple q n p x)) (e ∙ ap (λ (x : ℕ). value_at q n (drop x fs) p) (sym there))
    ∙ value_more q n p (get_or fs i []) (drop (suc i) fs) h
    ∙ ap (λ (xs : List (List ℕ)). value_at q n xs p) (sym (drop-cons fs i [] (omega arith)))
    ∙ ap (λ (x : ℕ). value_at q n (drop x fs) p) (sym here)

-- a value is a polynomial of the ring
pub value_poly : (q n : ℕ) (fs : List (List ℕ)) (p : ℕ) (v : List ℕ) → 0 < q → v ≡ value_at q n fs p → IsPoly q n v
unfolding value_at
value_poly q n fs p v h e = subst (IsPoly q n) (sym e) (residues_poly q n (λ i. total (length fs) (power fs p i)) h)

-- before the first step
pub value_start : (q n p k : ℕ) (fs : List (List ℕ)) (v : List ℕ) → 0 < q → v ≡ replicate n 0 → length fs ≤ k → v ≡ value_at q n (drop k fs) p
value_start q n p k fs v h e l =
    e ∙ value_none q n p h ∙ ap (λ (xs : List (List ℕ)). value_at q n xs p) (sym (drop_all k fs l))

-- for the tactics
pub ruleset one_by_one = (value_none, value_step)
