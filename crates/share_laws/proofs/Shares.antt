-- The parts of as many parties as the threshold sum to the secret, and the secret is small, whoever dealt.
use Rattle.std.proofs.Common.{◌≡◌, ℕ, zero, suc, ◌*◌, ◌^◌, ◌≤◌, ◌<◌, List, [], ◌∷◌, map, length, get_or, refl, sym, ap, ◌∙◌, arith}
use Rattle.std.specs.Prelude.{true, IsTrue, All, ℤ, pos, ◌+ℤ◌, ◌*ℤ◌}
use Rattle.std.specs.List.{range_with_len}
use Rattle.std.proofs.lemmas.List.{length-map}
use Rattle.std.proofs.lemmas.List.Elements.{All-head, All-tail, All-nil, All-cons, All-map}
use Rattle.std.proofs.lemmas.List.FromFn.{length-map-range_with_len}
use Rattle.std.proofs.Math.Nat.{pow-suc, pow-zero}
use Rattle.param_set.specs.Moduli.{indivisible}
use Rattle.ring_spec.specs.Ring.{total, coefficient, IsPoly, size}
use Rattle.ring_laws.specs.Congruence.{IsCongruent}
use Rattle.ring_spec.specs.Aggregate.{ring_total}
use Rattle.ring_laws.proofs.Integers.{sums, times_times, times_commutes, one_times, zero_times}
use Rattle.ring_laws.proofs.Totals.{total_first, total_same, total_times}
use Rattle.ring_laws.proofs.Congruences.{congruent_equal, congruent_self, congruent_back, congruent_chain, congruent_sum, congruent_product, agree_self}
use Rattle.ring_laws.proofs.Residues.{coefficients_agree, same_polys}
use Rattle.ring_laws.proofs.Rings.{sum_agrees, multiple_agrees}
use Rattle.ring_laws.proofs.Aggregates.{total_poly, size_total}
use Rattle.bfv_laws.proofs.Draws.{ternary_poly_is, size_ternary_poly}
use Rattle.draw_spec.specs.Streams.{part_stream}
use Rattle.share_spec.specs.Sets.{has, members}
use Rattle.share_spec.specs.Lagrange.{ratio, lagrange}
use Rattle.share_spec.specs.Dealing.{own_part, dealing_at, dealing, power, value_at, dealt, dealt_by, own_by, share, secret, part, parts}
use Rattle.share_laws.proofs.Over.{over, over_times, over_swap, over_congruent}
use Rattle.share_laws.proofs.Interpolation.{lambda, mixed, poly, interpolates}
use Rattle.share_laws.proofs.Quotients.{ratios_divide}
use Rattle.share_laws.proofs.Points.{members_distinct, members_in, lagrange_is}

-- ---- sums over lists

over_map : {A B : Type 0} (f : B → ℤ) (h : A → B) (xs : List A) → over f (map h xs) ≡ over (λ x. f (h x)) xs
over_map f h [] = refl
over_map f h (x ∷ xs) = rw (over_map f h xs) refl

-- terms that agree for those x of which p holds, and it holds of all
over_congruent_where : {A : Type 0} (q : ℕ) (P : A → Type 0) (f g : A → ℤ) (xs : List A) → All P xs → ((x : A) → P x → IsCongruent q (f x) (g x)) → IsCongruent q (over f xs) (over g xs)
over_congruent_where q P f g [] h c = congruent_self q (pos 0)
over_congruent_where q P f g (x ∷ xs) h c =
    congruent_sum (c x (All-head P x xs h)) (over_congruent_where q P f g xs (All-tail P x xs h) c)

-- coefficient i of a sum of polynomials
sum_coefficient : (q n i : ℕ) (fs : List (List ℕ)) → 0 < q → i < n → IsCongruent q (coefficient (ring_total q n fs) i) (over (λ f. coefficient f i) fs)
unfolding ring_total
sum_coefficient q n i [] h l = (coefficients_agree q n (λ k. pos 0) h).each i l
sum_coefficient q n i (f ∷ fs) h l =
    congruent_chain ((sum_agrees f (ring_total q n fs) h (agree_self q n (coefficient f)) (agree_self q n (coefficient (ring_total q n fs)))).each i l)
    (congruent_sum (congruent_self q (coefficient f i)) (sum_coefficient q n i fs h l))

-- ---- values

-- coefficient i of each polynomial of a list
abbrev pub row : ℕ → List (List ℕ) → List ℤ
row i [] = []
row i (f ∷ fs) = coefficient f i ∷ row i fs

length_row : (i : ℕ) (fs : List (List ℕ)) → length (row i fs) ≡ length fs
length_row i [] = refl
length_row i (f ∷ fs) = ap suc (length_row i fs)

-- a sum of powers, by the first coefficient and the rest
pub powers : (fs : List (List ℕ)) (p i : ℕ) → total (length fs) (power fs p i) ≡ poly (row i fs) p
unfolding total
powers [] p i = refl
powers (f ∷ fs) p i =
    total_first (length fs) (power (f ∷ fs) p i)
    ∙ ap (λ (z : ℤ). z +ℤ total (length fs) (λ d. power (f ∷ fs) p i (suc d))) (ap (λ (x : ℕ). coefficient f i *ℤ pos x) (pow-zero p) ∙ times_commutes (coefficient f i) (pos 1) ∙ one_times (coefficient f i))
    ∙ ap (λ (z : ℤ). coefficient f i +ℤ z)
    (total_same (length fs) (λ d. power (f ∷ fs) p i (suc d)) (λ d. pos p *ℤ power fs p i d)
    (λ d l. ap (λ (n : ℕ). coefficient (get_or fs d []) i *ℤ pos n) (let e : p ^ suc d ≡ p * p ^ d = omega (arith, pow-suc p d) in e)
    ∙ sym (times_times (coefficient (get_or fs d []) i) (pos p) (pos (p ^ d))) ∙ ap (λ (z : ℤ). z *ℤ pos (p ^ d)) (times_commutes (coefficient (get_or fs d []) i) (pos p))
    ∙ times_times (pos p) (coefficient (get_or fs d []) i) (pos (p ^ d)))
    ∙ total_times (length fs) (pos p) (power fs p i) ∙ ap (λ (z : ℤ). pos p *ℤ z) (powers fs p i))

-- coefficient i of what is dealt to point p
dealt_coefficient : (q n t p i : ℕ) (seed : List ℕ) → 0 < q → i < n → IsCongruent q (coefficient (dealt q n t p seed) i) (poly (row i (dealing q n t seed)) p)
unfolding dealt value_at
dealt_coefficient q n t p i seed h l =
    congruent_chain ((coefficients_agree q n (λ k. total (length (dealing q n t seed)) (power (dealing q n t seed) p k)) h).each i l)
    (congruent_equal q (total (length (dealing q n t seed)) (power (dealing q n t seed) p i)) (poly (row i (dealing q n t seed)) p) (powers (dealing q n t seed) p i))

-- at 0 it is the party's own part
dealt_at_zero : (q n t i : ℕ) (seed : List ℕ) → 1 ≤ t → poly (row i (dealing q n t seed)) 0 ≡ coefficient (own_part q n seed) i
unfolding dealing dealing_at
dealt_at_zero q n zero i seed h = absurd (omega arith)
dealt_at_zero q n (suc t) i seed h =
    let rest = poly (row i (map (dealing_at q n seed) (range_with_len 1 t))) 0 in
    omega (arith, sums, zero_times rest)

-- ---- parts

share_coefficient : (q n t p i : ℕ) (seed : ℕ → List ℕ) (dealers : List ℕ) → 0 < q → i < n →
    IsCongruent q (coefficient (share q n t seed dealers p) i) (over (λ d. poly (row i (dealing q n t (seed d))) p) dealers)
unfolding share dealt_by
share_coefficient q n t p i seed dealers h l =
    let dealt_at = dealt_by q n t seed p in
    congruent_chain (sum_coefficient q n i (map dealt_at dealers) h l)
    (congruent_chain (congruent_equal q (over (λ f. coefficient f i) (map dealt_at dealers)) (over (λ d. coefficient (dealt_at d) i) dealers) (over_map (λ f. coefficient f i) dealt_at dealers))
    (over_congruent q (λ d. coefficient (dealt_at d) i) (λ d. poly (row i (dealing q n t (seed d))) p) dealers (λ d. dealt_coefficient q n t p i (seed d) h l)))

part_coefficient : (q n t i : ℕ) (seed : ℕ → List ℕ) (dealers : List ℕ) (set j : ℕ) → 0 < q → i < n → has set j ≡ true →
    IsCongruent q (coefficient (part q n t seed dealers set j) i)
    (over (λ d. lambda (λ x k. pos (ratio q x k)) (members set) j *ℤ poly (row i (dealing q n t (seed d))) j) dealers)
unfolding part
part_coefficient q n t i seed dealers set j h l m =
    let lam = lambda (λ x k. pos (ratio q x k)) (members set) j in
    let value = λ (d : ℕ). poly (row i (dealing q n t (seed d))) j in
    congruent_chain ((multiple_agrees (lagrange q set j) (share q n t seed dealers j) h (agree_self q n (coefficient (share q n t seed dealers j)))).each i l)
    (congruent_chain (congruent_product (lagrange_is q set j h m) (share_coefficient q n t j i seed dealers h l))
    (congruent_equal q (lam *ℤ over value dealers) (over (λ d. lam *ℤ value d) dealers) (sym (over_times lam value dealers))))

-- the parts of as many members as the threshold sum to the secret, whoever dealt
pub parts_sum : (q n t : ℕ) (seed : ℕ → List ℕ) (dealers : List ℕ) (set : ℕ) → 0 < q → IsTrue (indivisible q 31) → 1 ≤ t → t ≤ length (members set) →
    ring_total q n (parts q n t seed dealers set) ≡ secret q n seed dealers
unfolding parts secret dealing own_by
parts_sum q n t seed dealers set h small low few =
    let r = λ (x k : ℕ). pos (ratio q x k) in
    let js = members set in
    let part_at = part q n t seed dealers set in
    let own_at = own_by q n seed in
    let whole = ring_total q n (map part_at js) in
    let own = ring_total q n (map own_at dealers) in
    same_polys q n whole own h (total_poly q n (map part_at js) h) (total_poly q n (map own_at dealers) h) (record {
      each = λ i l.
          let g = λ (d : ℕ). poly (row i (dealing q n t (seed d))) in
          congruent_chain (sum_coefficient q n i (map part_at js) h l)
          (congruent_chain (congruent_equal q (over (λ f. coefficient f i) (map part_at js)) (over (λ j. coefficient (part_at j) i) js) (over_map (λ f. coefficient f i) part_at js))
          (congruent_chain (over_congruent_where q (λ j. has set j ≡ true) (λ j. coefficient (part_at j) i) (λ j. over (λ d. lambda r js j *ℤ g d j) dealers) js (members_in set)
          (λ j m. part_coefficient q n t i seed dealers set j h l m))
          (congruent_chain (congruent_equal q (over (λ j. over (λ d. lambda r js j *ℤ g d j) dealers) js) (over (λ d. mixed r js (g d)) dealers) (over_swap (λ j d. lambda r js j *ℤ g d j) js dealers))
          (congruent_chain (over_congruent q (λ d. mixed r js (g d)) (λ d. coefficient (own_at d) i) dealers
          (λ d. congruent_chain
          (interpolates q r (row i (dealing q n t (seed d))) js (ratios_divide q h small) (members_distinct set)
          (omega (arith, length_row i (dealing q n t (seed d)), length-map-range_with_len (dealing_at q n (seed d)) 0 t)))
          (congruent_equal q (g d 0) (coefficient (own_at d) i) (dealt_at_zero q n t i (seed d) low))))
          (congruent_chain (congruent_equal q (over (λ d. coefficient (own_at d) i) dealers) (over (λ f. coefficient f i) (map own_at dealers)) (sym (over_map (λ f. coefficient f i) own_at dealers)))
          (congruent_back (sum_coefficient q n i (map own_at dealers) h l)))))));
    })

-- ---- the secret

own_part_is : (q n : ℕ) (seed : List ℕ) → 0 < q → IsPoly q n (own_part q n seed)
unfolding own_part
own_part_is q n seed h = ternary_poly_is q n seed part_stream 0 h

own_part_small : (q n : ℕ) (seed : List ℕ) → 0 < q → size q (own_part q n seed) ≤ 1
unfolding own_part
own_part_small q n seed h = size_ternary_poly q n seed part_stream 0 h

-- every list has a fact that holds of everything
all_of : {A : Type 0} (P : A → Type 0) (xs : List A) → ((x : A) → P x) → All P xs
all_of P [] h = All-nil P
all_of P (x ∷ xs) h = All-cons P x xs (h x) (all_of P xs h)

-- the secret is at most as large as there are dealers
pub secret_small : (q n : ℕ) (seed : ℕ → List ℕ) (dealers : List ℕ) → 0 < q → size q (secret q n seed dealers) ≤ length dealers
unfolding secret own_by
secret_small q n seed dealers h =
    let own = own_by q n seed in
    let e : size q (ring_total q n (map own dealers)) ≤ length (map own dealers) * 1 =
    size_total q n 1 (map own dealers) h
    (All-map (IsPoly q n) own dealers (all_of (λ d. IsPoly q n (own d)) dealers (λ d. own_part_is q n (seed d) h)))
    (All-map (λ f. size q f ≤ 1) own dealers (all_of (λ d. size q (own d) ≤ 1) dealers (λ d. own_part_small q n (seed d) h))) in
    omega (arith, length-map dealers own)

pub secret_is : (q n : ℕ) (seed : ℕ → List ℕ) (dealers : List ℕ) → 0 < q → IsPoly q n (secret q n seed dealers)
unfolding secret
secret_is q n seed dealers h = total_poly q n (map (own_by q n seed) dealers) h
