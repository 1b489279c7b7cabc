-- One more coefficient of a polynomial that is put where X^g for X takes it.
use Rattle.std.proofs.Common.{◌≡◌, ℕ, ◌+◌, ◌-◌, ◌*◌, ◌%◌, ◌<◌, ◌≤◌, ◌≢◌, List, length, get_or, set, eqb, false, true, inl, inr, refl, sym, ◌∙◌, ap, subst, add-one, arith, get_or-set_same, get_or-set_other}
use Rattle.std.specs.Prelude.{ℤ, pos, ◌+ℤ◌, ◌-ℤ◌, neg_ℤ}
use Rattle.std.proofs.lemmas.Int.{ints}
use Rattle.std.proofs.lemmas.Bool.{cases_eq}
use Rattle.std.proofs.lemmas.Bool.Decides.{nat_tests}
use Rattle.ring_spec.specs.Ring.{total, residue, moved, coefficient, turned, ring_turned, IsPoly}
use Rattle.ring_laws.proofs.Integers.{sums}
use Rattle.ring_laws.proofs.Congruences.{congruent_self, congruent_sum, residue_congruent, residue_same}
use Rattle.ring_laws.proofs.Residues.{residues_unique, residues_poly}

-- the sum of one more term
total_more : (i : ℕ) (f : ℕ → ℤ) → total (i + 1) f ≡ total i f +ℤ f i
unfolding total
total_more i f = subst (λ m. total m f ≡ total i f +ℤ f i) (sym (add-one i)) refl

-- what coefficient i gives to a place: itself, its negative, or nothing
moved_here : (f : List ℕ) (n g k i : ℕ) → i * g % (2 * n) ≡ k → moved n g (coefficient f) k i ≡ pos (get_or f i 0)
moved_here f n g k i e =
    let test : eqb (i * g % (2 * n)) k ≡ true = grind (arith, nat_tests) in
    rw test refl

moved_past : (f : List ℕ) (n g k i : ℕ) → k < n → i * g % (2 * n) ≡ k + n → moved n g (coefficient f) k i ≡ neg_ℤ (pos (get_or f i 0))
moved_past f n g k i l e =
    let first : eqb (i * g % (2 * n)) k ≡ false = grind (arith, nat_tests) in
    let second : eqb (i * g % (2 * n)) (k + n) ≡ true = grind (arith, nat_tests) in
    rw (first, second) refl

moved_away : (f : List ℕ) (n g k i : ℕ) → i * g % (2 * n) ≢ k → i * g % (2 * n) ≢ k + n → moved n g (coefficient f) k i ≡ pos 0
moved_away f n g k i ne other =
    let first : eqb (i * g % (2 * n)) k ≡ false = grind (arith, nat_tests) in
    let second : eqb (i * g % (2 * n)) (k + n) ≡ false = grind (arith, nat_tests) in
    rw (first, second) refl

-- the residue of a sum from that of its first part
residue_added : (t : ℕ) (z w : ℤ) → 0 < t → residue t (pos (residue t z) +ℤ w) ≡ residue t (z +ℤ w)
residue_added t z w h = residue_same t (pos (residue t z) +ℤ w) (z +ℤ w) h (congruent_sum (residue_congruent t z h) (congruent_self t w))

-- one more term of the sum for one place
one_more : (t n g i k x : ℕ) (f : List ℕ) (w : ℤ) → 0 < t → x ≡ residue t (total i (moved n g (coefficient f) k)) → moved n g (coefficient f) k i ≡ w → residue t (pos x +ℤ w) ≡ residue t (total (i + 1) (moved n g (coefficient f) k))
one_more t n g i k x f w h e m =
    let so_far = total i (moved n g (coefficient f) k) in
    ap (λ z. residue t (pos z +ℤ w)) e
    ∙ residue_added t so_far w h
    ∙ ap (λ z. residue t (so_far +ℤ z)) (sym m)
    ∙ ap (residue t) (sym (total_more i (moved n g (coefficient f) k)))

-- a place that gets nothing
none_more : (t n g i k x : ℕ) (f : List ℕ) → x ≡ residue t (total i (moved n g (coefficient f) k)) → moved n g (coefficient f) k i ≡ pos 0 → x ≡ residue t (total (i + 1) (moved n g (coefficient f) k))
none_more t n g i k x f e m =
    let so_far = total i (moved n g (coefficient f) k) in
    let next = total_more i (moved n g (coefficient f) k) in
    let same : so_far ≡ so_far +ℤ pos 0 = omega (arith, ints, sums) in
    e ∙ ap (residue t) (same ∙ ap (λ z. so_far +ℤ z) (sym m) ∙ sym next)

-- a coefficient is added at its place, or taken away at its place less n; the other places stay
pub turned_low : (t n g i p v : ℕ) (f xs : List ℕ) → 0 < t → length xs ≡ n → p ≡ i * g % (2 * n) → p < n →
    ((k : ℕ) → k < n → get_or xs k 0 ≡ residue t (total i (moved n g (coefficient f) k))) → v ≡ residue t (pos (get_or xs p 0 + get_or f i 0) -ℤ pos 0) →
    (k : ℕ) → k < n → get_or (set xs p v) k 0 ≡ residue t (total (i + 1) (moved n g (coefficient f) k))
turned_low t n g i p v f xs h len place low each is k l = elim (cases_eq k p) [
  | inl same ↦
      let sum : pos (get_or xs k 0 + get_or f i 0) -ℤ pos 0 ≡ pos (get_or xs k 0) +ℤ pos (get_or f i 0) = omega (arith, ints, sums) in
      let here : get_or (set xs p v) k 0 ≡ v = subst (λ j. get_or (set xs p v) j 0 ≡ v) (sym same) (get_or-set_same xs p v 0 (omega (arith, len, low))) in
      here ∙ is ∙ ap (λ j. residue t (pos (get_or xs j 0 + get_or f i 0) -ℤ pos 0)) (sym same) ∙ ap (residue t) sum
      ∙ one_more t n g i k (get_or xs k 0) f (pos (get_or f i 0)) h (each k l) (moved_here f n g k i (sym place ∙ sym same))
  | inr other ↦
      let ne : i * g % (2 * n) ≢ k = omega (arith, place, other) in
      let apart : i * g % (2 * n) ≢ k + n = omega (arith, place, low) in
      get_or-set_other xs p k v 0 other ∙ none_more t n g i k (get_or xs k 0) f (each k l) (moved_away f n g k i ne apart)
]

pub turned_high : (t n g i p v : ℕ) (f xs : List ℕ) → 0 < t → length xs ≡ n → p ≡ i * g % (2 * n) → n ≤ p → p < 2 * n →
    ((k : ℕ) → k < n → get_or xs k 0 ≡ residue t (total i (moved n g (coefficient f) k))) → v ≡ residue t (pos (get_or xs (p - n) 0) -ℤ pos (get_or f i 0)) →
    (k : ℕ) → k < n → get_or (set xs (p - n) v) k 0 ≡ residue t (total (i + 1) (moved n g (coefficient f) k))
turned_high t n g i p v f xs h len place high below each is k l = elim (cases_eq k (p - n)) [
  | inl same ↦
      let past : i * g % (2 * n) ≡ k + n = omega (arith, place, same, high) in
      let here : get_or (set xs (p - n) v) k 0 ≡ v = subst (λ j. get_or (set xs (p - n) v) j 0 ≡ v) (sym same) (get_or-set_same xs (p - n) v 0 (omega (arith, len, below, high))) in
      here ∙ is ∙ ap (λ j. residue t (pos (get_or xs j 0) -ℤ pos (get_or f i 0))) (sym same)
      ∙ one_more t n g i k (get_or xs k 0) f (neg_ℤ (pos (get_or f i 0))) h (each k l) (moved_past f n g k i l past)
  | inr other ↦
      let ne : i * g % (2 * n) ≢ k = omega (arith, place, high, l) in
      let apart : i * g % (2 * n) ≢ k + n = omega (arith, place, other, high) in
      get_or-set_other xs (p - n) k v 0 other ∙ none_more t n g i k (get_or xs k 0) f (each k l) (moved_away f n g k i ne apart)
]

-- once all coefficients are put, the list is f with X^g for X
pub turned_whole : (t u n g : ℕ) (f x h : List ℕ) → u ≡ t → x ≡ f → length f ≡ n → length h ≡ length x →
    ((k : ℕ) → k < length x → get_or h k 0 ≡ residue u (turned (length x) g (coefficient x) k)) → h ≡ ring_turned t n g f
unfolding ring_turned
turned_whole t u n g f x h eu ex en len each =
    residues_unique u (length x) (turned (length x) g (coefficient x)) h len each
    ∙ ap (λ v. ring_turned v (length x) g x) eu
    ∙ ap (λ y. ring_turned t (length y) g y) ex
    ∙ ap (λ m. ring_turned t m g f) en

pub turned_fits : (t n g : ℕ) (f h : List ℕ) → h ≡ ring_turned t n g f → 0 < t → IsPoly t n h
unfolding ring_turned
turned_fits t n g f h e positive = rw e (residues_poly t n (turned n g (coefficient f)) positive)
