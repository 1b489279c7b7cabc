-- The value of a sum of dealings is the sum of their values.
use Rattle.std.proofs.Common.{◌≡◌, ℕ, ◌^◌, ◌<◌, List, [], length, get_or, sym, ap, ◌∙◌}
use Rattle.std.specs.Prelude.{pos, ◌+ℤ◌, ◌*ℤ◌}
use Rattle.std.proofs.lemmas.List.FromFn.{length-map-range_with_len}
use Rattle.ring_spec.specs.Ring.{total, coefficient, plus, ring_sum}
use Rattle.ring_laws.proofs.Integers.{sum_times}
use Rattle.ring_laws.proofs.Totals.{total_sum}
use Rattle.ring_laws.proofs.Congruences.{congruent_equal, congruent_self, congruent_chain, congruent_product, total_congruent, agree_self}
use Rattle.ring_laws.proofs.Residues.{residues_same, sum_residues}
use Rattle.ring_laws.proofs.Rings.{sum_agrees}
use Rattle.share_spec.specs.Dealing.{dealing_at, dealing, power, value_at}

-- a dealing has as many coefficients as the threshold
pub dealing_number : (q n t : ℕ) (seed : List ℕ) → length (dealing q n t seed) ≡ t
unfolding dealing
dealing_number q n t seed = length-map-range_with_len (dealing_at q n seed) 0 t

-- at each point, where each coefficient of hs is the sum of those of fs and gs
pub value_sum : (q n p : ℕ) (fs gs hs : List (List ℕ)) → 0 < q → length gs ≡ length fs → length hs ≡ length fs →
    ((d : ℕ) → d < length fs → get_or hs d [] ≡ ring_sum q n (get_or fs d []) (get_or gs d [])) →
    value_at q n hs p ≡ ring_sum q n (value_at q n fs p) (value_at q n gs p)
unfolding value_at
value_sum q n p fs gs hs h lg lh each =
    let m = length fs in
    let a = λ (i : ℕ). total (length fs) (power fs p i) in
    let b = λ (i : ℕ). total (length gs) (power gs p i) in
    let c = λ (i : ℕ). total (length hs) (power hs p i) in
    residues_same q n c (plus a b) h (record {
      each = λ i l.
          congruent_chain (congruent_equal q (total (length hs) (power hs p i)) (total m (power hs p i)) (ap (λ (k : ℕ). total k (power hs p i)) lh))
          (congruent_chain (total_congruent q m (power hs p i) (λ d. power fs p i d +ℤ power gs p i d) (λ d ld.
          let f = get_or fs d [] in
          let g = get_or gs d [] in
          congruent_chain (congruent_equal q (power hs p i d) (coefficient (ring_sum q n f g) i *ℤ pos (p ^ d)) (ap (λ (x : List ℕ). coefficient x i *ℤ pos (p ^ d)) (each d ld)))
          (congruent_chain (congruent_product ((sum_agrees f g h (agree_self q n (coefficient f)) (agree_self q n (coefficient g))).each i l) (congruent_self q (pos (p ^ d))))
          (congruent_equal q ((coefficient f i +ℤ coefficient g i) *ℤ pos (p ^ d)) (power fs p i d +ℤ power gs p i d) (sum_times (coefficient f i) (coefficient g i) (pos (p ^ d)))))))
          (congruent_equal q (total m (λ d. power fs p i d +ℤ power gs p i d)) (plus a b i)
          (total_sum m (power fs p i) (power gs p i) ∙ ap (λ (k : ℕ). total m (power fs p i) +ℤ total k (power gs p i)) (sym lg))));
    })
    ∙ sym (sum_residues q n a b h)
