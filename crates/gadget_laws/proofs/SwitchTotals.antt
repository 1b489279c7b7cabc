-- A key switch as a sum of products, and that it is of the ring.
use Rattle.std.proofs.Common.{◌≡◌, ℕ, zero, suc, ◌+◌, ◌<◌, List, [], ◌∷◌, map, length, replicate, sym, ap, ◌∙◌, subst, arith}
use Rattle.std.specs.Prelude.{pos}
use Rattle.std.specs.List.{range_with_len}
use Rattle.std.proofs.lemmas.List.{get_or-replicate, length-replicate}
use Rattle.ring_spec.specs.Pairs.{CipherFits}
use Rattle.ring_spec.specs.Ring.{residue, residues, IsPoly, ring_sum, ring_product, ring_turned}
use Rattle.ring_spec.specs.Aggregate.{ring_total}
use Rattle.bfv_spec.specs.Scheme.{cipher_sum}
use Rattle.gadget_spec.specs.Digits.{digit_poly, digit_polys}
use Rattle.gadget_spec.specs.Switching.{KeyRow, row_at, combined, key_switch, rotation}
use Rattle.gadget_laws.specs.Switching.{SwitchesFit, RotationsFit}
use Rattle.gadget_laws.specs.Totals.{SwitchesAreTotals}
use Rattle.ring_laws.proofs.Residues.{residues_unique, residues_poly, sum_poly}

-- the zero polynomial, said by a list and by residues
zeros_are : (q n : ℕ) → 0 < q → replicate n 0 ≡ residues q n (λ i. pos 0)
unfolding residue
zeros_are q n h = residues_unique q n (λ i. pos 0) (replicate n 0) (length-replicate n 0) (λ i l. get_or-replicate n i 0 0 l ∙ omega (arith, h))

-- polynomials made one after the other times the rows beside them, where row k is `row (i + k)`
totals : (q n : ℕ) (d : ℕ → List ℕ) (row : ℕ → KeyRow) (l i : ℕ) (key : List KeyRow) → 0 < q → length key ≡ l → ((k : ℕ) → row_at key k ≡ row (i + k)) →
    ((combined q n key (map d (range_with_len i l))).c0 ≡ ring_total q n (map (λ j. ring_product q n (d j) (row j).b) (range_with_len i l)))
    × ((combined q n key (map d (range_with_len i l))).c1 ≡ ring_total q n (map (λ j. ring_product q n (d j) (row j).a) (range_with_len i l)))
unfolding combined cipher_sum ring_total
totals q n d row zero i [] h e at = (zeros_are q n h, zeros_are q n h)
totals q n d row (suc l) i [] h e at = absurd (omega (arith, e))
totals q n d row zero i (r ∷ key) h e at = absurd (omega (arith, e))
totals q n d row (suc l) i (r ∷ key) h e at =
    let rest = totals q n d row l (i + 1) key h (omega (arith, e)) (λ k. at (suc k) ∙ ap row (omega arith)) in
    let here : r ≡ row i = at 0 ∙ ap row (omega arith) in (
      ap (λ (x : List ℕ). ring_sum q n (ring_product q n (d i) r.b) x) rest.0 ∙ ap (λ (x : KeyRow). ring_sum q n (ring_product q n (d i) x.b) (ring_total q n (map (λ j. ring_product q n (d j) (row j).b) (range_with_len (i + 1) l)))) here,
      ap (λ (x : List ℕ). ring_sum q n (ring_product q n (d i) r.a) x) rest.1 ∙ ap (λ (x : KeyRow). ring_sum q n (ring_product q n (d i) x.a) (ring_total q n (map (λ j. ring_product q n (d j) (row j).a) (range_with_len (i + 1) l)))) here,
    )

pub switches_are_totals : SwitchesAreTotals
unfolding key_switch digit_polys
switches_are_totals q n g key f h e = totals q n (digit_poly q n g f) (row_at key) g.rows 0 key h e (λ k. ap (row_at key) (omega arith))

-- ---- of the ring

zeros_fit : (q n : ℕ) → 0 < q → IsPoly q n (replicate n 0)
zeros_fit q n h = subst (IsPoly q n) (sym (zeros_are q n h)) (residues_poly q n (λ i. pos 0) h)

combined_fits : (q n : ℕ) (key : List KeyRow) (ds : List (List ℕ)) → 0 < q → CipherFits q n (combined q n key ds)
unfolding combined cipher_sum
combined_fits q n [] ds h = record { c0 = zeros_fit q n h; c1 = zeros_fit q n h }
combined_fits q n (row ∷ key) [] h = record { c0 = zeros_fit q n h; c1 = zeros_fit q n h }
combined_fits q n (row ∷ key) (d ∷ ds) h = record {
  c0 = sum_poly q n (ring_product q n d row.b) (combined q n key ds).c0 h;
  c1 = sum_poly q n (ring_product q n d row.a) (combined q n key ds).c1 h;
}

pub switches_fit : SwitchesFit
unfolding key_switch
switches_fit q n g key f h = combined_fits q n key (digit_polys q n g f) h

pub rotations_fit : RotationsFit
unfolding rotation cipher_sum
rotations_fit q n e g key c h = record {
  c0 = sum_poly q n (ring_turned q n e c.c0) (key_switch q n g key (ring_turned q n e c.c1)).c0 h;
  c1 = sum_poly q n (replicate n 0) (key_switch q n g key (ring_turned q n e c.c1)).c1 h;
}
