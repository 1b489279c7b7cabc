-- Sums of the products of digits and rows, one row after the other.
use Rattle.std.proofs.Common.{◌≡◌, ℕ, ◌+◌, ◌<◌, List, [], ◌∷◌, map, length, replicate, sym, ap, ◌∙◌, arith}
use Rattle.std.specs.Prelude.{pos}
use Rattle.std.specs.List.{range_with_len}
use Rattle.std.proofs.lemmas.List.{get_or-replicate, length-replicate}
use Rattle.std.proofs.lemmas.List.FromFn.{map-range_with_len_more}
use Rattle.ring_spec.specs.Ring.{residue, residues, ring_sum, ring_product}
use Rattle.ring_spec.specs.Aggregate.{ring_total}
use Rattle.ring_spec.specs.Pairs.{Cipher}
use Rattle.ring_laws.proofs.Residues.{residues_unique, product_poly}
use Rattle.ring_laws.proofs.Rings.{ring_sum_zero}
use Rattle.ring_laws.proofs.Aggregates.{total_append}
use Rattle.gadget_spec.specs.Switching.{KeyRow, key_switch}
use Rattle.gadget_spec.specs.Digits.{Gadget}
use Rattle.gadget_laws.specs.Totals.{product_b, product_a}
use Rattle.gadget_laws.proofs.SwitchTotals.{switches_are_totals}

-- the sum of the first i products
abbrev pub so_far : ℕ → ℕ → (ℕ → List ℕ) → ℕ → List ℕ
so_far q n h i = ring_total q n (map h (range_with_len 0 i))

pub none_so_far : (q n : ℕ) (h : ℕ → List ℕ) → 0 < q → replicate n 0 ≡ so_far q n h 0
unfolding residue ring_total
none_so_far q n h some = residues_unique q n (λ i. pos 0) (replicate n 0) (length-replicate n 0) (λ i l. get_or-replicate n i 0 0 l ∙ omega (arith, some))

-- one more product
pub more_so_far : (q n : ℕ) (h : ℕ → List ℕ) (i : ℕ) (f g now was : List ℕ) → 0 < q → was ≡ so_far q n h i →
    h i ≡ ring_product q n f g → now ≡ ring_sum q n was (ring_product q n f g) → now ≡ so_far q n h (i + 1)
unfolding ring_total
more_so_far q n h i f g now was some before is e =
    e ∙ ap (λ (x : List ℕ). ring_sum q n x (ring_product q n f g)) before
    ∙ ap (λ (x : List ℕ). ring_sum q n (so_far q n h i) x) (sym (ring_sum_zero q n (ring_product q n f g) some (product_poly q n f g some)))
    ∙ ap (λ (x : List ℕ). ring_sum q n (so_far q n h i) (ring_sum q n x (residues q n (λ i. pos 0)))) (sym is)
    ∙ sym (total_append q n (map h (range_with_len 0 i)) (h i ∷ []) some)
    ∙ ap (ring_total q n) (sym (map-range_with_len_more h 0 i i (omega arith)))

-- all of them
pub all_rows : (q n : ℕ) (g : Gadget) (key : List KeyRow) (f b a : List ℕ) (c : Cipher) (l : ℕ) → 0 < q → length key ≡ g.rows → l ≡ g.rows →
    b ≡ so_far q n (product_b q n g key f) l → a ≡ so_far q n (product_a q n g key f) l → c ≡ record { c0 = b; c1 = a } → c ≡ key_switch q n g key f
all_rows q n g key f b a c l some count end eb ea e =
    let totals = switches_are_totals q n g key f some count in
    let b' : b ≡ (key_switch q n g key f).c0 = eb ∙ ap (so_far q n (product_b q n g key f)) end ∙ sym totals.0 in
    let a' : a ≡ (key_switch q n g key f).c1 = ea ∙ ap (so_far q n (product_a q n g key f)) end ∙ sym totals.1 in
    e ∙ ap (λ (x : List ℕ). record { c0 = x; c1 = a }) b' ∙ ap (λ (x : List ℕ). record { c0 = (key_switch q n g key f).c0; c1 = x }) a'
