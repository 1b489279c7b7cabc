-- The sums are the totals of the shares row by row, so they are the same in whichever order shares are
-- counted.
use Rattle.std.proofs.Common.{◌≡◌, ℕ, ◌<◌, List, [], ◌∷◌, length, get_or, replicate, ap, sym, ◌∙◌, refl, arith}
use Rattle.std.specs.Prelude.{All, pos, IsPermutation}
use Rattle.std.proofs.lemmas.List.{ext_get_or, get_or-replicate, length-replicate}
use Rattle.std.proofs.lemmas.List.FromFn.{get_or-map-range_with_len}
use Rattle.std.proofs.lemmas.List.Elements.{All-get_or}
use Rattle.std.proofs.lemmas.List.Sorted.{IsPermutation-map}
use Rattle.std.proofs.Math.Nat.{mod-eq_of_lt}
use Rattle.ring_spec.specs.Ring.{IsPoly, residue, residues, ring_sum}
use Rattle.ring_spec.specs.Aggregate.{ring_total}
use Rattle.ring_laws.proofs.Residues.{residues_unique, sum_poly}
use Rattle.ring_laws.proofs.Rings.{ring_sum_zero, ring_sum_commutes, ring_sum_associates}
use Rattle.ring_laws.proofs.Aggregates.{total_poly, total_permutation}
use Rattle.param_set.specs.Moduli.{digit_rows}
use Rattle.param_set.specs.declared.params.Params.{Params}
use Rattle.proto_names.specs.Names.{rows_of}
use Rattle.proto_names.specs.declared.signature.Signature.{Signature}
use Rattle.instance_table.specs.Tables.{row_sum, rows_sum, no_sums}
use Rattle.instance_table.specs.Totals.{added, row_of, rows_of_all}
use Rattle.instance_table.proofs.Added.{rows_sum-number}
use Rattle.instance_table.proofs.Issued.{no_sums-number, no_sums-fits}

rows_sum-at : (q n : ℕ) (fs gs : List (List ℕ)) (k : ℕ) → k < length fs → get_or (rows_sum q n fs gs) k [] ≡ ring_sum q n (get_or fs k []) (get_or gs k [])
unfolding rows_sum row_sum
rows_sum-at q n fs gs k h = get_or-map-range_with_len (row_sum q n fs gs) 0 (length fs) k k [] h (omega arith)

pub added-number : (q n : ℕ) (shares : List (List (List ℕ))) (sums : List (List ℕ)) → length (added q n shares sums) ≡ length sums
unfolding added
added-number q n [] sums = refl
added-number q n (rows ∷ shares) sums = added-number q n shares (rows_sum q n sums rows) ∙ rows_sum-number q n sums rows

-- a row of the sums is what it was and the total of that row of all shares
pub added-row : (q n : ℕ) (shares : List (List (List ℕ))) (sums : List (List ℕ)) (k : ℕ) → 0 < q → k < length sums → IsPoly q n (get_or sums k []) →
    get_or (added q n shares sums) k [] ≡ ring_sum q n (get_or sums k []) (ring_total q n (rows_of_all k shares))
unfolding added ring_total
added-row q n [] sums k h l p = sym (ring_sum_zero q n (get_or sums k []) h p)
added-row q n (rows ∷ shares) sums k h l p =
    let next = rows_sum q n sums rows in
    let at : get_or next k [] ≡ ring_sum q n (get_or sums k []) (get_or rows k []) = rows_sum-at q n sums rows k l in
    let poly : IsPoly q n (get_or next k []) = rw at (sum_poly q n (get_or sums k []) (get_or rows k []) h) in
    let within : k < length next = rw (rows_sum-number q n sums rows) l in
    added-row q n shares next k h within poly
    ∙ ap (λ (f : List ℕ). ring_sum q n f (ring_total q n (rows_of_all k shares))) at
    ∙ ring_sum_associates q n (get_or sums k []) (get_or rows k []) (ring_total q n (rows_of_all k shares)) h

-- from the beginning, a row is that total
pub added-to_none : (p : Params) (σ : Signature) (shares : List (List (List ℕ))) (k : ℕ) → 0 < p.q → k < rows_of σ (digit_rows p.q p.digit_bits) →
    get_or (added p.q p.n shares (no_sums p σ)) k [] ≡ ring_total p.q p.n (rows_of_all k shares)
unfolding no_sums residue
added-to_none p σ shares k h l =
    let q = p.q in let n = p.n in let total = ring_total q n (rows_of_all k shares) in
    let zero_at : get_or (no_sums p σ) k [] ≡ replicate n 0 = get_or-replicate (rows_of σ (digit_rows q p.digit_bits)) k (replicate n 0) [] l in
    let zeros : replicate n 0 ≡ residues q n (λ i. pos 0) =
    residues_unique q n (λ i. pos 0) (replicate n 0) (length-replicate n 0) (λ i r. get_or-replicate n i 0 0 r ∙ sym (mod-eq_of_lt h)) in
    let within : k < length (no_sums p σ) = rw (no_sums-number p σ) l in
    let poly = All-get_or (IsPoly q n) (no_sums p σ) k [] within (no_sums-fits p σ h) in
    added-row q n shares (no_sums p σ) k h within poly
    ∙ ap (λ (f : List ℕ). ring_sum q n f total) (zero_at ∙ zeros)
    ∙ ring_sum_commutes q n (residues q n (λ i. pos 0)) total
    ∙ ring_sum_zero q n total h (total_poly q n (rows_of_all k shares) h)

-- any order
pub added-in_any_order : (q n : ℕ) (shares others : List (List (List ℕ))) (sums : List (List ℕ)) → 0 < q → All (IsPoly q n) sums → IsPermutation shares others →
    added q n others sums ≡ added q n shares sums
added-in_any_order q n shares others sums h fit perm =
    ext_get_or [] (added q n others sums) (added q n shares sums) (added-number q n others sums ∙ sym (added-number q n shares sums))
    (λ k l.
    let within : k < length sums = rw (added-number q n others sums) at l in
    let poly = All-get_or (IsPoly q n) sums k [] within fit in
    added-row q n others sums k h within poly
    ∙ ap (ring_sum q n (get_or sums k [])) (total_permutation q n (rows_of_all k shares) (rows_of_all k others) h (IsPermutation-map (row_of k) shares others perm))
    ∙ sym (added-row q n shares sums k h within poly))
