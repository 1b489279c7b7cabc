-- A sum of polynomials, one after the other.
use Rattle.std.proofs.Common.{◌≡◌, ℕ, ◌+◌, ◌<◌, List, [], ◌∷◌, length, get_or, take, replicate, sym, ap, ◌∙◌}
use Rattle.std.specs.Prelude.{pos, All, Result, Ok, Err, IfOk}
use Rattle.std.proofs.lemmas.List.{get_or-replicate, length-replicate, take_more}
use Rattle.std.proofs.Math.Nat.{mod-eq_of_lt}
use Rattle.ring_spec.specs.Ring.{IsPoly, residue, residues, ring_sum}
use Rattle.ring_spec.specs.Aggregate.{ring_total}
use Rattle.ring_laws.proofs.Residues.{residues_unique}
use Rattle.ring_laws.proofs.Rings.{ring_sum_zero, ring_sum_commutes}
use Rattle.ring_laws.proofs.Aggregates.{total_append}

-- zeros are the sum of nothing
pub zeros_are : (q n : ℕ) → 0 < q → replicate n 0 ≡ residues q n (λ i. pos 0)
unfolding residue
zeros_are q n h =
    residues_unique q n (λ i. pos 0) (replicate n 0) (length-replicate n 0) (λ i l. get_or-replicate n i 0 0 l ∙ sym (mod-eq_of_lt h))

pub total_none : (q n : ℕ) (fs : List (List ℕ)) → 0 < q → replicate n 0 ≡ ring_total q n (take 0 fs)
unfolding ring_total
total_none q n fs h = zeros_are q n h

-- one more polynomial
pub total_more : (q n : ℕ) (fs : List (List ℕ)) (i : ℕ) (sum f now : List ℕ) → 0 < q → i < length fs → All (IsPoly q n) fs →
    sum ≡ ring_total q n (take i fs) → f ≡ get_or fs i f → now ≡ ring_sum q n sum f → now ≡ ring_total q n (take (i + 1) fs)
unfolding ring_total
total_more q n fs i sum f now h l p e g s =
    let last = get_or fs i f in
    s ∙ ap (λ (x : List ℕ). ring_sum q n x f) e ∙ ap (ring_sum q n (ring_total q n (take i fs))) (g ∙ sym (ring_sum_zero q n last h (p i f l)))
    ∙ sym (total_append q n (take i fs) (last ∷ []) h) ∙ ap (ring_total q n) (sym (take_more fs i f l))

-- a polynomial added to zeros
pub zeros_and : (q n : ℕ) (z f now : List ℕ) → 0 < q → IsPoly q n f → z ≡ replicate n 0 → now ≡ ring_sum q n z f → now ≡ f
zeros_and q n z f now h p e s =
    s ∙ ap (λ (x : List ℕ). ring_sum q n x f) (e ∙ zeros_are q n h) ∙ ring_sum_commutes q n (residues q n (λ i. pos 0)) f ∙ ring_sum_zero q n f h p

-- what follows from what an answer is
pub if_ok : {T E : Type 0} (r : Result T E) (P Q : T → Type 0) → ((x : T) → P x → Q x) → IfOk r P → IfOk r Q
if_ok (Ok x) P Q h p = h x p
if_ok (Err e) P Q h p = tt

-- for the tactics
pub ruleset one_by_one = (total_none, total_more, zeros_and)
