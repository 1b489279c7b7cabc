-- Polynomials are added place by place: what is written below a place, and what is as it was.
use Rattle.std.proofs.Common.{◌≡◌, ℕ, ◌<◌, ◌≤◌, List, [], ◌++◌, length, get_or, take, ◌∙◌, subst, sym, arith}
use Rattle.std.proofs.lemmas.List.{take-append-le, take_all}
use Rattle.std.specs.Prelude.{All}
use Rattle.std.proofs.lemmas.List.Elements.{All-from_get_or}
use Rattle.ring_spec.specs.Ring.{IsPoly, ring_sum}
use Rattle.ring_laws.proofs.Residues.{sum_poly}

-- place k has the sum for k below i, and is as it was from i on
pub record Added (q n : ℕ) (was others now : List (List ℕ)) (i : ℕ) : Type 0 where
  pub many : length now ≡ length was
  pub done : (k : ℕ) → k < i → get_or now k [] ≡ ring_sum q n (get_or was k []) (get_or others k [])
  pub rest : (k : ℕ) → i ≤ k → get_or now k [] ≡ get_or was k []

-- sums are polynomials of the ring
pub sums_fit : (q n : ℕ) (was others now : List (List ℕ)) → 0 < q → length now ≡ length was
    → ((k : ℕ) → k < length was → get_or now k [] ≡ ring_sum q n (get_or was k []) (get_or others k []))
    → All (IsPoly q n) now
sums_fit q n was others now h many each =
    All-from_get_or (IsPoly q n) now [] (λ k l.
    subst (IsPoly q n) (sym (each k (omega (arith, many)))) (sum_poly q n (get_or was k []) (get_or others k []) h))

-- what a slice that is written leaves in the list that lent it
pub written : (n : ℕ) (now rest : List (List ℕ)) → length now ≡ n → take n (now ++ rest) ≡ now
written n now rest e = take-append-le n now rest (omega (arith, e)) ∙ take_all n now (omega (arith, e))
