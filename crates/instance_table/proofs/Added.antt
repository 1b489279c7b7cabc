-- A share is added row by row: what is written below a place, and what is as it was.
use Rattle.std.proofs.Common.{◌≡◌, ℕ, ◌<◌, ◌≤◌, List, [], length, get_or, arith}
use Rattle.std.specs.List.{range_with_len}
use Rattle.std.specs.Prelude.{All}
use Rattle.std.proofs.lemmas.List.Elements.{All-map}
use Rattle.std.proofs.lemmas.List.FromFn.{fill_by_all, length-map-range_with_len}
use Rattle.ring_spec.specs.Ring.{IsPoly}
use Rattle.ring_laws.proofs.Residues.{sum_poly}
use Rattle.instance_table.specs.Tables.{row_sum, rows_sum}

-- row k is the sum for k below i, and that of the sums before from i on
pub record Added (q n : ℕ) (was rows now : List (List ℕ)) (i : ℕ) : Type 0 where
  pub many : length now ≡ length was
  pub done : (k : ℕ) → k < i → get_or now k [] ≡ row_sum q n was rows k
  pub rest : (k : ℕ) → i ≤ k → get_or now k [] ≡ get_or was k []

-- once all places are passed, these are the sums of the rows
pub Added-end : (q n : ℕ) (was rows now : List (List ℕ)) (i : ℕ) → Added q n was rows now i → length was ≤ i → now ≡ rows_sum q n was rows
unfolding rows_sum
Added-end q n was rows now i a le = fill_by_all (row_sum q n was rows) now (length was) [] a.many (λ k h. a.done k (omega arith))

-- they are as many as the rows before, and each is a polynomial of the ring
pub rows_sum-number : (q n : ℕ) (fs gs : List (List ℕ)) → length (rows_sum q n fs gs) ≡ length fs
unfolding rows_sum
rows_sum-number q n fs gs = length-map-range_with_len (row_sum q n fs gs) 0 (length fs)

pub rows_sum-fits : (q n : ℕ) (fs gs : List (List ℕ)) → 0 < q → All (IsPoly q n) (rows_sum q n fs gs)
unfolding rows_sum row_sum
rows_sum-fits q n fs gs h =
    All-map (IsPoly q n) (row_sum q n fs gs) (range_with_len 0 (length fs)) (λ k d l. sum_poly q n _ _ h)
