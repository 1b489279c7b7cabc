-- Sums to which the shares of a list are added, one after the other.
use Rattle.std.specs.Prelude.{ℕ, List, [], ◌∷◌, map, slice_index_or}
use Rattle.instance_table.specs.Tables.{rows_sum}

unfoldable pub added : ℕ → ℕ → List (List (List ℕ)) → List (List ℕ) → List (List ℕ)
added q n [] sums = sums
added q n (rows ∷ shares) sums = added q n shares (rows_sum q n sums rows)

-- row k of each share
abbrev pub row_of : ℕ → List (List ℕ) → List ℕ
row_of k rows = slice_index_or rows k []

abbrev pub rows_of_all : ℕ → List (List (List ℕ)) → List (List ℕ)
rows_of_all k shares = map (row_of k) shares
