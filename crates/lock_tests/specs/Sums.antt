-- What a list of pairs keeps: each sum is the last one and its own number.
use Rattle.std.specs.Prelude.{◌≡◌, ℕ, ◌+◌, List, [], ◌∷◌, ◌++◌, map, sum_by}
use Rattle.lock_tests.specs.declared.sums.Pair.{Pair}

abbrev pub sum_in : Pair → ℕ
sum_in p = p.sum

abbrev pub number_in : Pair → ℕ
number_in p = p.number

-- what the sums have to be, where the last one was `sum`
abbrev pub sums_from : ℕ → List Pair → List ℕ
sums_from sum [] = []
sums_from sum (p ∷ ps) = (sum + p.number) ∷ sums_from (sum + p.number) ps

-- each sum is the last one and its own number; the first is from 0
abbrev pub AddsUp : List Pair → Type 0
AddsUp ps = map sum_in ps ≡ sums_from 0 ps

-- the last sum, where it was `sum` before
abbrev pub sum_after : ℕ → List Pair → ℕ
sum_after sum [] = sum
sum_after sum (p ∷ ps) = sum_after p.sum ps

-- the last sum of a list, 0 where it has none
abbrev pub last_sum : List Pair → ℕ
last_sum = sum_after 0

-- the sum of all numbers in a beginning of the list
pub record IsSumIn (ps : List Pair) (sum : ℕ) : Type 0 where
  pub begun : List Pair
  pub rest : List Pair
  pub whole : ps ≡ begun ++ rest
  pub is : sum ≡ sum_by number_in begun
