-- Sets of parties that are put together, made smaller, and compared. A set is a number of 32 bits, of
-- which bit p - 1 stands for party p.
use Rattle.std.specs.Prelude.{ℕ, ◌+◌, ◌-◌, ◌^◌, Bool, not, ◌&&◌, bit_or, bit_and, List, [], ◌∷◌, take, Option}
use Rattle.std.specs.Int.{bit_not, w32}
use Rattle.std.specs.List.{range_with_len, find, count_by}
use Rattle.share_spec.specs.Sets.{has, members}

-- a set with party p, from 1 to 32, and without it
unfoldable pub with_party : ℕ → ℕ → ℕ
with_party set p = bit_or set (2 ^ (p - 1))

unfoldable pub without_party : ℕ → ℕ → ℕ
without_party set p = bit_and set (bit_not w32 (2 ^ (p - 1)))

-- the set of some different parties
unfoldable pub set_of : List ℕ → ℕ
set_of [] = 0
set_of (p ∷ ps) = 2 ^ (p - 1) + set_of ps

-- the k least parties of a set, or all where it has fewer
unfoldable pub least_of : ℕ → ℕ → ℕ
least_of k set = set_of (take k (members set))

-- whether party p is in a set and not in another
unfoldable pub is_outside : ℕ → ℕ → ℕ → Bool
is_outside set other p = has set p && not (has other p)

-- the least party of a set that isn't in another
unfoldable pub first_outside : ℕ → ℕ → Option ℕ
first_outside set other = find (is_outside set other) (range_with_len 1 32)

-- how many parties of a set aren't in another
unfoldable pub number_outside : ℕ → ℕ → ℕ
number_outside set other = count_by (is_outside set other) (range_with_len 1 32)
