-- Sums of products of words that are not yet reduced.
use Rattle.std.specs.Prelude.{ℕ, ◌+◌, ◌*◌, ◌%◌, ◌^◌, ◌≤◌, List, All, map, length, get_or}
use Rattle.std.specs.List.{range_with_len}

-- the remainder of each entry
unfoldable pub remainders : ℕ → List ℕ → List ℕ
remainders q sums = map (λ x. x % q) sums

-- entry k of the sums with the product of the entries k of f and g added
abbrev pub raised : List ℕ → List ℕ → List ℕ → ℕ → ℕ
raised sums f g k = get_or sums k 0 + get_or f k 0 * get_or g k 0

-- the same for all entries
unfoldable pub raised_sums : List ℕ → List ℕ → List ℕ → List ℕ
raised_sums sums f g = map (raised sums f g) (range_with_len 0 (length sums))

-- each entry is at most what so many products of residues of 55 bits give
abbrev pub AreWithin : ℕ → List ℕ → Type 0
AreWithin terms sums = All (λ x. x ≤ terms * 2 ^ 110) sums
