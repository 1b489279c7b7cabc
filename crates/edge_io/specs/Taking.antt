-- What left a source whose bytes were `old` and are `new`. Where the source doesn't tell its bytes, nothing is said.
use Rattle.std.specs.Prelude.{◌≡◌, ℕ, ◌+◌, ◌<◌, ◌≤◌, List, [], length, drop, Some, None, ⊤, Option}

-- the first `count` bytes were taken, and the source had so many
abbrev pub TakesFirst : Option (List ℕ) → Option (List ℕ) → ℕ → Type 0
TakesFirst None new count = ⊤
TakesFirst (Some bytes) new count = (count ≤ length bytes) × (new ≡ Some (drop count bytes))

-- some first bytes were taken, at most `limit`
abbrev pub TakesAtMost : Option (List ℕ) → Option (List ℕ) → ℕ → Type 0
TakesAtMost old new limit = (count : ℕ) × (count ≤ limit) × TakesFirst old new count

-- all bytes were taken, they are `bytes`, and none is left
abbrev pub TakesAll : Option (List ℕ) → Option (List ℕ) → List ℕ → Type 0
TakesAll None new bytes = ⊤
TakesAll (Some all) new bytes = (bytes ≡ all) × (new ≡ Some [])

-- more than `limit` bytes were taken
abbrev pub TakesMoreThan : List ℕ → Option (List ℕ) → ℕ → Type 0
TakesMoreThan all None limit = ⊥
TakesMoreThan all (Some rest) limit = length rest + limit < length all
