-- The same where the dealers are the parties 1, 2, .. of a list of seeds.
use Rattle.std.specs.Prelude.{ℕ, ◌-◌, List, [], length, slice_index_or}
use Rattle.std.specs.List.{range_with_len}
use Rattle.share_spec.specs.Dealing.{share as share_by, secret as secret_by, part as part_by, parts as parts_by}

-- the seed of party p
unfoldable pub seed_in : List (List ℕ) → ℕ → List ℕ
seed_in seeds p = slice_index_or seeds (p - 1) []

-- the parties that have one
unfoldable pub dealers_in : List (List ℕ) → List ℕ
dealers_in seeds = range_with_len 1 (length seeds)

-- the share at point p
unfoldable pub share : ℕ → ℕ → ℕ → List (List ℕ) → ℕ → List ℕ
share q n t seeds p = share_by q n t (seed_in seeds) (dealers_in seeds) p

-- the secret
unfoldable pub secret : ℕ → ℕ → List (List ℕ) → List ℕ
secret q n seeds = secret_by q n (seed_in seeds) (dealers_in seeds)

-- what party j takes part with when a set acts
unfoldable pub part : ℕ → ℕ → ℕ → List (List ℕ) → ℕ → ℕ → List ℕ
part q n t seeds set j = part_by q n t (seed_in seeds) (dealers_in seeds) set j

-- the parts of all members of a set, rising
unfoldable pub parts : ℕ → ℕ → ℕ → List (List ℕ) → ℕ → List (List ℕ)
parts q n t seeds set = parts_by q n t (seed_in seeds) (dealers_in seeds) set
