-- The seeds of all parties of a roll.
use Rattle.std.specs.Prelude.{ℕ, List, map}
use Rattle.std.specs.List.{range_with_len}
use Rattle.draw_spec.specs.Streams.{party_seed}

-- the seeds of the parties 1 to n, in order, where each party's is told
unfoldable pub seeds_told : (ℕ → List ℕ) → ℕ → List (List ℕ)
seeds_told seed n = map seed (range_with_len 1 n)

-- those of a master seed
unfoldable pub seeds_of : List ℕ → ℕ → List (List ℕ)
seeds_of master n = seeds_told (party_seed master) n
