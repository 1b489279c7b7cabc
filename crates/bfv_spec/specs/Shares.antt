-- The shares of the protocols for keys, with the words of an instance's stream.
use Rattle.std.specs.Prelude.{ℕ, ◌*◌, List, map}
use Rattle.std.specs.List.{range_with_len}
use Rattle.ring_spec.specs.Ring.{Coefficients}
use Rattle.ring_spec.specs.Pairs.{Key}
use Rattle.draw_spec.specs.Places.{Seed}
use Rattle.draw_spec.specs.Streams.{instance_stream}
use Rattle.bfv_spec.specs.Scheme.{pk_share}
use Rattle.bfv_spec.specs.Drawn.{uniform_poly, small_poly}

-- the common polynomial of a row of an instance, from the public seed; rows stand one behind the other
-- in the instance's stream, four words a coefficient
abbrev pub common_poly : ℕ → ℕ → Seed → ℕ → ℕ → Coefficients
common_poly q n public id row = uniform_poly q n public (instance_stream id) (4 * n * row)

-- the common polynomials of the first rows
unfoldable pub common_polys : ℕ → ℕ → Seed → ℕ → ℕ → List Coefficients
common_polys q n public id rows = map (common_poly q n public id) (range_with_len 0 rows)

-- the honest share of the public key of a party with this seed and this part of the secret: its noise
-- is the party's stream of that instance
unfoldable pub honest_pk : ℕ → ℕ → ℕ → Seed → Seed → ℕ → Coefficients → Coefficients
honest_pk q n b public seed id part =
    pk_share q n (common_poly q n public id 0) part (small_poly q n b seed (instance_stream id) 0)

-- the public key of an instance from the sum of its shares
unfoldable pub pk_from : ℕ → ℕ → Seed → ℕ → Coefficients → Key
pk_from q n public id sum = record { p0 = sum; p1 = common_poly q n public id 0 }
