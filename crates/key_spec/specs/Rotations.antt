-- The shares of a rotation key, with the words of an instance's stream. After Mouchet et al. 2021.
use Rattle.std.specs.Prelude.{ℕ, ◌*◌, List, [], map, get_or}
use Rattle.std.specs.List.{range_with_len}
use Rattle.ring_spec.specs.Ring.{Coefficients, ring_turned}
use Rattle.draw_spec.specs.Places.{Seed}
use Rattle.draw_spec.specs.Streams.{instance_stream}
use Rattle.bfv_spec.specs.Drawn.{small_poly}
use Rattle.bfv_spec.specs.Shares.{common_poly}
use Rattle.gadget_spec.specs.Digits.{Gadget, weight}
use Rattle.gadget_spec.specs.Switching.{KeyRow}
use Rattle.key_spec.specs.Rounds.{switch_share}

-- the noise of row i: small draws, n words a row, one row behind the other in the party's stream of the instance
abbrev pub rotation_noise : ℕ → ℕ → ℕ → Seed → ℕ → ℕ → Coefficients
rotation_noise q n b seed id i = small_poly q n b seed (instance_stream id) (n * i)

-- row i of the honest share of a party with this seed and this part of the secret, of the key that takes X to X^e:
-- -a * s + 2^(b*i) * (s with X^e for X) + noise
unfoldable pub rotation_row : ℕ → ℕ → Gadget → ℕ → ℕ → Seed → Seed → ℕ → Coefficients → ℕ → Coefficients
rotation_row q n g b e public seed id part i =
    switch_share q n (weight g i) (common_poly q n public id i) part (ring_turned q n e part) (rotation_noise q n b seed id i)

-- all its rows, one for each row of the gadget
unfoldable pub honest_rotation : ℕ → ℕ → Gadget → ℕ → ℕ → Seed → Seed → ℕ → Coefficients → List Coefficients
honest_rotation q n g b e public seed id part = map (rotation_row q n g b e public seed id part) (range_with_len 0 g.rows)

-- the rotation key of an instance from the sums of its shares: row i is the sum of the rows i, and their common
-- polynomial
abbrev pub rotation_key_row : ℕ → ℕ → Seed → ℕ → List Coefficients → ℕ → KeyRow
rotation_key_row q n public id sums i = record { b = get_or sums i []; a = common_poly q n public id i }

unfoldable pub rotation_key : ℕ → ℕ → Gadget → Seed → ℕ → List Coefficients → List KeyRow
rotation_key q n g public id sums = map (rotation_key_row q n public id sums) (range_with_len 0 g.rows)
