-- The shares of both rounds of the relinearisation key, with the words of the instances' streams. After Mouchet et
-- al. 2021.
use Rattle.std.specs.Prelude.{ℕ, ◌+◌, ◌*◌, List, [], ◌∷◌, map, get_or}
use Rattle.std.specs.List.{range_with_len, flat_map}
use Rattle.ring_spec.specs.Ring.{Coefficients, ring_sum, ring_difference, ring_product}
use Rattle.draw_spec.specs.Places.{Seed}
use Rattle.draw_spec.specs.Streams.{instance_stream}
use Rattle.bfv_spec.specs.Drawn.{small_poly, ternary_poly}
use Rattle.bfv_spec.specs.Shares.{common_poly}
use Rattle.gadget_spec.specs.Digits.{Gadget, weight}
use Rattle.gadget_spec.specs.Switching.{KeyRow}
use Rattle.key_spec.specs.Rounds.{switch_share}

-- ---- the first round

-- a party's ephemeral secret u of a key: n ternary words at the start of its stream of the first round
unfoldable pub ephemeral : ℕ → ℕ → Seed → ℕ → Coefficients
ephemeral q n seed id = ternary_poly q n seed (instance_stream id) 0

-- behind them, for each row of the gadget, the noises of its two rows, n small words each
abbrev pub first_round_noise : ℕ → ℕ → ℕ → Seed → ℕ → ℕ → Coefficients
first_round_noise q n b seed id r = small_poly q n b seed (instance_stream id) (n + n * r)

-- the two rows of the honest share for row i of the gadget: h0 = -a * u + 2^(b*i) * s + e0, then h1 = s * a + e1
unfoldable pub first_round_rows : ℕ → ℕ → Gadget → ℕ → Seed → Seed → ℕ → Coefficients → ℕ → List Coefficients
first_round_rows q n g b public seed id part i =
    switch_share q n (weight g i) (common_poly q n public id i) (ephemeral q n seed id) part (first_round_noise q n b seed id (2 * i))
    ∷ ring_sum q n (ring_product q n part (common_poly q n public id i)) (first_round_noise q n b seed id (2 * i + 1)) ∷ []

unfoldable pub honest_first_round : ℕ → ℕ → Gadget → ℕ → Seed → Seed → ℕ → Coefficients → List Coefficients
honest_first_round q n g b public seed id part = flat_map (first_round_rows q n g b public seed id part) (range_with_len 0 g.rows)

-- ---- the second round

-- the noises of its rows, from the start of the party's stream of the second round
abbrev pub second_round_noise : ℕ → ℕ → ℕ → Seed → ℕ → ℕ → Coefficients
second_round_noise q n b seed id r = small_poly q n b seed (instance_stream id) (n * r)

-- the two rows for row i of the gadget, from the sums h0 and h1 of the first round, whose instance is `first`:
-- k0 = s * h0 + e2, then k1 = (u - s) * h1 + e3
unfoldable pub second_round_rows : ℕ → ℕ → ℕ → Seed → ℕ → ℕ → List Coefficients → Coefficients → ℕ → List Coefficients
second_round_rows q n b seed first id sums part i =
    ring_sum q n (ring_product q n part (get_or sums (2 * i) [])) (second_round_noise q n b seed id (2 * i))
    ∷ ring_sum q n (ring_product q n (ring_difference q n (ephemeral q n seed first) part) (get_or sums (2 * i + 1) [])) (second_round_noise q n b seed id (2 * i + 1)) ∷ []

unfoldable pub honest_second_round : ℕ → ℕ → Gadget → ℕ → Seed → ℕ → ℕ → List Coefficients → Coefficients → List Coefficients
honest_second_round q n g b seed first id sums part = flat_map (second_round_rows q n b seed first id sums part) (range_with_len 0 g.rows)

-- ---- the key

-- row i from the sums of both rounds: (k0 + k1, h1)
abbrev pub relin_key_row : ℕ → ℕ → List Coefficients → List Coefficients → ℕ → KeyRow
relin_key_row q n first second i =
    record { b = ring_sum q n (get_or second (2 * i) []) (get_or second (2 * i + 1) []); a = get_or first (2 * i + 1) [] }

unfoldable pub relin_key : ℕ → ℕ → Gadget → List Coefficients → List Coefficients → List KeyRow
relin_key q n g first second = map (relin_key_row q n first second) (range_with_len 0 g.rows)
