-- What a share of a switch key's row is, and what the sums of shares are. After Mouchet et al. 2021.
use Rattle.std.specs.Prelude.{◌≡◌, ℕ, ◌<◌, List, [], map, get_or}
use Rattle.ring_spec.specs.Ring.{Coefficients, ring_sum, ring_negative, ring_multiple, ring_product}
use Rattle.ring_spec.specs.Aggregate.{ring_total}

-- a share of a row with the weight w of a switch key for z, for the common polynomial a: -a * s + w * z + e, with a
-- party's parts s and z of both secrets
unfoldable pub switch_share : ℕ → ℕ → ℕ → Coefficients → Coefficients → Coefficients → Coefficients → Coefficients
switch_share q n w a s z e = ring_sum q n (ring_sum q n (ring_negative q n (ring_product q n a s)) (ring_multiple q n w z)) e

-- row r of the share of party j
abbrev pub share_row : (ℕ → List Coefficients) → ℕ → ℕ → Coefficients
share_row shares r j = get_or (shares j) r []

-- each of the first rows of `sums` is the sum of that row of the shares of the parties
pub record AreSums (q n rows : ℕ) (shares : ℕ → List Coefficients) (parties : List ℕ) (sums : List Coefficients) : Type 0 where
  pub each : (r : ℕ) → r < rows → get_or sums r [] ≡ ring_total q n (map (share_row shares r) parties)
