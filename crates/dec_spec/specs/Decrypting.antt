-- The share of a decryption, with the words of an instance's stream.
use Rattle.std.specs.Prelude.{ℕ}
use Rattle.ring_spec.specs.Ring.{Coefficients, ring_sum, ring_product}
use Rattle.draw_spec.specs.Places.{Seed}
use Rattle.draw_spec.specs.Streams.{instance_stream}
use Rattle.bfv_spec.specs.Drawn.{wide_poly}

-- the flood of the party with this seed: wide draws within d from the start of its stream of the instance
abbrev pub flood : ℕ → ℕ → ℕ → Seed → ℕ → Coefficients
flood q n d seed id = wide_poly q n d seed (instance_stream id) 0

-- the honest share of the party with this seed and this part of the secret: c1 * part + f
unfoldable pub honest_dec : ℕ → ℕ → ℕ → Seed → ℕ → Coefficients → Coefficients → Coefficients
honest_dec q n d seed id c1 part = ring_sum q n (ring_product q n c1 part) (flood q n d seed id)
