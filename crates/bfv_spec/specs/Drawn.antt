-- Polynomials of R_q whose coefficients are draws, from place k of a stream on.
use Rattle.std.specs.Prelude.{ℕ, ◌+◌, ◌*◌, map}
use Rattle.std.specs.List.{range_with_len}
use Rattle.ring_spec.specs.Ring.{Coefficients, residues}
use Rattle.ring_spec.specs.Pairs.{Cipher, Key}
use Rattle.draw_spec.specs.Places.{Seed, Stream, WordPlace}
use Rattle.draw_spec.specs.Draws.{uniform_from, small_from, wide_from, ternary_from}
use Rattle.bfv_spec.specs.Scheme.{encryption}

unfoldable pub uniform_poly : ℕ → ℕ → Seed → Stream → WordPlace → Coefficients
uniform_poly q n seed stream k = map (uniform_from seed stream q k) (range_with_len 0 n)

unfoldable pub small_poly : ℕ → ℕ → ℕ → Seed → Stream → WordPlace → Coefficients
small_poly q n b seed stream k = residues q n (small_from seed stream b k)

unfoldable pub wide_poly : ℕ → ℕ → ℕ → Seed → Stream → WordPlace → Coefficients
wide_poly q n d seed stream k = residues q n (wide_from seed stream d k)

unfoldable pub ternary_poly : ℕ → ℕ → Seed → Stream → WordPlace → Coefficients
ternary_poly q n seed stream k = residues q n (ternary_from seed stream k)

-- an encryption with the words of a stream from place k on: u ternary, then e0, then e1, both small
-- within b
unfoldable pub drawn_encryption : ℕ → ℕ → ℕ → ℕ → Key → Coefficients → Seed → Stream → WordPlace → Cipher
drawn_encryption q n t b key m seed stream k =
    encryption q n t key m (ternary_poly q n seed stream k) (small_poly q n b seed stream (k + n))
    (small_poly q n b seed stream (k + 2 * n))
