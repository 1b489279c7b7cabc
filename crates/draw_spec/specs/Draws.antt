-- The draws, each at a place of a stream. No draw is rejected, so each takes a fixed number of words.
use Rattle.std.specs.Prelude.{ℕ, ◌+◌, ◌*◌, ◌%◌, ◌^◌, ℤ, pos, ◌-ℤ◌}
use Rattle.rand_chacha.specs.ChaCha.{word_at, key_of}
use Rattle.draw_spec.specs.Places.{Seed, Stream, WordPlace}

-- word k, from 0, of a stream of the generator with 20 rounds; a stream repeats after 2^68 words
unfoldable pub word : Seed → Stream → WordPlace → ℕ
word seed stream k = word_at 10 (key_of seed) stream (k % 2 ^ 68)

-- four words, the lowest first, modulo q
unfoldable pub uniform : Seed → Stream → ℕ → WordPlace → ℕ
uniform seed stream q k =
    (word seed stream k + 2 ^ 32 * word seed stream (k + 1) + 2 ^ 64 * word seed stream (k + 2) + 2 ^ 96 * word seed stream (k + 3)) % q

-- a word modulo 2b + 1, less b: from -b to b
unfoldable pub small : Seed → Stream → ℕ → WordPlace → ℤ
small seed stream b k = pos (word seed stream k % (2 * b + 1)) -ℤ pos b

-- two words, the lower first, modulo 2d + 1, less d: from -d to d
unfoldable pub wide : Seed → Stream → ℕ → WordPlace → ℤ
wide seed stream d k =
    pos ((word seed stream k + 2 ^ 32 * word seed stream (k + 1)) % (2 * d + 1)) -ℤ pos d

-- a word modulo 3, less 1: -1, 0 or 1
unfoldable pub ternary : Seed → Stream → WordPlace → ℤ
ternary seed stream k = pos (word seed stream k % 3) -ℤ pos 1

-- ---- a polynomial is a draw for each coefficient from place k on, coefficient 0 first

-- coefficient i of a uniform polynomial, which takes four words a coefficient
abbrev pub uniform_from : Seed → Stream → ℕ → WordPlace → ℕ → ℕ
uniform_from seed stream q k i = uniform seed stream q (k + 4 * i)

-- coefficient i of a polynomial of small draws
abbrev pub small_from : Seed → Stream → ℕ → WordPlace → ℕ → ℤ
small_from seed stream b k i = small seed stream b (k + i)

-- coefficient i of a polynomial of wide draws, which takes two words a coefficient
abbrev pub wide_from : Seed → Stream → ℕ → WordPlace → ℕ → ℤ
wide_from seed stream d k i = wide seed stream d (k + 2 * i)

-- coefficient i of a polynomial of ternary draws
abbrev pub ternary_from : Seed → Stream → WordPlace → ℕ → ℤ
ternary_from seed stream k i = ternary seed stream (k + i)
