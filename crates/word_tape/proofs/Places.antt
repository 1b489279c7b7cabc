-- Words at places that are counted modulo 2^68.
use Rattle.std.proofs.Common.{◌≡◌, ℕ, ◌+◌, ◌*◌, ◌%◌, ◌^◌, ◌<◌, List, ap, arith, refl, sym, ◌∙◌}
use Rattle.std.proofs.Math.Nat.{mod-mod, mod-eq_of_lt}
use Rattle.rand_chacha.specs.ChaCha.{word_at, key_of}
use Rattle.draw_spec.specs.Draws.{word, uniform}
use Rattle.word_tape.specs.Standing.{Standing, moved}

-- the word where a generator stands
pub word_at_place : (seed key : List ℕ) (stream k : ℕ) → key ≡ key_of seed → k < 2 ^ 68 → word_at 10 key stream k ≡ word seed stream k
unfolding word
word_at_place seed key stream k e h = rw (e, mod-eq_of_lt {n = k} {m = 2 ^ 68} h) refl

-- a place may be counted modulo 2^68 or not
pub word-wraps : (seed : List ℕ) (stream k : ℕ) → word seed stream (k % 2 ^ 68) ≡ word seed stream k
unfolding word
word-wraps seed stream k = rw (mod-mod k (2 ^ 68)) refl

-- the word m places behind one that was counted so
pub word-further : (seed : List ℕ) (stream k m : ℕ) → word seed stream ((k + m) % 2 ^ 68) ≡ word seed stream (k + m)
word-further seed stream k m = word-wraps seed stream (k + m)

-- one word further on, and then another
pub further : (k m : ℕ) → (k % 2 ^ 68 + m) % 2 ^ 68 ≡ (k + m) % 2 ^ 68
further k m = omega arith

-- for the tactics
pub ruleset word_wraps = (word-wraps, word-further, further)

-- the words behind the next two
later : (seed : List ℕ) (stream k : ℕ) → word seed stream ((k + 2) % 2 ^ 68) + 2 ^ 32 * word seed stream ((k + 2) % 2 ^ 68 + 1) ≡ word seed stream (k + 2) + 2 ^ 32 * word seed stream (k + 3)
later seed stream k =
    let l = (k + 2) % 2 ^ 68 in
    let on : (l + 1) % 2 ^ 68 ≡ (k + 3) % 2 ^ 68 = omega arith in
    let third = word-wraps seed stream (k + 2) in
    let fourth : word seed stream (l + 1) ≡ word seed stream (k + 3) =
    sym (word-wraps seed stream (l + 1)) ∙ ap (word seed stream) on ∙ word-wraps seed stream (k + 3) in
    omega arith

-- two pairs of words, the second from two words further on, are the four of a uniform draw
pub uniform-by-pairs : (s s' : Standing) (q low high : ℕ) → s' ≡ moved s 2 → low ≡ word s.seed s.stream s.next + 2 ^ 32 * word s.seed s.stream (s.next + 1) → high ≡ word s'.seed s'.stream s'.next + 2 ^ 32 * word s'.seed s'.stream (s'.next + 1) → (low + 2 ^ 64 * high) % q ≡ uniform s.seed s.stream q s.next
unfolding uniform
uniform-by-pairs s s' q low high place e f =
    let second = f ∙ ap (λ (z : Standing). word z.seed z.stream z.next + 2 ^ 32 * word z.seed z.stream (z.next + 1)) place ∙ later s.seed s.stream s.next in
    ap (λ z. z % q) (omega arith)
