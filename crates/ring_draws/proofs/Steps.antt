-- A draw at a place that is counted modulo 2^68 is the one at that place.
use Rattle.std.proofs.Common.{◌≡◌, ℕ, ◌+◌, ◌%◌, ◌^◌, ◌<◌, ◌≤◌, List, ℤ, ap, sym, refl, ◌∙◌, arith}
use Rattle.std.specs.Prelude.{unsigned_abs}
use Rattle.ring_spec.specs.Ring.{residue}
use Rattle.draw_spec.specs.Draws.{word, uniform, small, wide, ternary, uniform_from, small_from, wide_from, ternary_from}
use Rattle.word_tape.specs.Standing.{Standing, moved}
use Rattle.word_tape.proofs.Places.{word-wraps}

-- the word m places behind one that is counted so
word-behind : (seed : List ℕ) (stream k m : ℕ) → word seed stream (k % 2 ^ 68 + m) ≡ word seed stream (k + m)
word-behind seed stream k m =
    let same : (k % 2 ^ 68 + m) % 2 ^ 68 ≡ (k + m) % 2 ^ 68 = omega arith in
    sym (word-wraps seed stream (k % 2 ^ 68 + m)) ∙ ap (word seed stream) same ∙ word-wraps seed stream (k + m)

pub uniform-wraps : (seed : List ℕ) (stream q k : ℕ) → uniform seed stream q (k % 2 ^ 68) ≡ uniform seed stream q k
unfolding uniform
uniform-wraps seed stream q k =
    rw (word-wraps seed stream k, word-behind seed stream k 1, word-behind seed stream k 2, word-behind seed stream k 3) refl

pub small-wraps : (seed : List ℕ) (stream b k : ℕ) → small seed stream b (k % 2 ^ 68) ≡ small seed stream b k
unfolding small
small-wraps seed stream b k = rw (word-wraps seed stream k) refl

pub wide-wraps : (seed : List ℕ) (stream d k : ℕ) → wide seed stream d (k % 2 ^ 68) ≡ wide seed stream d k
unfolding wide
wide-wraps seed stream d k = rw (word-wraps seed stream k, word-behind seed stream k 1) refl

pub ternary-wraps : (seed : List ℕ) (stream k : ℕ) → ternary seed stream (k % 2 ^ 68) ≡ ternary seed stream k
unfolding ternary
ternary-wraps seed stream k = rw (word-wraps seed stream k) refl

-- ---- a tape that was at s and is now at now, i words further on

pub record Stands (s now : Standing) (i : ℕ) : Type 0 where
  pub seed : now.seed ≡ s.seed
  pub stream : now.stream ≡ s.stream
  pub place : now.next % 2 ^ 68 ≡ (s.next + i) % 2 ^ 68
  pub exact : 1 ≤ i → now ≡ moved s i

pub Stands-start : (s : Standing) → Stands s s 0
Stands-start s = record { seed = refl; stream = refl; place = omega arith; exact = λ h. absurd (omega arith) }

-- m words further
pub Stands-next : (s now next : Standing) (i j m : ℕ) → Stands s now i → next ≡ moved now m → j ≡ i + m → Stands s next j
Stands-next s now next i j m h e f =
    let at : (now.next + m) % 2 ^ 68 ≡ (s.next + j) % 2 ^ 68 = omega (arith, h.place) in
    record {
      seed = ap (λ (z : Standing). z.seed) e ∙ h.seed;
      stream = ap (λ (z : Standing). z.stream) e ∙ h.stream;
      place = ap (λ (z : Standing). z.next % 2 ^ 68) e ∙ omega (arith, at);
      exact = λ _. e ∙ rw (h.seed, h.stream, at) refl;
    }

pub uniform-here : (s now : Standing) (i q : ℕ) → Stands s now i → uniform now.seed now.stream q now.next ≡ uniform s.seed s.stream q (s.next + i)
uniform-here s now i q h =
    rw (h.seed, h.stream) (sym (uniform-wraps s.seed s.stream q now.next) ∙ ap (uniform s.seed s.stream q) h.place ∙ uniform-wraps s.seed s.stream q (s.next + i))

pub small-here : (s now : Standing) (i b : ℕ) → Stands s now i → small now.seed now.stream b now.next ≡ small s.seed s.stream b (s.next + i)
small-here s now i b h =
    rw (h.seed, h.stream) (sym (small-wraps s.seed s.stream b now.next) ∙ ap (small s.seed s.stream b) h.place ∙ small-wraps s.seed s.stream b (s.next + i))

pub wide-here : (s now : Standing) (i d : ℕ) → Stands s now i → wide now.seed now.stream d now.next ≡ wide s.seed s.stream d (s.next + i)
wide-here s now i d h =
    rw (h.seed, h.stream) (sym (wide-wraps s.seed s.stream d now.next) ∙ ap (wide s.seed s.stream d) h.place ∙ wide-wraps s.seed s.stream d (s.next + i))

pub ternary-here : (s now : Standing) (i : ℕ) → Stands s now i → ternary now.seed now.stream now.next ≡ ternary s.seed s.stream (s.next + i)
ternary-here s now i h =
    rw (h.seed, h.stream) (sym (ternary-wraps s.seed s.stream now.next) ∙ ap (ternary s.seed s.stream) h.place ∙ ternary-wraps s.seed s.stream (s.next + i))

-- ---- what stands at entry k of a polynomial that is drawn from s on

abbrev pub uniform_entry : ℕ → Standing → ℕ → ℕ
uniform_entry q s k = uniform_from s.seed s.stream q s.next k

abbrev pub small_entry : ℕ → ℕ → Standing → ℕ → ℕ
small_entry q b s k = residue q (small_from s.seed s.stream b s.next k)

abbrev pub wide_entry : ℕ → ℕ → Standing → ℕ → ℕ
wide_entry q d s k = residue q (wide_from s.seed s.stream d s.next k)

abbrev pub ternary_entry : ℕ → Standing → ℕ → ℕ
ternary_entry q s k = residue q (ternary_from s.seed s.stream s.next k)

-- ---- a draw within b is within a greater q

pub drawn-within : (q b : ℕ) (x drawn : ℤ) → x ≡ drawn → unsigned_abs drawn ≤ b → b < q → unsigned_abs x < q
drawn-within q b x drawn e h l = rw e (omega arith)
