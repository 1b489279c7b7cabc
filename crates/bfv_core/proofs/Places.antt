-- The places of an encryption's three polynomials along the tape.
use Rattle.std.proofs.Common.{◌≡◌, ℕ, ◌+◌, ◌*◌, ◌%◌, ◌^◌, List, ap, sym, refl, ◌∙◌, arith}
use Rattle.draw_spec.specs.Draws.{small, small_from}
use Rattle.ring_spec.specs.Pairs.{Cipher, Key}
use Rattle.ring_laws.proofs.Residues.{residues_equal}
use Rattle.bfv_spec.specs.Scheme.{encryption}
use Rattle.bfv_spec.specs.Drawn.{small_poly, ternary_poly, drawn_encryption}
use Rattle.word_tape.specs.Standing.{Standing, moved}
use Rattle.ring_draws.proofs.Steps.{small-wraps}

-- a small polynomial from a place that is counted modulo 2^68
small-poly-at : (q n b : ℕ) (seed : List ℕ) (stream j k : ℕ) → j ≡ k % 2 ^ 68 → small_poly q n b seed stream j ≡ small_poly q n b seed stream k
unfolding small_poly
small-poly-at q n b seed stream j k e =
    residues_equal q n (small_from seed stream b j) (small_from seed stream b k) (λ i l.
    let same : (j + i) % 2 ^ 68 ≡ (k + i) % 2 ^ 68 = omega arith in
    sym (small-wraps seed stream b (j + i)) ∙ ap (small seed stream b) same ∙ small-wraps seed stream b (k + i))

-- u is drawn at s, e0 behind it and e1 behind both
pub drawn-so : (q n t b : ℕ) (key : Key) (m u e0 e1 : List ℕ) (s s1 s2 : Standing) → s1 ≡ moved s n → s2 ≡ moved s1 n →
    u ≡ ternary_poly q n s.seed s.stream s.next → e0 ≡ small_poly q n b s1.seed s1.stream s1.next → e1 ≡ small_poly q n b s2.seed s2.stream s2.next →
    encryption q n t key m u e0 e1 ≡ drawn_encryption q n t b key m s.seed s.stream s.next
unfolding drawn_encryption
drawn-so q n t b key m u e0 e1 s s1 s2 place place2 is is0 is1 =
    let first : e0 ≡ small_poly q n b s.seed s.stream (s.next + n) =
    is0 ∙ ap (λ (z : Standing). small_poly q n b z.seed z.stream z.next) place ∙ small-poly-at q n b s.seed s.stream ((s.next + n) % 2 ^ 68) (s.next + n) refl in
    let second : e1 ≡ small_poly q n b s.seed s.stream (s.next + 2 * n) =
    is1 ∙ ap (λ (z : Standing). small_poly q n b z.seed z.stream z.next) (place2 ∙ ap (λ (z : Standing). moved z n) place)
    ∙ small-poly-at q n b s.seed s.stream (((s.next + n) % 2 ^ 68 + n) % 2 ^ 68) (s.next + 2 * n) (omega arith) in
    rw (is, first, second) refl

-- the same of a tape that begins where another stands
pub drawn-from : (q n t b : ℕ) (key : Key) (m u e0 e1 : List ℕ) (s0 s s1 s2 : Standing) (c : Cipher) → s ≡ s0 → s1 ≡ moved s n → s2 ≡ moved s1 n →
    u ≡ ternary_poly q n s.seed s.stream s.next → e0 ≡ small_poly q n b s1.seed s1.stream s1.next → e1 ≡ small_poly q n b s2.seed s2.stream s2.next →
    c ≡ encryption q n t key m u e0 e1 → c ≡ drawn_encryption q n t b key m s0.seed s0.stream s0.next
drawn-from q n t b key m u e0 e1 s0 s s1 s2 c begins place place2 is is0 is1 e =
    e ∙ drawn-so q n t b key m u e0 e1 s s1 s2 place place2 is is0 is1 ∙ ap (λ (z : Standing). drawn_encryption q n t b key m z.seed z.stream z.next) begins
