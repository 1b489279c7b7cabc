-- The tensor of two ciphertexts, and relinearisation. After Fan and Vercauteren 2012, section 4.
use Rattle.std.specs.Prelude.{ℕ, ◌≤◌, List, ℤ}
use Rattle.ring_spec.specs.Ring.{Coefficients, wrapped, plus, residues, IsPoly, ring_sum, ring_difference, ring_multiple, ring_product, size, centred}
use Rattle.ring_spec.specs.Pairs.{Cipher}
use Rattle.bfv_spec.specs.Scheme.{delta, cipher_sum}
use Rattle.gadget_spec.specs.Digits.{Gadget}
use Rattle.gadget_spec.specs.Switching.{KeyRow, key_switch}
use Rattle.tensor_spec.specs.Rounding.{nearest}

-- three parts, under the powers 1, s and s^2 of the secret
pub record Triple : Type 0 where
  pub o0 : Coefficients
  pub o1 : Coefficients
  pub o2 : Coefficients

-- the coefficients of t/q times a polynomial, rounded, and the residues of n of them
abbrev pub scaled : ℕ → ℕ → (ℕ → ℤ) → ℕ → ℤ
scaled q t a i = nearest t q (a i)

unfoldable pub rescaled : ℕ → ℕ → ℕ → (ℕ → ℤ) → Coefficients
rescaled q n t a = residues q n (scaled q t a)

-- the tensor of two ciphertexts: c0 * d0, c0 * d1 + c1 * d0 and c1 * d1 over the whole numbers, by the centres of their
-- coefficients, rescaled
unfoldable pub tensor : ℕ → ℕ → ℕ → Cipher → Cipher → Triple
tensor q n t c d = record {
  o0 = rescaled q n t (wrapped n (centred q c.c0) (centred q d.c0));
  o1 = rescaled q n t (plus (wrapped n (centred q c.c0) (centred q d.c1)) (wrapped n (centred q c.c1) (centred q d.c0)));
  o2 = rescaled q n t (wrapped n (centred q c.c1) (centred q d.c1));
}

-- a triple fits the ring where its parts are polynomials of it
pub record IsTriple (q n : ℕ) (x : Triple) : Type 0 where
  pub o0 : IsPoly q n x.o0
  pub o1 : IsPoly q n x.o1
  pub o2 : IsPoly q n x.o2

-- the phase of a triple under the secret s: o0 + o1 * s + o2 * s^2
unfoldable pub triple_phase : ℕ → ℕ → Coefficients → Triple → Coefficients
triple_phase q n s x = ring_sum q n (ring_sum q n x.o0 (ring_product q n x.o1 s)) (ring_product q n x.o2 (ring_product q n s s))

-- a triple carries m within v under s where its phase less D * m has size at most v
pub record TripleCarries (q n t : ℕ) (s : Coefficients) (v : ℕ) (x : Triple) (m : Coefficients) : Type 0 where
  pub noise : size q (ring_difference q n (triple_phase q n s x) (ring_multiple q n (delta q t) m)) ≤ v

-- a triple as a ciphertext, by a key for the square of the secret: (o0, o1), and o2 switched
unfoldable pub relinearisation : ℕ → ℕ → Gadget → List KeyRow → Triple → Cipher
relinearisation q n g key x = cipher_sum q n (record { c0 = x.o0; c1 = x.o1 }) (key_switch q n g key x.o2)
