-- Pairs of polynomials: ciphertexts and public keys, each part a list of residues.
use Rattle.std.specs.Prelude.{ℕ}
use Rattle.ring_spec.specs.Ring.{Coefficients, IsPoly}

-- a ciphertext (c0, c1)
pub record Cipher : Type 0 where
  pub c0 : Coefficients
  pub c1 : Coefficients

-- a public key (p0, p1)
pub record Key : Type 0 where
  pub p0 : Coefficients
  pub p1 : Coefficients

-- each fits the ring where both parts are polynomials of it
pub record CipherFits (q n : ℕ) (c : Cipher) : Type 0 where
  pub c0 : IsPoly q n c.c0
  pub c1 : IsPoly q n c.c1

pub record KeyFits (q n : ℕ) (key : Key) : Type 0 where
  pub p0 : IsPoly q n key.p0
  pub p1 : IsPoly q n key.p1
