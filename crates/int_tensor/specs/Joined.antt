-- Whole numbers by their residues modulo both primes.
use Rattle.std.specs.Prelude.{◌≡◌, ℕ, ◌*◌, ◌<◌, List, length, get_or, ℤ, unsigned_abs}
use Rattle.ring_spec.specs.Ring.{residue, signed}
use Rattle.int_tensor.specs.Moduli.{first_modulus, second_modulus, both_moduli}

-- z has the residues a and b, and is below half the product of the primes in absolute value
pub record IsJoined (a b : ℕ) (z : ℤ) : Type 0 where
  pub first : residue first_modulus z ≡ a
  pub second : residue second_modulus z ≡ b
  pub small : 2 * unsigned_abs z < both_moduli

-- the first n entries of a list, which has no others, have the residues that two lists say
pub record AreJoined (n : ℕ) (f g : List ℕ) (zs : List ℤ) : Type 0 where
  pub count : length zs ≡ n
  pub each : (k : ℕ) → k < n → IsJoined (get_or f k 0) (get_or g k 0) (signed zs k)
