-- What several parties, the members of a set, add up: their parts of a secret, and their shares.
use Rattle.std.specs.Prelude.{ℕ, List, [], ◌∷◌}
use Rattle.ring_spec.specs.Ring.{Coefficients, ring_sum, ring_product}
use Rattle.bfv_spec.specs.Scheme.{pk_share}

-- a member's part of the secret, and the noise that it adds to its share
pub record Member : Type 0 where
  pub part : Coefficients
  pub noise : Coefficients

-- the parts of a list of members, and their noises
abbrev pub parts : List Member → List Coefficients
parts [] = []
parts (p ∷ ps) = p.part ∷ parts ps

abbrev pub noises : List Member → List Coefficients
noises [] = []
noises (p ∷ ps) = p.noise ∷ noises ps

-- their shares of the public key for the common polynomial a
abbrev pub key_shares : ℕ → ℕ → Coefficients → List Member → List Coefficients
key_shares q n a [] = []
key_shares q n a (p ∷ ps) = pk_share q n a p.part p.noise ∷ key_shares q n a ps

-- their shares of a decryption of a ciphertext with the second part c1: c1 * s + f for each
abbrev pub decryption_shares : ℕ → ℕ → Coefficients → List Member → List Coefficients
decryption_shares q n c1 [] = []
decryption_shares q n c1 (p ∷ ps) = ring_sum q n (ring_product q n c1 p.part) p.noise ∷ decryption_shares q n c1 ps
