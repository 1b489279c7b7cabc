-- The scheme modulo 97 with two coefficients and plaintexts modulo 4: D is 24, r is 1, and L is 11.
use Rattle.std.proofs.Common.{◌≡◌, [], ◌∷◌, refl, arith}
use Rattle.ring_spec.specs.Ring.{total, residue, residues, centre, wrapped, ring_sum, ring_difference, ring_negative, ring_multiple, ring_product}
use Rattle.ring_spec.specs.Pairs.{Cipher, Key}
use Rattle.bfv_spec.specs.Scheme.{delta, remainder, limit, cipher_sum, cipher_difference, cipher_negative, cipher_multiple, trivial, phase, decryption, Carries, IsPublicKey}

pub numbers : (delta 97 4 ≡ 24) × (remainder 97 4 ≡ 1) × (limit 97 4 ≡ 11)
numbers = (refl, refl, refl)

abbrev pub one : Cipher
one = record { c0 = 30 ∷ 60 ∷ []; c1 = 11 ∷ 2 ∷ [] }

abbrev pub other : Cipher
other = record { c0 = 5 ∷ 96 ∷ []; c1 = 96 ∷ 50 ∷ [] }

pub sums : cipher_sum 97 2 one other ≡ record { c0 = 35 ∷ 59 ∷ []; c1 = 10 ∷ 52 ∷ [] }
unfolding cipher_sum ring_sum residues residue
sums = refl

-- the first less the second
pub differences : cipher_difference 97 2 one other ≡ record { c0 = 25 ∷ 61 ∷ []; c1 = 12 ∷ 49 ∷ [] }
unfolding cipher_difference ring_difference residues residue
differences = refl

pub negatives : cipher_negative 97 2 one ≡ record { c0 = 67 ∷ 37 ∷ []; c1 = 86 ∷ 95 ∷ [] }
unfolding cipher_negative ring_negative residues residue
negatives = refl

-- both parts times 3 + X
pub multiples : cipher_multiple 97 2 one (3 ∷ 1 ∷ []) ≡ record { c0 = 30 ∷ 16 ∷ []; c1 = 31 ∷ 17 ∷ [] }
unfolding cipher_multiple ring_product residues residue wrapped total
multiples = refl

pub trivials : trivial 97 2 4 (3 ∷ 2 ∷ []) ≡ record { c0 = 72 ∷ 48 ∷ []; c1 = 0 ∷ 0 ∷ [] }
unfolding trivial ring_multiple residues residue
trivials = refl

-- ---- what a ciphertext carries under 1 - X

-- its phase is D times 3 + 2X, and 1 - 2X
abbrev pub carrying : Cipher
carrying = record { c0 = 60 ∷ 55 ∷ []; c1 = 11 ∷ 2 ∷ [] }

pub phase_is : phase 97 2 (1 ∷ 96 ∷ []) carrying ≡ 73 ∷ 46 ∷ []
unfolding phase ring_sum ring_product residues residue wrapped total
phase_is = refl

pub carries : Carries 97 2 4 (1 ∷ 96 ∷ []) 2 carrying (3 ∷ 2 ∷ [])
unfolding phase ring_sum ring_difference ring_product ring_multiple residues residue centre wrapped total
carries = record { noise = omega arith }

-- not within 1; not another plaintext within the limit; and not under the secret X
pub not_within_one : Carries 97 2 4 (1 ∷ 96 ∷ []) 1 carrying (3 ∷ 2 ∷ []) → ⊥
unfolding phase ring_sum ring_difference ring_product ring_multiple residues residue centre wrapped total
not_within_one c = absurd (omega (arith, c.noise))

pub no_other_plaintext : Carries 97 2 4 (1 ∷ 96 ∷ []) 11 carrying (3 ∷ 1 ∷ []) → ⊥
unfolding phase ring_sum ring_difference ring_product ring_multiple residues residue centre wrapped total
no_other_plaintext c = absurd (omega (arith, c.noise))

pub no_other_secret : Carries 97 2 4 (0 ∷ 1 ∷ []) 11 carrying (3 ∷ 2 ∷ []) → ⊥
unfolding phase ring_sum ring_difference ring_product ring_multiple residues residue centre wrapped total
no_other_secret c = absurd (omega (arith, c.noise))

-- a part that is too short has zeros behind it
pub nothing : Carries 97 2 4 (1 ∷ 96 ∷ []) 0 (record { c0 = []; c1 = [] }) (0 ∷ 0 ∷ [])
unfolding phase ring_sum ring_difference ring_product ring_multiple residues residue centre wrapped total
nothing = record { noise = omega arith }

-- the rounding of a phase: the nearest multiple of q/t, and modulo t past the last of them
pub rounds : decryption 97 4 (0 ∷ 12 ∷ 13 ∷ 36 ∷ 37 ∷ 84 ∷ 85 ∷ 96 ∷ []) ≡ 0 ∷ 0 ∷ 1 ∷ 1 ∷ 2 ∷ 3 ∷ 0 ∷ 0 ∷ []
unfolding decryption
rounds = refl

-- ---- public keys of 1 - X

-- p0 + p1 * s is -1 + 3X
abbrev pub key : Key
key = record { p0 = 83 ∷ 12 ∷ []; p1 = 11 ∷ 2 ∷ [] }

pub belongs : IsPublicKey 97 2 (1 ∷ 96 ∷ []) 3 key
unfolding ring_sum ring_product residues residue centre wrapped total
belongs = record { noise = omega arith }

pub not_within_two : IsPublicKey 97 2 (1 ∷ 96 ∷ []) 2 key → ⊥
unfolding ring_sum ring_product residues residue centre wrapped total
not_within_two k = absurd (omega (arith, k.noise))
