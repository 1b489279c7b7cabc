-- Worked instances: what the definitions and the bounds give at small numbers, by computation.
use Rattle.std.proofs.Common.{◌≡◌, [], ◌∷◌, refl}
use Rattle.ring_spec.specs.Ring.{total, residue, residues, wrapped, ring_product, ring_sum, ring_difference, ring_negative, ring_multiple}
use Rattle.ring_spec.specs.Pairs.{Cipher, Key}
use Rattle.bfv_spec.specs.Scheme.{encryption, phase, decryption, pk_share, delta, limit}

-- with q = 1009, n = 2 and t = 4: the key of s = 1 - X for the common polynomial 5 + 7X, with the noise 1
key : Key
key = record { p0 = pk_share 1009 2 (5 ∷ 7 ∷ []) (1 ∷ 1008 ∷ []) (1 ∷ 0 ∷ []); p1 = 5 ∷ 7 ∷ [] }

-- the encryption of 3 + 2X with u = 1 - X, e0 = X and e1 = -1
cipher : Cipher
cipher = encryption 1009 2 4 key (3 ∷ 2 ∷ []) (1 ∷ 1008 ∷ []) (0 ∷ 1 ∷ []) (1008 ∷ 0 ∷ [])

key_is : key.p0 ≡ 998 ∷ 1007 ∷ []
unfolding key pk_share ring_sum ring_negative ring_product residues residue wrapped total
key_is = refl

cipher_is : cipher ≡ record { c0 = 743 ∷ 514 ∷ []; c1 = 11 ∷ 2 ∷ [] }
unfolding cipher key encryption pk_share ring_sum ring_negative ring_product ring_multiple residues residue wrapped total
cipher_is = refl

-- it is decrypted to 3 + 2X, and its noise is X
decrypted : decryption 1009 4 (phase 1009 2 (1 ∷ 1008 ∷ []) cipher) ≡ 3 ∷ 2 ∷ []
unfolding cipher key decryption phase encryption pk_share ring_sum ring_negative ring_product ring_multiple residues residue wrapped total
decrypted = refl

noise_is : ring_difference 1009 2 (phase 1009 2 (1 ∷ 1008 ∷ []) cipher) (ring_multiple 1009 2 (delta 1009 4) (3 ∷ 2 ∷ [])) ≡ 0 ∷ 1 ∷ []
unfolding cipher key phase encryption pk_share ring_sum ring_difference ring_negative ring_product ring_multiple residues residue wrapped total
noise_is = refl

-- the limit there, and at a modulus of 55 bits with t = 16
small_limit : limit 1009 4 ≡ 125
small_limit = refl

large_limit : limit 31525197391593473 16 ≡ 985162418487295
large_limit = refl
