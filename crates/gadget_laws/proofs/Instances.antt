-- Worked instances: digits, switches and rotations at small numbers, by computation.
use Rattle.std.proofs.Common.{◌≡◌, ◌<◌, ℕ, zero, suc, List, [], ◌∷◌, map, true, false, refl, arith}
use Rattle.std.specs.Prelude.{ℤ, pos, negsuc, ◌≤◌, All}
use Rattle.std.specs.List.{range_with_len}
use Rattle.ring_spec.specs.Ring.{total, residue, residues, centre, wrapped, turned, IsPoly, size, ring_sum, ring_difference, ring_multiple, ring_product, ring_turned}
use Rattle.ring_spec.specs.Pairs.{Cipher, CipherFits}
use Rattle.bfv_spec.specs.Scheme.{cipher_sum}
use Rattle.gadget_laws.specs.Shifted.{halves}
use Rattle.gadget_laws.specs.Switching.{switch_noise}
use Rattle.gadget_spec.specs.Digits.{Gadget, Serves, weight, widest, base_digit, lowest, divided, rest, balanced_digit, digit, digit_poly, digit_polys}
use Rattle.gadget_spec.specs.Switching.{KeyRow, IsSwitchKey, row_at, row_phase, combined, key_switch, rotation}

-- ---- digits of eight bits, of residues modulo 31525197391593473, in seven rows

abbrev plain : Gadget
plain = record { bits = 8; rows = 7; balanced = false }

abbrev balanced : Gadget
balanced = record { bits = 8; rows = 7; balanced = true }

abbrev digits : Gadget → ℕ → List ℤ
digits g x = map (λ i. digit 31525197391593473 g i x) (range_with_len 0 7)

serves : Serves 31525197391593473 plain
serves = record { bits = omega arith; rows = omega arith }

-- six rows are too few
not_six : Serves 31525197391593473 (record { bits = 8; rows = 6; balanced = false }) → ⊥
not_six s = absurd (omega (arith, s.rows))

weights : map (weight plain) (range_with_len 0 7) ≡ 1 ∷ 256 ∷ 65536 ∷ 16777216 ∷ 4294967296 ∷ 1099511627776 ∷ 281474976710656 ∷ []
unfolding weight
weights = refl

widest_digits : (widest plain ≡ 255) × (widest balanced ≡ 128)
unfolding widest
widest_digits = (refl, refl)

of_300 : digits plain 300 ≡ pos 44 ∷ pos 1 ∷ pos 0 ∷ pos 0 ∷ pos 0 ∷ pos 0 ∷ pos 0 ∷ []
unfolding digit base_digit
of_300 = refl

of_127 : digits balanced 127 ≡ pos 127 ∷ pos 0 ∷ pos 0 ∷ pos 0 ∷ pos 0 ∷ pos 0 ∷ pos 0 ∷ []
unfolding digit balanced_digit rest lowest divided centre residue
of_127 = refl

of_128 : digits balanced 128 ≡ negsuc 127 ∷ pos 1 ∷ pos 0 ∷ pos 0 ∷ pos 0 ∷ pos 0 ∷ pos 0 ∷ []
unfolding digit balanced_digit rest lowest divided centre residue
of_128 = refl

of_the_last : digits balanced 31525197391593472 ≡ negsuc 0 ∷ pos 0 ∷ pos 0 ∷ pos 0 ∷ pos 0 ∷ pos 0 ∷ pos 0 ∷ []
unfolding digit balanced_digit rest lowest divided centre residue
of_the_last = refl

-- the residues around half of q, whose last digits are not reduced
below_half : digits balanced 15762598695796736 ≡ pos 0 ∷ pos 0 ∷ pos 0 ∷ pos 0 ∷ pos 0 ∷ pos 0 ∷ pos 56 ∷ []
unfolding digit balanced_digit rest lowest divided centre residue
below_half = refl

above_half : digits balanced 15762598695796737 ≡ pos 0 ∷ pos 0 ∷ pos 0 ∷ pos 0 ∷ pos 0 ∷ pos 0 ∷ negsuc 55 ∷ []
unfolding digit balanced_digit rest lowest divided centre residue
above_half = refl

-- a half in each of seven digits of eight bits
all_halves : halves 8 7 ≡ 36170086419038336
unfolding halves
all_halves = refl

-- ---- modulo 97 with two coefficients and three rows of three bits; the secret is 1 - X

abbrev three : Gadget
three = record { bits = 3; rows = 3; balanced = false }

abbrev three_balanced : Gadget
three_balanced = record { bits = 3; rows = 3; balanced = true }

-- with X^3 for X the secret becomes 1 + X; the rows are a key for it with the noises 1, -1 + X and -X
abbrev key : List KeyRow
key = record { b = 86 ∷ 10 ∷ []; a = 11 ∷ 2 ∷ [] } ∷ record { b = 66 ∷ 51 ∷ []; a = 40 ∷ 95 ∷ [] } ∷ record { b = 94 ∷ 10 ∷ []; a = 7 ∷ 60 ∷ [] } ∷ []

abbrev secret : List ℕ
secret = 1 ∷ 96 ∷ []

secret_turned : ring_turned 97 2 3 secret ≡ 1 ∷ 1 ∷ []
unfolding ring_turned residues residue turned total
secret_turned = refl

is_key : IsSwitchKey 97 2 three secret (1 ∷ 1 ∷ []) 1 key
unfolding weight row_phase ring_sum ring_difference ring_multiple ring_product residues residue centre wrapped total
is_key = record { rows = refl; noise = each }
  where
    each : (i : ℕ) → i < 3 → size 97 (ring_difference 97 2 (row_phase 97 2 secret (row_at key i)) (ring_multiple 97 2 (weight three i) (1 ∷ 1 ∷ []))) ≤ 1
    each zero l = omega arith
    each (suc zero) l = omega arith
    each (suc (suc zero)) l = omega arith
    each (suc (suc (suc i))) l = absurd (omega (arith, l))

-- it is none within 0, and none for the secret itself within 1
not_exact : IsSwitchKey 97 2 three secret (1 ∷ 1 ∷ []) 0 key → ⊥
unfolding weight row_phase ring_sum ring_difference ring_multiple ring_product residues residue centre wrapped total
not_exact k = absurd (omega (arith, k.noise 0 (omega arith)))

not_for_another : IsSwitchKey 97 2 three secret secret 1 key → ⊥
unfolding weight row_phase ring_sum ring_difference ring_multiple ring_product residues residue centre wrapped total
not_for_another k = absurd (omega (arith, k.noise 0 (omega arith)))

-- nor are its first two rows alone
not_without_a_row : IsSwitchKey 97 2 three secret (1 ∷ 1 ∷ []) 1 (record { b = 86 ∷ 10 ∷ []; a = 11 ∷ 2 ∷ [] } ∷ record { b = 66 ∷ 51 ∷ []; a = 40 ∷ 95 ∷ [] } ∷ []) → ⊥
not_without_a_row k = absurd (omega (arith, k.rows))

-- the digits of 85 and 46, and of -12 and 46
polys : digit_polys 97 2 three (85 ∷ 46 ∷ []) ≡ (5 ∷ 6 ∷ []) ∷ (2 ∷ 5 ∷ []) ∷ (1 ∷ 0 ∷ []) ∷ []
unfolding digit_polys digit_poly digit base_digit residues residue
polys = refl

polys_balanced : digit_polys 97 2 three_balanced (85 ∷ 46 ∷ []) ≡ (93 ∷ 95 ∷ []) ∷ (96 ∷ 95 ∷ []) ∷ (0 ∷ 1 ∷ []) ∷ []
unfolding digit_polys digit_poly digit balanced_digit rest lowest divided centre residues residue
polys_balanced = refl

switched : key_switch 97 2 three key (85 ∷ 46 ∷ []) ≡ record { c0 = 50 ∷ 38 ∷ []; c1 = 43 ∷ 41 ∷ [] }
unfolding key_switch combined digit_polys digit_poly digit base_digit cipher_sum ring_sum ring_product residues residue wrapped total
switched = refl

switched_balanced : key_switch 97 2 three_balanced key (85 ∷ 46 ∷ []) ≡ record { c0 = 90 ∷ 87 ∷ []; c1 = 50 ∷ 93 ∷ [] }
unfolding key_switch combined digit_polys digit_poly digit balanced_digit rest lowest divided centre cipher_sum ring_sum ring_product residues residue wrapped total
switched_balanced = refl

-- rotations by 3, of a ciphertext whose phase is 73 + 46 X
abbrev cipher : Cipher
cipher = record { c0 = 60 ∷ 55 ∷ []; c1 = 11 ∷ 2 ∷ [] }

rotated : rotation 97 2 three key 3 cipher ≡ record { c0 = 54 ∷ 47 ∷ []; c1 = 5 ∷ 14 ∷ [] }
unfolding rotation key_switch combined digit_polys digit_poly digit base_digit cipher_sum ring_sum ring_product ring_turned residues residue turned wrapped total
rotated = refl

rotated_balanced : rotation 97 2 three_balanced key 3 cipher ≡ record { c0 = 16 ∷ 48 ∷ []; c1 = 77 ∷ 79 ∷ [] }
unfolding rotation key_switch combined digit_polys digit_poly digit balanced_digit rest lowest divided centre cipher_sum ring_sum ring_product ring_turned residues residue turned wrapped total
rotated_balanced = refl

-- it is of the ring modulo 97, and not modulo 60
both_below : (x y : ℕ) → x < 97 → y < 97 → IsPoly 97 2 (x ∷ y ∷ [])
both_below x y h l = record { entries = refl; below = each }
  where
    each : All (λ z. z < 97) (x ∷ y ∷ [])
    each zero d p = h
    each (suc zero) d p = l
    each (suc (suc i)) d p = absurd (omega (arith, p))

fits : CipherFits 97 2 cipher
fits = record { c0 = both_below 60 55 (omega arith) (omega arith); c1 = both_below 11 2 (omega arith) (omega arith) }

too_large : CipherFits 60 2 cipher → ⊥
too_large c = let first : 60 < 60 = c.c0.below 0 0 (omega arith) in absurd (omega (arith, first))

-- ---- what a switch adds, in numbers, with n = 8 and rows whose noise is within 2

noises : (switch_noise 8 plain 2 ≡ 28560) × (switch_noise 8 balanced 2 ≡ 14336)
unfolding widest
noises = (refl, refl)
