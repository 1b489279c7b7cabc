-- Worked instances: roundings, tensors and relinearisation at small numbers, by computation.
use Rattle.std.proofs.Common.{◌≡◌, ◌+◌, ◌<◌, ℕ, zero, suc, List, [], ◌∷◌, true, false, refl, arith}
use Rattle.std.specs.Prelude.{pos, negsuc, All}
use Rattle.ring_spec.specs.Ring.{total, residue, residues, centre, wrapped, IsPoly, ring_sum, ring_difference, ring_multiple, ring_product}
use Rattle.ring_spec.specs.Pairs.{Cipher}
use Rattle.bfv_spec.specs.Scheme.{cipher_sum}
use Rattle.gadget_laws.specs.Switching.{switch_noise}
use Rattle.tensor_laws.specs.Products.{crossed, rounding, tensor_noise}
use Rattle.gadget_spec.specs.Digits.{Gadget, widest, base_digit, lowest, divided, rest, balanced_digit, digit, digit_poly, digit_polys}
use Rattle.gadget_spec.specs.Switching.{KeyRow, combined, key_switch}
use Rattle.tensor_spec.specs.Rounding.{int_product, nearest}
use Rattle.tensor_spec.specs.Tensors.{Triple, IsTriple, rescaled, tensor, triple_phase, TripleCarries, relinearisation}

-- ---- rounding, with t = 16 and q = 31525197391593473: at the half of q/t and past it, of either sign

below_half : nearest 16 31525197391593473 (pos 985162418487296) ≡ pos 0
unfolding nearest
below_half = refl

above_half : nearest 16 31525197391593473 (pos 985162418487297) ≡ pos 1
unfolding nearest
above_half = refl

negative : (nearest 16 31525197391593473 (negsuc 985162418487295) ≡ pos 0) × (nearest 16 31525197391593473 (negsuc 985162418487296) ≡ negsuc 0)
unfolding nearest
negative = (refl, refl)

all_of_q : nearest 16 31525197391593473 (pos 31525197391593473) ≡ pos 16
unfolding nearest
all_of_q = refl

-- X times X^7 is -1
x_times_x7 : int_product 8 (pos 0 ∷ pos 1 ∷ pos 0 ∷ pos 0 ∷ pos 0 ∷ pos 0 ∷ pos 0 ∷ pos 0 ∷ []) (pos 0 ∷ pos 0 ∷ pos 0 ∷ pos 0 ∷ pos 0 ∷ pos 0 ∷ pos 0 ∷ pos 1 ∷ [])
    ≡ negsuc 0 ∷ pos 0 ∷ pos 0 ∷ pos 0 ∷ pos 0 ∷ pos 0 ∷ pos 0 ∷ pos 0 ∷ []
unfolding int_product wrapped total
x_times_x7 = refl

-- ---- modulo 97 with two coefficients and plaintexts modulo 4

abbrev one : Cipher
one = record { c0 = 60 ∷ 55 ∷ []; c1 = 11 ∷ 2 ∷ [] }

abbrev other : Cipher
other = record { c0 = 5 ∷ 96 ∷ []; c1 = 96 ∷ 50 ∷ [] }

-- before they are rescaled its parts are -227 - 173 X, -1880 + 1780 X and 83 - 519 X
abbrev product : Triple
product = record { o0 = 88 ∷ 90 ∷ []; o1 = 19 ∷ 73 ∷ []; o2 = 3 ∷ 76 ∷ [] }

product_is : tensor 97 2 4 one other ≡ product
unfolding tensor rescaled nearest residues residue centre wrapped total
product_is = refl

-- its parts are below 97, and not below 90
both_below : (x y : ℕ) → x < 97 → y < 97 → IsPoly 97 2 (x ∷ y ∷ [])
both_below x y h l = record { entries = refl; below = each }
  where
    each : All (λ z. z < 97) (x ∷ y ∷ [])
    each zero d p = h
    each (suc zero) d p = l
    each (suc (suc i)) d p = absurd (omega (arith, p))

fits : IsTriple 97 2 product
fits = record { o0 = both_below 88 90 (omega arith) (omega arith); o1 = both_below 19 73 (omega arith) (omega arith); o2 = both_below 3 76 (omega arith) (omega arith) }

too_large : IsTriple 90 2 product → ⊥
too_large x = let second : 90 < 90 = x.o0.below 1 0 (omega arith) in absurd (omega (arith, second))

-- under 1 - X, whose square is -2X
phase_is : triple_phase 97 2 (1 ∷ 96 ∷ []) product ≡ 41 ∷ 41 ∷ []
unfolding triple_phase ring_sum ring_product residues residue wrapped total
phase_is = refl

-- D is 24, so it carries 2 + 2X within 7, and not within 6
carries : TripleCarries 97 2 4 (1 ∷ 96 ∷ []) 7 product (2 ∷ 2 ∷ [])
unfolding triple_phase ring_sum ring_difference ring_product ring_multiple residues residue centre wrapped total
carries = record { noise = omega arith }

not_within_six : TripleCarries 97 2 4 (1 ∷ 96 ∷ []) 6 product (2 ∷ 2 ∷ []) → ⊥
unfolding triple_phase ring_sum ring_difference ring_product ring_multiple residues residue centre wrapped total
not_within_six c = absurd (omega (arith, c.noise))

-- a key for the square, with three rows of three bits
abbrev key : List KeyRow
key = record { b = 88 ∷ 21 ∷ []; a = 14 ∷ 90 ∷ [] } ∷ record { b = 11 ∷ 63 ∷ []; a = 37 ∷ 54 ∷ [] } ∷ record { b = 71 ∷ 82 ∷ []; a = 67 ∷ 54 ∷ [] } ∷ []

relinearised : relinearisation 97 2 (record { bits = 3; rows = 3; balanced = false }) key product ≡ record { c0 = 26 ∷ 5 ∷ []; c1 = 78 ∷ 18 ∷ [] }
unfolding relinearisation key_switch combined digit_polys digit_poly digit base_digit cipher_sum ring_sum ring_product residues residue wrapped total
relinearised = refl

relinearised_balanced : relinearisation 97 2 (record { bits = 3; rows = 3; balanced = true }) key product ≡ record { c0 = 90 ∷ 93 ∷ []; c1 = 50 ∷ 80 ∷ [] }
unfolding relinearisation key_switch combined digit_polys digit_poly digit balanced_digit rest lowest divided centre cipher_sum ring_sum ring_product residues residue wrapped total
relinearised_balanced = refl

-- ---- the noise of a product and what relinearisation adds, in numbers, for q = 31525197391593473 and t = 16

abbrev plain : Gadget
plain = record { bits = 8; rows = 7; balanced = false }

abbrev balanced : Gadget
balanced = record { bits = 8; rows = 7; balanced = true }

-- with n = 8, two noises of 41, a secret of size 3, and a key of 2 * (8 * (3 + 2) + 2)
small_noise : (tensor_noise 31525197391593473 8 16 3 41 41 ≡ 150605) × (tensor_noise 31525197391593473 8 16 3 41 41 + switch_noise 8 plain 84 ≡ 1350125) × (tensor_noise 31525197391593473 8 16 3 41 41 + switch_noise 8 balanced 84 ≡ 752717)
unfolding widest
small_noise = (refl, refl, refl)

-- with n = 1024, two noises of 40968, a secret of size 3, and a key of 2 * 8 * (1024 * (3 + 2) + 2)
large_noise : (crossed 31525197391593473 1024 16 3 40968 40968 ≡ 2064719081472) × (rounding 1024 3 ≡ 4720129) × (switch_noise 1024 plain 81952 ≡ 149795143680)
unfolding widest
large_noise = (refl, refl, refl)

all_noise : (tensor_noise 31525197391593473 1024 16 3 40968 40968 + switch_noise 1024 plain 81952 ≡ 2214518945281) × (tensor_noise 31525197391593473 1024 16 3 40968 40968 + switch_noise 1024 balanced 81952 ≡ 2139915089409)
unfolding widest
all_noise = (refl, refl)
