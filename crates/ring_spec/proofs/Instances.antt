-- Worked instances: what the definitions give at small polynomials, by computation.
use Rattle.std.proofs.Common.{◌≡◌, [], ◌∷◌, negsuc, refl}
use Rattle.ring_spec.specs.Ring.{total, residue, centre, residues, wrapped, turned, ring_product, ring_turned, ring_sum, ring_difference, ring_negative, ring_multiple, size}

-- X^7 times X is X^8, which is -1
x7_times_x : ring_product 31525197391593473 8 (0 ∷ 0 ∷ 0 ∷ 0 ∷ 0 ∷ 0 ∷ 0 ∷ 1 ∷ []) (0 ∷ 1 ∷ 0 ∷ 0 ∷ 0 ∷ 0 ∷ 0 ∷ 0 ∷ []) ≡ 31525197391593472 ∷ 0 ∷ 0 ∷ 0 ∷ 0 ∷ 0 ∷ 0 ∷ 0 ∷ []
unfolding ring_product residues residue wrapped total
x7_times_x = refl

-- (3 + X^2) * 5 is 15 + 5 X^2
constant_times : ring_product 31525197391593473 8 (3 ∷ 0 ∷ 1 ∷ 0 ∷ 0 ∷ 0 ∷ 0 ∷ 0 ∷ []) (5 ∷ 0 ∷ 0 ∷ 0 ∷ 0 ∷ 0 ∷ 0 ∷ 0 ∷ []) ≡ 15 ∷ 0 ∷ 5 ∷ 0 ∷ 0 ∷ 0 ∷ 0 ∷ 0 ∷ []
unfolding ring_product residues residue wrapped total
constant_times = refl

-- with X^3 for X, X^3 becomes X^9, which is -X
x3_turned : ring_turned 16 8 3 (0 ∷ 0 ∷ 0 ∷ 1 ∷ 0 ∷ 0 ∷ 0 ∷ 0 ∷ []) ≡ 0 ∷ 15 ∷ 0 ∷ 0 ∷ 0 ∷ 0 ∷ 0 ∷ 0 ∷ []
unfolding ring_turned residues residue turned total
x3_turned = refl

-- modulo 17 with two coefficients
sums : ring_sum 17 2 (16 ∷ 3 ∷ []) (2 ∷ 4 ∷ []) ≡ 1 ∷ 7 ∷ []
unfolding ring_sum residues residue
sums = refl

differences : ring_difference 17 2 (1 ∷ 3 ∷ []) (2 ∷ 3 ∷ []) ≡ 16 ∷ 0 ∷ []
unfolding ring_difference residues residue
differences = refl

negatives : ring_negative 17 2 (0 ∷ 3 ∷ []) ≡ 0 ∷ 14 ∷ []
unfolding ring_negative residues residue
negatives = refl

multiples : ring_multiple 17 2 5 (4 ∷ 3 ∷ []) ≡ 3 ∷ 15 ∷ []
unfolding ring_multiple residues residue
multiples = refl

-- the centre of 9 modulo 17 is -8, and that of 8 is 8
centres_meet : centre 17 9 ≡ negsuc 7
unfolding centre
centres_meet = refl

sizes : size 17 (8 ∷ 9 ∷ 16 ∷ []) ≡ 8
unfolding centre
sizes = refl
