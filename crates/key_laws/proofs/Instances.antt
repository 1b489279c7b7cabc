-- Worked instances: a share and a key at small numbers, and where the draws of each share stand, with the words left
-- as they are.
use Rattle.std.proofs.Common.{◌≡◌, ◌<◌, ◌≤◌, ℕ, zero, suc, List, [], ◌∷◌, map, get_or, false, refl, ap, arith}
use Rattle.ring_spec.specs.Ring.{total, residue, residues, centre, wrapped, size, ring_sum, ring_difference, ring_negative, ring_multiple, ring_product, ring_turned}
use Rattle.ring_spec.specs.Aggregate.{ring_total}
use Rattle.draw_spec.specs.Draws.{uniform, small, ternary}
use Rattle.bfv_spec.specs.Drawn.{uniform_poly, small_poly, ternary_poly}
use Rattle.gadget_spec.specs.Digits.{Gadget, weight}
use Rattle.gadget_spec.specs.Switching.{IsSwitchKey, row_at, row_phase}
use Rattle.key_spec.specs.Rounds.{switch_share, share_row, AreSums}
use Rattle.key_spec.specs.Rotations.{rotation_row, honest_rotation, rotation_key}
use Rattle.key_spec.specs.Relinearisation.{ephemeral, first_round_rows, honest_first_round, second_round_rows, honest_second_round, relin_key}

-- ---- modulo 97 with two coefficients and three rows of three bits

abbrev three : Gadget
three = record { bits = 3; rows = 3; balanced = false }

-- -(11 + 2X) * (1 - X) + 8 * (1 + X) + (-1 + X)
share_is : switch_share 97 2 8 (11 ∷ 2 ∷ []) (1 ∷ 96 ∷ []) (1 ∷ 1 ∷ []) (96 ∷ 1 ∷ []) ≡ 91 ∷ 18 ∷ []
unfolding switch_share ring_sum ring_negative ring_multiple ring_product residues residue wrapped total
share_is = refl

-- the sums of both rounds of two parties, whose parts sum to 1 - X
abbrev first_sums : List (List ℕ)
first_sums = (4 ∷ 84 ∷ []) ∷ (14 ∷ 90 ∷ []) ∷ (7 ∷ 51 ∷ []) ∷ (37 ∷ 54 ∷ []) ∷ (26 ∷ 26 ∷ []) ∷ (67 ∷ 54 ∷ []) ∷ []

abbrev second_sums : List (List ℕ)
second_sums = (87 ∷ 81 ∷ []) ∷ (1 ∷ 37 ∷ []) ∷ (59 ∷ 44 ∷ []) ∷ (49 ∷ 19 ∷ []) ∷ (53 ∷ 2 ∷ []) ∷ (18 ∷ 80 ∷ []) ∷ []

-- k0 + k1, and h1
key_is : relin_key 97 2 three first_sums second_sums
    ≡ record { b = 88 ∷ 21 ∷ []; a = 14 ∷ 90 ∷ [] } ∷ record { b = 11 ∷ 63 ∷ []; a = 37 ∷ 54 ∷ [] } ∷ record { b = 71 ∷ 82 ∷ []; a = 67 ∷ 54 ∷ [] } ∷ []
unfolding relin_key ring_sum residues residue
key_is = refl

-- they are a key for the square of the secret, -2X, with noise of size 5, and not 4
is_key : IsSwitchKey 97 2 three (1 ∷ 96 ∷ []) (0 ∷ 95 ∷ []) 5 (relin_key 97 2 three first_sums second_sums)
unfolding relin_key weight row_phase ring_sum ring_difference ring_multiple ring_product residues residue centre wrapped total
is_key = record { rows = refl; noise = each }
  where
    each : (i : ℕ) → i < 3 → size 97 (ring_difference 97 2 (row_phase 97 2 (1 ∷ 96 ∷ []) (row_at (relin_key 97 2 three first_sums second_sums) i)) (ring_multiple 97 2 (weight three i) (0 ∷ 95 ∷ []))) ≤ 5
    each zero l = omega arith
    each (suc zero) l = omega arith
    each (suc (suc zero)) l = omega arith
    each (suc (suc (suc i))) l = absurd (omega (arith, l))

not_within_four : IsSwitchKey 97 2 three (1 ∷ 96 ∷ []) (0 ∷ 95 ∷ []) 4 (relin_key 97 2 three first_sums second_sums) → ⊥
unfolding relin_key weight row_phase ring_sum ring_difference ring_multiple ring_product residues residue centre wrapped total
not_within_four k = absurd (omega (arith, k.noise 1 (omega arith)))

-- ---- sums, modulo 5: of the shares of the parties 1 and 3, whose rows are j + X and 2 + j X

abbrev shares : ℕ → List (List ℕ)
shares j = (j ∷ 1 ∷ []) ∷ (2 ∷ j ∷ []) ∷ []

are_sums : AreSums 5 2 2 shares (1 ∷ 3 ∷ []) ((4 ∷ 2 ∷ []) ∷ (4 ∷ 4 ∷ []) ∷ [])
unfolding ring_total ring_sum residues residue
are_sums = record { each = each }
  where
    each : (r : ℕ) → r < 2 → get_or ((4 ∷ 2 ∷ []) ∷ (4 ∷ 4 ∷ []) ∷ []) r [] ≡ ring_total 5 2 (map (share_row shares r) (1 ∷ 3 ∷ []))
    each zero l = refl
    each (suc zero) l = refl
    each (suc (suc r)) l = absurd (omega (arith, l))

-- a row that is short of a share is no sum
not_a_sum : AreSums 5 2 2 shares (1 ∷ 3 ∷ []) ((4 ∷ 2 ∷ []) ∷ (2 ∷ 1 ∷ []) ∷ []) → ⊥
unfolding ring_total ring_sum residues residue
not_a_sum s = let first : 2 ≡ 4 = ap (λ (f : List ℕ). get_or f 0 0) (s.each 1 (omega arith)) in absurd (omega (arith, first))

-- ---- where draws stand, modulo 17 with two coefficients and two rows of three bits; streams of the instances 5 and 6

abbrev two : Gadget
two = record { bits = 3; rows = 2; balanced = false }

-- a rotation by 3: a common polynomial and two words of noise a row
rotations : (public seed part : List ℕ) → honest_rotation 17 2 two 1 3 public seed 5 part
    ≡ switch_share 17 2 1 (uniform public 72057594037927941 17 0 ∷ uniform public 72057594037927941 17 4 ∷ []) part (ring_turned 17 2 3 part) (residue 17 (small seed 72057594037927941 1 0) ∷ residue 17 (small seed 72057594037927941 1 1) ∷ [])
    ∷ switch_share 17 2 8 (uniform public 72057594037927941 17 8 ∷ uniform public 72057594037927941 17 12 ∷ []) part (ring_turned 17 2 3 part) (residue 17 (small seed 72057594037927941 1 2) ∷ residue 17 (small seed 72057594037927941 1 3) ∷ []) ∷ []
unfolding honest_rotation rotation_row weight uniform_poly small_poly residues
rotations public seed part = refl

rotation_keys : (public : List ℕ) → rotation_key 17 2 two public 5 ((1 ∷ 2 ∷ []) ∷ (3 ∷ 4 ∷ []) ∷ [])
    ≡ record { b = 1 ∷ 2 ∷ []; a = uniform public 72057594037927941 17 0 ∷ uniform public 72057594037927941 17 4 ∷ [] }
    ∷ record { b = 3 ∷ 4 ∷ []; a = uniform public 72057594037927941 17 8 ∷ uniform public 72057594037927941 17 12 ∷ [] } ∷ []
unfolding rotation_key uniform_poly
rotation_keys public = refl

-- the first round: u, then two noises a row of the gadget
firsts : (public seed part : List ℕ) → honest_first_round 17 2 two 1 public seed 5 part
    ≡ switch_share 17 2 1 (uniform public 72057594037927941 17 0 ∷ uniform public 72057594037927941 17 4 ∷ []) (residue 17 (ternary seed 72057594037927941 0) ∷ residue 17 (ternary seed 72057594037927941 1) ∷ []) part (residue 17 (small seed 72057594037927941 1 2) ∷ residue 17 (small seed 72057594037927941 1 3) ∷ [])
    ∷ ring_sum 17 2 (ring_product 17 2 part (uniform public 72057594037927941 17 0 ∷ uniform public 72057594037927941 17 4 ∷ [])) (residue 17 (small seed 72057594037927941 1 4) ∷ residue 17 (small seed 72057594037927941 1 5) ∷ [])
    ∷ switch_share 17 2 8 (uniform public 72057594037927941 17 8 ∷ uniform public 72057594037927941 17 12 ∷ []) (residue 17 (ternary seed 72057594037927941 0) ∷ residue 17 (ternary seed 72057594037927941 1) ∷ []) part (residue 17 (small seed 72057594037927941 1 6) ∷ residue 17 (small seed 72057594037927941 1 7) ∷ [])
    ∷ ring_sum 17 2 (ring_product 17 2 part (uniform public 72057594037927941 17 8 ∷ uniform public 72057594037927941 17 12 ∷ [])) (residue 17 (small seed 72057594037927941 1 8) ∷ residue 17 (small seed 72057594037927941 1 9) ∷ []) ∷ []
unfolding honest_first_round first_round_rows ephemeral weight uniform_poly small_poly ternary_poly residues
firsts public seed part = refl

-- the second round: u from the stream of the first, noises from the start of its own
seconds : (seed part h0 h1 h2 h3 : List ℕ) → honest_second_round 17 2 two 1 seed 5 6 (h0 ∷ h1 ∷ h2 ∷ h3 ∷ []) part
    ≡ ring_sum 17 2 (ring_product 17 2 part h0) (residue 17 (small seed 72057594037927942 1 0) ∷ residue 17 (small seed 72057594037927942 1 1) ∷ [])
    ∷ ring_sum 17 2 (ring_product 17 2 (ring_difference 17 2 (residue 17 (ternary seed 72057594037927941 0) ∷ residue 17 (ternary seed 72057594037927941 1) ∷ []) part) h1) (residue 17 (small seed 72057594037927942 1 2) ∷ residue 17 (small seed 72057594037927942 1 3) ∷ [])
    ∷ ring_sum 17 2 (ring_product 17 2 part h2) (residue 17 (small seed 72057594037927942 1 4) ∷ residue 17 (small seed 72057594037927942 1 5) ∷ [])
    ∷ ring_sum 17 2 (ring_product 17 2 (ring_difference 17 2 (residue 17 (ternary seed 72057594037927941 0) ∷ residue 17 (ternary seed 72057594037927941 1) ∷ []) part) h3) (residue 17 (small seed 72057594037927942 1 6) ∷ residue 17 (small seed 72057594037927942 1 7) ∷ []) ∷ []
unfolding honest_second_round second_round_rows ephemeral small_poly ternary_poly residues
seconds seed part h0 h1 h2 h3 = refl
