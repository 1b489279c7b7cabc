-- Polynomials: which coefficients are within a bound, which lists are of the ring, and where a coefficient goes.
use Rattle.std.proofs.Common.{◌≡◌, ◌<◌, ◌≤◌, zero, suc, [], ◌∷◌, pos, negsuc, All, refl, arith}
use Rattle.ring_spec.specs.Ring.{total, residue, residues, turned, ring_turned, signed, IsWithin, IsPoly}

-- 3 and -2 are within 3, and not within 2
pub within : IsWithin 2 3 (signed (pos 3 ∷ negsuc 1 ∷ []))
within zero l = omega arith
within (suc zero) l = omega arith
within (suc (suc i)) l = absurd (omega (arith, l))

pub not_within : IsWithin 2 2 (signed (pos 3 ∷ negsuc 1 ∷ [])) → ⊥
not_within w = let first : 3 ≤ 2 = w 0 (omega arith) in absurd (omega (arith, first))

-- the coefficients from place n on don't count
pub past_end : IsWithin 1 2 (signed (pos 2 ∷ pos 9 ∷ []))
past_end zero l = omega arith
past_end (suc i) l = absurd (omega (arith, l))

-- two entries below 17; one entry too few, and 17 itself
residues_below : All (λ x. x < 17) (16 ∷ 0 ∷ [])
residues_below zero d l = omega arith
residues_below (suc zero) d l = omega arith
residues_below (suc (suc k)) d l = absurd (omega (arith, l))

pub poly : IsPoly 17 2 (16 ∷ 0 ∷ [])
poly = record { entries = refl; below = residues_below }

pub too_short : IsPoly 17 2 (16 ∷ []) → ⊥
too_short p = absurd (omega (arith, p.entries))

pub too_large : IsPoly 17 2 (0 ∷ 17 ∷ []) → ⊥
too_large p = let second : 17 < 17 = p.below 1 0 (omega arith) in absurd (omega (arith, second))

-- with X^3 for X, 2 + X + 5 X^5 becomes 2 + X^3 + 5 X^15, which is 2 + X^3 - 5 X^7
pub turns : ring_turned 17 8 3 (2 ∷ 1 ∷ 0 ∷ 0 ∷ 0 ∷ 5 ∷ 0 ∷ 0 ∷ []) ≡ 2 ∷ 0 ∷ 0 ∷ 1 ∷ 0 ∷ 0 ∷ 0 ∷ 12 ∷ []
unfolding ring_turned residues residue turned total
turns = refl
