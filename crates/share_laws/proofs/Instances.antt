-- Worked instances: what the definitions give at small numbers, by computation.
use Rattle.std.proofs.Common.{◌≡◌, [], ◌∷◌, false, refl}
use Rattle.ring_spec.specs.Ring.{total, residue, residues, ring_sum, ring_multiple}
use Rattle.ring_spec.specs.Aggregate.{ring_total}
use Rattle.share_spec.specs.Sets.{has, members_to, members}
use Rattle.share_spec.specs.Lagrange.{is_quotient, quotient, ratio, product_over, lagrange}
use Rattle.share_spec.specs.Dealing.{value_at}

-- the set of the bits 1 and 4 is that of the parties 1 and 3
members_of_five : members 5 ≡ 1 ∷ 3 ∷ []
unfolding members members_to has
members_of_five = refl

-- there is no party 0, and none above 32
none_below : has 4294967295 0 ≡ false
unfolding has
none_below = refl

none_above : has 8589934591 33 ≡ false
unfolding has
none_above = refl

-- 1/2 modulo 37 is 19, for 19 * 2 is 38
half : quotient 37 1 2 ≡ 19
unfolding quotient is_quotient
half = refl

-- the parties 1 and 3: 3/(3 - 1) = 3 * 19 = 20, and 1/(1 - 3) = -19 = 18
first_of_two : lagrange 37 5 1 ≡ 20
unfolding lagrange members members_to has product_over ratio quotient is_quotient residue
first_of_two = refl

third_of_two : lagrange 37 5 3 ≡ 18
unfolding lagrange members members_to has product_over ratio quotient is_quotient residue
third_of_two = refl

-- a party that is no member takes no part
second_of_two : lagrange 37 5 2 ≡ 0
unfolding lagrange members members_to has product_over ratio quotient is_quotient residue
second_of_two = refl

-- the parts 1 + 2X, with 5 + 30X for the point, dealt to the points 1 and 3
dealt_to_first : value_at 37 2 ((1 ∷ 2 ∷ []) ∷ (5 ∷ 30 ∷ []) ∷ []) 1 ≡ 6 ∷ 32 ∷ []
unfolding value_at residues residue total
dealt_to_first = refl

dealt_to_third : value_at 37 2 ((1 ∷ 2 ∷ []) ∷ (5 ∷ 30 ∷ []) ∷ []) 3 ≡ 16 ∷ 18 ∷ []
unfolding value_at residues residue total
dealt_to_third = refl

-- 20 times the one and 18 times the other sum to the part 1 + 2X
back_again : ring_total 37 2 (ring_multiple 37 2 20 (6 ∷ 32 ∷ []) ∷ ring_multiple 37 2 18 (16 ∷ 18 ∷ []) ∷ []) ≡ 1 ∷ 2 ∷ []
unfolding ring_total ring_sum ring_multiple residues residue
back_again = refl
