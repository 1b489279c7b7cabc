-- Three of four parties, modulo 97 with two coefficients: what is dealt by a polynomial of degree 2 in the point.
use Rattle.std.proofs.Common.{◌≡◌, ℕ, List, [], ◌∷◌, false, refl}
use Rattle.ring_spec.specs.Ring.{total, residue, residues, ring_sum, ring_multiple}
use Rattle.ring_spec.specs.Aggregate.{ring_total}
use Rattle.share_spec.specs.Sets.{has, members_to, members, count}
use Rattle.share_spec.specs.Lagrange.{is_quotient, quotient, ratio, product_over, lagrange}
use Rattle.share_spec.specs.Dealing.{own_part, dealing_at, dealing, value_at, dealt, own_by}
use Rattle.share_spec.specs.Dealing.{dealt_by as dealt_by_party, share as share_by, secret as secret_by, part as part_by, parts as parts_by}
use Rattle.share_spec.specs.Seeds.{seed_in, dealers_in, share, secret, part, parts}

-- the part 1 - X, then 40 + 7X and 5 - 7X, with the point and with its square
abbrev pub dealing_of_three : List (List ℕ)
dealing_of_three = (1 ∷ 96 ∷ []) ∷ (40 ∷ 7 ∷ []) ∷ (5 ∷ 90 ∷ []) ∷ []

-- dealt to the points 1 to 4: 46, then 1 + 80 + 20 = 101, and so on
pub values : (value_at 97 2 dealing_of_three 1 ≡ 46 ∷ 96 ∷ []) × (value_at 97 2 dealing_of_three 2 ≡ 4 ∷ 82 ∷ [])
    × (value_at 97 2 dealing_of_three 3 ≡ 69 ∷ 54 ∷ []) × (value_at 97 2 dealing_of_three 4 ≡ 47 ∷ 12 ∷ [])
unfolding value_at residues residue total
values = (refl, refl, refl, refl)

-- the parties 1, 2 and 3: 2/(2 - 1) * 3/(3 - 1) is 3, 1/(1 - 2) * 3/(3 - 2) is -3, and 1/(1 - 3) * 2/(2 - 3) is 1
pub first_three : (lagrange 97 7 1 ≡ 3) × (lagrange 97 7 2 ≡ 94) × (lagrange 97 7 3 ≡ 1) × (lagrange 97 7 4 ≡ 0)
unfolding lagrange members members_to has product_over ratio quotient is_quotient residue
first_three = (refl, refl, refl, refl)

-- the parties 1, 3 and 4
pub without_second : (lagrange 97 13 1 ≡ 2) × (lagrange 97 13 2 ≡ 0) × (lagrange 97 13 3 ≡ 95) × (lagrange 97 13 4 ≡ 1)
unfolding lagrange members members_to has product_over ratio quotient is_quotient residue
without_second = (refl, refl, refl, refl)

pub counts : (count 7 ≡ 3) × (count 13 ≡ 3) × (count 0 ≡ 0) × (count 4294967295 ≡ 32)
unfolding members members_to has
counts = (refl, refl, refl, refl)

-- the parts of three parties, whichever they are, sum to what was dealt from
pub first_three_together : ring_total 97 2 (ring_multiple 97 2 3 (46 ∷ 96 ∷ []) ∷ ring_multiple 97 2 94 (4 ∷ 82 ∷ []) ∷ ring_multiple 97 2 1 (69 ∷ 54 ∷ []) ∷ []) ≡ 1 ∷ 96 ∷ []
unfolding ring_total ring_sum ring_multiple residues residue
first_three_together = refl

pub without_second_together : ring_total 97 2 (ring_multiple 97 2 2 (46 ∷ 96 ∷ []) ∷ ring_multiple 97 2 95 (69 ∷ 54 ∷ []) ∷ ring_multiple 97 2 1 (47 ∷ 12 ∷ []) ∷ []) ≡ 1 ∷ 96 ∷ []
unfolding ring_total ring_sum ring_multiple residues residue
without_second_together = refl

-- two don't: with the coefficients 2 and -1 of the parties 1 and 2 it is 88 + 13X
pub two : (lagrange 97 3 1 ≡ 2) × (lagrange 97 3 2 ≡ 96)
unfolding lagrange members members_to has product_over ratio quotient is_quotient residue
two = (refl, refl)

pub two_together : ring_total 97 2 (ring_multiple 97 2 2 (46 ∷ 96 ∷ []) ∷ ring_multiple 97 2 96 (4 ∷ 82 ∷ []) ∷ []) ≡ 88 ∷ 13 ∷ []
unfolding ring_total ring_sum ring_multiple residues residue
two_together = refl

-- no quotient where the divisor isn't invertible: 2 * y is never 1 modulo 6, and 4 / 2 is the lesser of 2 and 5
pub quotients : (is_quotient 6 1 2 3 ≡ false) × (quotient 6 1 2 ≡ 0) × (quotient 6 4 2 ≡ 2)
unfolding quotient is_quotient
quotients = (refl, refl, refl)

-- ---- from seeds: what is dealt, and who does what, with the draws left as they are

pub dealings : (seed : List ℕ) → dealing 97 2 3 seed ≡ own_part 97 2 seed ∷ dealing_at 97 2 seed 1 ∷ dealing_at 97 2 seed 2 ∷ []
unfolding dealing dealing_at
dealings seed = refl

pub dealt_by : (seed : List ℕ) → dealt 97 2 3 4 seed ≡ value_at 97 2 (own_part 97 2 seed ∷ dealing_at 97 2 seed 1 ∷ dealing_at 97 2 seed 2 ∷ []) 4
unfolding dealt dealing dealing_at
dealt_by seed = refl

-- the parties are numbered from 1 on
pub seeds_in_order : (seed_in ((7 ∷ []) ∷ (8 ∷ []) ∷ []) 1 ≡ 7 ∷ []) × (seed_in ((7 ∷ []) ∷ (8 ∷ []) ∷ []) 2 ≡ 8 ∷ []) × (seed_in ((7 ∷ []) ∷ (8 ∷ []) ∷ []) 3 ≡ [])
unfolding seed_in
seeds_in_order = (refl, refl, refl)

-- a share is the sum of what all deal to its point, and the secret is the sum of all parts
pub shares : (a b : List ℕ) → share 97 2 3 (a ∷ b ∷ []) 4 ≡ ring_sum 97 2 (dealt 97 2 3 4 a) (ring_sum 97 2 (dealt 97 2 3 4 b) (0 ∷ 0 ∷ []))
unfolding share share_by dealt_by_party seed_in dealers_in ring_total residues residue
shares a b = refl

pub secrets : (a b : List ℕ) → secret 97 2 (a ∷ b ∷ []) ≡ ring_sum 97 2 (own_part 97 2 a) (ring_sum 97 2 (own_part 97 2 b) (0 ∷ 0 ∷ []))
unfolding secret secret_by own_by seed_in dealers_in ring_total residues residue
secrets a b = refl

-- those of the parties 1, 3 and 4; a party outside the set takes no part
pub all_parts : (seeds : List (List ℕ)) → parts 97 2 3 seeds 13 ≡ ring_multiple 97 2 2 (share 97 2 3 seeds 1) ∷ ring_multiple 97 2 95 (share 97 2 3 seeds 3) ∷ ring_multiple 97 2 1 (share 97 2 3 seeds 4) ∷ []
unfolding parts parts_by part_by share lagrange members members_to has product_over ratio quotient is_quotient residue
all_parts seeds = refl

pub no_part : (seeds : List (List ℕ)) → part 97 2 3 seeds 13 2 ≡ ring_multiple 97 2 0 (share 97 2 3 seeds 2)
unfolding part part_by share lagrange has
no_part seeds = refl

-- ---- other dealers: the parties 2 and 5, for the threshold 2

pub shares_of_two : (seed : ℕ → List ℕ) → share_by 97 2 2 seed (2 ∷ 5 ∷ []) 4 ≡ ring_sum 97 2 (dealt 97 2 2 4 (seed 2)) (ring_sum 97 2 (dealt 97 2 2 4 (seed 5)) (0 ∷ 0 ∷ []))
unfolding share_by dealt_by_party ring_total residues residue
shares_of_two seed = refl

pub secret_of_two : (seed : ℕ → List ℕ) → secret_by 97 2 seed (2 ∷ 5 ∷ []) ≡ ring_sum 97 2 (own_part 97 2 (seed 2)) (ring_sum 97 2 (own_part 97 2 (seed 5)) (0 ∷ 0 ∷ []))
unfolding secret_by own_by ring_total residues residue
secret_of_two seed = refl

-- the parties of a set act with what these dealt
pub parts_of_two : (seed : ℕ → List ℕ) → parts_by 97 2 2 seed (2 ∷ 5 ∷ []) 3 ≡ ring_multiple 97 2 2 (share_by 97 2 2 seed (2 ∷ 5 ∷ []) 1) ∷ ring_multiple 97 2 96 (share_by 97 2 2 seed (2 ∷ 5 ∷ []) 2) ∷ []
unfolding parts_by part_by lagrange members members_to has product_over ratio quotient is_quotient residue
parts_of_two seed = refl
