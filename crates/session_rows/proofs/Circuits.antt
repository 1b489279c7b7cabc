-- What a session has to know of its circuits: in the ring of 8 coefficients modulo 31525197391593473 with
-- plaintexts modulo 16 or 65537, and in that of 1024 coefficients.
use Rattle.std.proofs.Common.{◌≡◌, [], ◌∷◌, refl}
use Rattle.circuit_form.specs.declared.node.Node.TheVariants.{Input, Const, Add, Mul, Rot}
use Rattle.session_rules.specs.Fixing.{fixed_of}
use Rattle.session_rows.proofs.Words.{frame, larger, flooding, linear, sum_of, product_of, constant, turned_by, any_two, three_circuits, refused_alone, flooded}
use Rattle.session_rows.proofs.Computed.{plans}

-- a sum
pub sum : fixed_of frame ((Input 1 ∷ Input 2 ∷ Add 0 1 ∷ []) ∷ []) ≡ any_two (sum_of (1 ∷ 2 ∷ []))
unfolding plans
sum = refl

-- a product of two inputs, and one with a constant
pub product : fixed_of frame ((Input 1 ∷ Input 2 ∷ Mul 0 1 ∷ []) ∷ []) ≡ any_two (product_of 1 2)
unfolding plans
product = refl

pub scaled : fixed_of frame ((Input 1 ∷ Const (1 ∷ []) ∷ Mul 0 1 ∷ []) ∷ []) ≡ any_two (linear (Input 1 ∷ Const (1 ∷ []) ∷ Mul 0 1 ∷ []) (1 ∷ []) [])
unfolding plans
scaled = refl

-- a constant alone
pub constant_alone : fixed_of frame ((Const (7 ∷ []) ∷ []) ∷ []) ≡ any_two constant
unfolding plans
constant_alone = refl

-- a rotation
pub rotated : fixed_of frame ((Input 1 ∷ Rot 3 0 ∷ []) ∷ []) ≡ any_two (turned_by 3 1)
unfolding plans
rotated = refl

-- products of products with a rotation between, which are refused, and two circuits with rotations
pub three : fixed_of frame (
    (Input 1 ∷ Input 2 ∷ Mul 0 1 ∷ Mul 2 2 ∷ Mul 3 3 ∷ Rot 7 4 ∷ Mul 5 5 ∷ []) ∷
    (Input 3 ∷ Rot 5 0 ∷ Rot 3 1 ∷ Rot 5 2 ∷ []) ∷
    (Input 3 ∷ Input 3 ∷ Add 0 1 ∷ Rot 3 2 ∷ []) ∷ [])
    ≡ three_circuits
unfolding plans
three = refl

-- a product of a product, in the larger ring
pub refused : fixed_of larger ((Input 1 ∷ Input 2 ∷ Mul 0 1 ∷ Mul 2 2 ∷ []) ∷ []) ≡ refused_alone
unfolding plans
refused = refl

-- a constant, where the flood of its decryption is too large by one
pub too_large : fixed_of flooding ((Const (7 ∷ []) ∷ []) ∷ []) ≡ flooded
unfolding plans
too_large = refl
