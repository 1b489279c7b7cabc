-- Circuits: which lists of nodes are circuits, what a circuit asks for, and the plain values of its nodes with two
-- coefficients modulo 4.
use Rattle.std.proofs.Common.{◌≡◌, ℕ, List, [], ◌∷◌, replicate, true, false, Some, None, refl}
use Rattle.ring_spec.specs.Ring.{total, residue, residues, wrapped, turned, ring_sum, ring_difference, ring_negative, ring_product, ring_turned}
use Rattle.circuit_form.specs.declared.node.Node.{Node}
use Rattle.circuit_form.specs.declared.node.Node.TheVariants.{Input, Const, Add, Sub, Neg, Mul, Rot}
use Rattle.circuit_form.specs.Circuits.{may_stand, first_wrong, first_fault, owners, is_full, has_product, has_rot}
use Rattle.circuit_form.specs.Values.{node_value, given_after, values_from, plain_value}

-- ---- the rules, for three parties: n is 4 and t is 5 where nothing else is said

-- a node of each kind, each at the first place where it may stand
pub keeps : first_fault 4 5 3 (Input 3 ∷ Const (4 ∷ 0 ∷ 0 ∷ 4 ∷ []) ∷ Add 0 1 ∷ Sub 2 0 ∷ Neg 3 ∷ Mul 4 4 ∷ Rot 3 5 ∷ Rot 7 6 ∷ []) ≡ None
unfolding first_fault first_wrong may_stand
keeps = refl

-- an empty list is at fault in node 0, and 257 nodes are in node 256, whatever else is wrong with them
pub none_at_all : first_fault 4 5 3 [] ≡ Some 0
unfolding first_fault
none_at_all = refl

pub as_many_as_may : first_fault 4 5 3 (replicate 256 (Input 1)) ≡ None
unfolding first_fault first_wrong may_stand
as_many_as_may = refl

pub one_too_many : (first_fault 4 5 3 (replicate 257 (Input 1)) ≡ Some 256) × (first_fault 4 5 3 (replicate 257 (Input 0)) ≡ Some 256)
unfolding first_fault
one_too_many = (refl, refl)

-- the first of two faults
pub first_of_two : first_fault 4 5 3 (Input 1 ∷ Neg 1 ∷ Input 4 ∷ []) ≡ Some 1
unfolding first_fault first_wrong may_stand
first_of_two = refl

-- owners are the parties 1 to 3
pub owners_are_parties : (may_stand 4 5 3 0 (Input 1) ≡ true) × (may_stand 4 5 3 0 (Input 3) ≡ true) × (may_stand 4 5 3 0 (Input 0) ≡ false) × (may_stand 4 5 3 0 (Input 4) ≡ false)
unfolding may_stand
owners_are_parties = (refl, refl, refl, refl)

-- a constant has 4 coefficients, each below 5
pub constants_fit : (may_stand 4 5 3 0 (Const (0 ∷ 0 ∷ 0 ∷ 4 ∷ [])) ≡ true) × (may_stand 4 5 3 0 (Const (0 ∷ 0 ∷ 0 ∷ 5 ∷ [])) ≡ false)
    × (may_stand 4 5 3 0 (Const (0 ∷ 0 ∷ 0 ∷ [])) ≡ false) × (may_stand 4 5 3 0 (Const (0 ∷ 0 ∷ 0 ∷ 0 ∷ 0 ∷ [])) ≡ false)
unfolding may_stand
constants_fit = (refl, refl, refl, refl)

-- both operands stand before the node
pub operands_are_earlier : (may_stand 4 5 3 2 (Add 1 1) ≡ true) × (may_stand 4 5 3 2 (Add 2 1) ≡ false) × (may_stand 4 5 3 2 (Add 1 2) ≡ false)
    × (may_stand 4 5 3 2 (Sub 2 1) ≡ false) × (may_stand 4 5 3 2 (Sub 1 2) ≡ false) × (may_stand 4 5 3 2 (Mul 2 1) ≡ false) × (may_stand 4 5 3 2 (Mul 1 2) ≡ false)
    × (may_stand 4 5 3 2 (Neg 1) ≡ true) × (may_stand 4 5 3 2 (Neg 2) ≡ false) × (may_stand 4 5 3 2 (Rot 3 2) ≡ false)
unfolding may_stand
operands_are_earlier = (refl, refl, refl, refl, refl, refl, refl, refl, refl, refl)

-- rotations are by 3, 5 and 7
pub rotations_are_odd : (may_stand 4 5 3 1 (Rot 1 0) ≡ false) × (may_stand 4 5 3 1 (Rot 3 0) ≡ true) × (may_stand 4 5 3 1 (Rot 4 0) ≡ false)
    × (may_stand 4 5 3 1 (Rot 7 0) ≡ true) × (may_stand 4 5 3 1 (Rot 8 0) ≡ false) × (may_stand 4 5 3 1 (Rot 9 0) ≡ false)
unfolding may_stand
rotations_are_odd = (refl, refl, refl, refl, refl, refl)

-- ---- a circuit of each kind of node

-- (1 + 2X) of party 2 and (3 + 3X) of party 1
abbrev pub given : List (List ℕ)
given = (1 ∷ 2 ∷ []) ∷ (3 ∷ 3 ∷ []) ∷ []

abbrev pub nodes : List Node
nodes = Input 2 ∷ Input 1 ∷ Add 0 1 ∷ Sub 0 1 ∷ Neg 0 ∷ Const (3 ∷ 1 ∷ []) ∷ Mul 0 5 ∷ Mul 5 1 ∷ Mul 0 1 ∷ Rot 3 0 ∷ []

pub owned : owners nodes ≡ 2 ∷ 1 ∷ []
unfolding owners
owned = refl

-- a product with a constant on either side is none that needs a key
pub products : (has_product nodes ≡ true) × (is_full nodes (Mul 0 5) ≡ false) × (is_full nodes (Mul 5 1) ≡ false) × (is_full nodes (Mul 0 1) ≡ true)
    × (has_product (Input 1 ∷ Const (3 ∷ 1 ∷ []) ∷ Mul 0 1 ∷ Mul 1 0 ∷ Mul 1 1 ∷ []) ≡ false)
products = (refl, refl, refl, refl, refl)

-- what is the product of constants is itself no constant
pub product_of_constants : has_product (Input 1 ∷ Const (3 ∷ 1 ∷ []) ∷ Mul 1 1 ∷ Mul 0 2 ∷ []) ≡ true
product_of_constants = refl

pub rotated : (has_rot 3 nodes ≡ true) × (has_rot 5 nodes ≡ false)
rotated = (refl, refl)

-- inputs are counted in the order of their nodes, and X^2 is -1
pub all_values : values_from 2 4 given [] 0 nodes
    ≡ (1 ∷ 2 ∷ []) ∷ (3 ∷ 3 ∷ []) ∷ (0 ∷ 1 ∷ []) ∷ (2 ∷ 3 ∷ []) ∷ (3 ∷ 2 ∷ []) ∷ (3 ∷ 1 ∷ []) ∷ (1 ∷ 3 ∷ []) ∷ (2 ∷ 0 ∷ []) ∷ (1 ∷ 1 ∷ []) ∷ (1 ∷ 2 ∷ []) ∷ []
unfolding values_from node_value given_after ring_sum ring_difference ring_negative ring_product ring_turned residues residue wrapped turned total
all_values = refl

-- the value of a circuit is that of its last node
pub last_value : plain_value 2 4 given (Input 2 ∷ Input 1 ∷ Sub 1 0 ∷ Add 0 2 ∷ Neg 3 ∷ []) ≡ 1 ∷ 1 ∷ []
unfolding plain_value values_from node_value given_after ring_sum ring_difference ring_negative residues residue
last_value = refl

-- with X^3 for X, 1 + 2X + 3 X^3 becomes 1 + 2 X^3 + 3 X^9, which is 1 + 3X + 2 X^3 where X^4 is -1
pub turned_value : plain_value 4 5 ((1 ∷ 2 ∷ 0 ∷ 3 ∷ []) ∷ []) (Input 1 ∷ Rot 3 0 ∷ []) ≡ 1 ∷ 3 ∷ 0 ∷ 2 ∷ []
unfolding plain_value values_from node_value given_after ring_turned residues residue turned total
turned_value = refl
