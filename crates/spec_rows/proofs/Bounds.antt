-- Noise bounds: every row for small numbers, the parts of a product's for larger ones, and the first place above the limit.
use Rattle.std.proofs.Common.{◌≡◌, true, false, List, [], ◌∷◌, Some, None, refl}
use Rattle.circuit_form.specs.declared.node.Node.{Node}
use Rattle.circuit_form.specs.declared.node.Node.TheVariants.{Input, Const, Add, Sub, Neg, Mul, Rot}
use Rattle.noise_ledger.specs.declared.over.Place.TheVariants.{Output}
use Rattle.noise_ledger.specs.declared.over.Place.TheVariants.{Node as AtNode}
use Rattle.param_set.specs.Moduli.{binary_digits, digits_up_to}
use Rattle.param_set.specs.Numbers.{Numbers}
use Rattle.noise_ledger.specs.Bounds.{limit, rotation_noise, relin_noise, switched, crossed, rounding, input_bound, sum_bound, neg_bound, plain_mul_bound, rot_bound, mul_bound, output_bound}
use Rattle.noise_ledger.specs.Ledger.{product_bound, node_bound, bounds_from, node_bounds, place_bound, first_above, first_over, nodes_before}

-- l is 3, r is 1, and L is 11
abbrev pub small : Numbers
small = record { n = 2; q = 97; t = 4; digit_bits = 3; balanced = false; err = 1; flood = 2; parties = 3; threshold = 2 }

abbrev pub frame : Numbers
frame = record { n = 8; q = 31525197391593473; t = 16; digit_bits = 8; balanced = false; err = 1; flood = 1; parties = 3; threshold = 2 }

abbrev pub balanced_frame : Numbers
balanced_frame = record frame { balanced = true }

abbrev pub larger : Numbers
larger = record { n = 1024; q = 31525197391593473; t = 16; digit_bits = 8; balanced = false; err = 8; flood = 1048576; parties = 3; threshold = 2 }

abbrev pub nodes : List Node
nodes = Input 2 ∷ Input 1 ∷ Add 0 1 ∷ Sub 0 2 ∷ Neg 0 ∷ Const (3 ∷ 1 ∷ []) ∷ Mul 2 5 ∷ Mul 5 1 ∷ Mul 5 5 ∷ Rot 3 0 ∷ Mul 0 1 ∷ []

-- each row: 1 + 2 * 5 times 1 for an input; 11 + 11 + 1, 11 + 23 + 1 and 11 + 1; 2 * 3 times 24, 12 and 1, by the
-- operand that isn't the constant; 12 and 3 * 2 * 7 * 2; and for a product 2 * 5 * (4 * 22 + 6), 22, and 3 * 2 * 7 * 24
pub all_bounds : node_bounds small nodes ≡ 11 ∷ 11 ∷ 23 ∷ 35 ∷ 12 ∷ 0 ∷ 144 ∷ 72 ∷ 6 ∷ 96 ∷ 1970 ∷ []
unfolding node_bounds bounds_from node_bound product_bound switched crossed rounding input_bound sum_bound neg_bound plain_mul_bound rot_bound mul_bound binary_digits digits_up_to
all_bounds = refl

pub parts : (limit small ≡ 11) × (crossed small 11 11 ≡ 940) × (rounding small ≡ 22) × (switched small (relin_noise small) ≡ 1008) × (switched small (rotation_noise small) ≡ 84)
unfolding crossed rounding switched binary_digits digits_up_to
parts = (refl, refl, refl, refl, refl)

-- the flood of two parties
pub output_is : place_bound small (Input 2 ∷ Neg 0 ∷ []) Output ≡ 16
unfolding place_bound output_bound node_bounds bounds_from node_bound input_bound neg_bound
output_is = refl

-- the three parts of a product of two inputs, and the first part of its square
pub larger_parts : (limit larger ≡ 985162418487295) × (input_bound larger ≡ 40968) × (crossed larger 40968 40968 ≡ 2064719081472) × (rounding larger ≡ 4720129)
    × (switched larger (relin_noise larger) ≡ 149795143680) × (crossed larger 2214518945281 2214518945281 ≡ 111605518756859736064)
unfolding input_bound crossed rounding switched binary_digits digits_up_to
larger_parts = (refl, refl, refl, refl, refl, refl)

-- a sum and a product of two inputs with eight coefficients
pub framed : (node_bounds frame (Input 1 ∷ Input 2 ∷ Add 0 1 ∷ []) ≡ 41 ∷ 41 ∷ 83 ∷ []) × (place_bound frame (Input 1 ∷ Input 2 ∷ Add 0 1 ∷ []) Output ≡ 85)
    × (place_bound frame (Input 1 ∷ Input 2 ∷ Mul 0 1 ∷ []) Output ≡ 1350127)
unfolding place_bound output_bound node_bounds bounds_from node_bound product_bound switched crossed rounding input_bound sum_bound mul_bound binary_digits digits_up_to
framed = (refl, refl, refl)

-- with balanced digits a digit is at most 128 in place of 255: a product, and a rotation
pub balanced_ones : (node_bounds balanced_frame (Input 1 ∷ Input 2 ∷ Mul 0 1 ∷ []) ≡ 41 ∷ 41 ∷ 752717 ∷ []) × (node_bounds balanced_frame (Input 1 ∷ Rot 3 0 ∷ []) ≡ 41 ∷ 14378 ∷ []) × (node_bounds frame (Input 1 ∷ Rot 3 0 ∷ []) ≡ 41 ∷ 28602 ∷ [])
unfolding node_bounds bounds_from node_bound product_bound switched crossed rounding input_bound rot_bound mul_bound binary_digits digits_up_to
balanced_ones = (refl, refl, refl)

-- ---- the first place above the limit of 11

-- a bound at the limit is admitted; a node's comes before the output's, and of two nodes' the first
pub places : (first_over small (Const (3 ∷ 1 ∷ []) ∷ Add 0 0 ∷ []) ≡ None) × (first_over small (Input 1 ∷ []) ≡ Some Output)
    × (first_over small (Input 1 ∷ Neg 0 ∷ []) ≡ Some (AtNode 1)) × (first_over small (Input 1 ∷ Neg 0 ∷ Neg 1 ∷ []) ≡ Some (AtNode 1))
unfolding first_over first_above place_bound output_bound node_bounds bounds_from node_bound input_bound sum_bound neg_bound
places = (refl, refl, refl, refl)

pub before : (nodes_before nodes (AtNode 3) ≡ 3) × (nodes_before nodes Output ≡ 11)
before = (refl, refl)
