-- The ciphertexts of a circuit's nodes, modulo 97 with two coefficients and plaintexts modulo 4. Digits have 4 bits,
-- so that a key has two rows, of weights 1 and 16.
use Rattle.std.proofs.Common.{◌≡◌, List, [], ◌∷◌, Bool, true, false, refl}
use Rattle.ring_spec.specs.Ring.{total, residue, residues, centre, wrapped, turned, ring_sum, ring_difference, ring_negative, ring_multiple, ring_product, ring_turned}
use Rattle.bfv_spec.specs.Scheme.{cipher_sum, cipher_difference, cipher_negative, cipher_multiple, trivial}
use Rattle.gadget_spec.specs.Digits.{base_digit, lowest, divided, rest, balanced_digit, digit, digit_poly, digit_polys}
use Rattle.gadget_spec.specs.Switching.{KeyRow, combined, key_switch, rotation}
use Rattle.tensor_spec.specs.Rounding.{nearest}
use Rattle.tensor_spec.specs.Tensors.{rescaled, tensor, relinearisation}
use Rattle.param_set.specs.Moduli.{digits_up_to, binary_digits}
use Rattle.param_set.specs.Numbers.{Numbers}
use Rattle.circuit_form.specs.declared.node.Node.{Node}
use Rattle.circuit_form.specs.declared.node.Node.TheVariants.{Input, Const, Add, Sub, Neg, Mul, Rot}
use Rattle.circuit_form.specs.Values.{given_after}
use Rattle.cipher_spec.specs.Keys.{Keys, gadget_of, no_key, no_keys, rotation_rows}
use Rattle.cipher_spec.specs.Ciphers.{is_switch_free, product_cipher, node_cipher, ciphers_from, output_cipher}
use Rattle.spec_rows.proofs.Schemes.{one, other}

abbrev pub numbers : Bool → Numbers
numbers balanced = record { n = 2; q = 97; t = 4; digit_bits = 4; balanced = balanced; err = 1; flood = 1; parties = 2; threshold = 2 }

abbrev pub nodes : List Node
nodes = Input 2 ∷ Input 1 ∷ Add 0 1 ∷ Sub 0 1 ∷ Neg 0 ∷ Const (3 ∷ 1 ∷ []) ∷ Mul 0 5 ∷ Mul 5 1 ∷ Mul 5 5 ∷ []

-- the inputs in the order of their nodes, a constant without noise, and a product with a constant on either side
pub all_ciphers : ciphers_from (numbers false) no_keys (one ∷ other ∷ []) nodes [] 0 nodes
    ≡ one ∷ other
    ∷ record { c0 = 35 ∷ 59 ∷ []; c1 = 10 ∷ 52 ∷ [] }
    ∷ record { c0 = 25 ∷ 61 ∷ []; c1 = 12 ∷ 49 ∷ [] }
    ∷ record { c0 = 67 ∷ 37 ∷ []; c1 = 86 ∷ 95 ∷ [] }
    ∷ record { c0 = 72 ∷ 24 ∷ []; c1 = 0 ∷ 0 ∷ [] }
    ∷ record { c0 = 30 ∷ 16 ∷ []; c1 = 31 ∷ 17 ∷ [] }
    ∷ record { c0 = 16 ∷ 2 ∷ []; c1 = 44 ∷ 52 ∷ [] }
    ∷ record { c0 = 95 ∷ 47 ∷ []; c1 = 0 ∷ 0 ∷ [] } ∷ []
unfolding ciphers_from node_cipher product_cipher given_after cipher_sum cipher_difference cipher_negative cipher_multiple trivial ring_sum ring_difference ring_negative ring_multiple ring_product residues residue wrapped total
all_ciphers = refl

-- the output is that of the last node
pub output : output_cipher (numbers false) no_keys (one ∷ other ∷ []) (Input 2 ∷ Input 1 ∷ Sub 0 1 ∷ []) ≡ record { c0 = 25 ∷ 61 ∷ []; c1 = 12 ∷ 49 ∷ [] }
unfolding output_cipher ciphers_from node_cipher given_after cipher_difference ring_difference residues residue
output = refl

-- ---- key switches

-- keys without noise under 1 - X: for its square, which is -2X, and for 1 + X, which it becomes when X becomes X^3;
-- the key for 1 is for no node
abbrev pub squares : List KeyRow
squares = record { b = 0 ∷ 12 ∷ []; a = 7 ∷ 90 ∷ [] } ∷ record { b = 36 ∷ 10 ∷ []; a = 3 ∷ 58 ∷ [] } ∷ []

abbrev pub turns : List KeyRow
turns = record { b = 45 ∷ 30 ∷ []; a = 41 ∷ 12 ∷ [] } ∷ record { b = 95 ∷ 73 ∷ []; a = 86 ∷ 29 ∷ [] } ∷ []

abbrev pub keys : Keys
keys = record { public = no_key; relin = squares; rotations = record { g = 1; rows = squares } ∷ record { g = 3; rows = turns } ∷ [] }

pub gadgets : gadget_of (numbers false) ≡ record { bits = 4; rows = 2; balanced = false }
unfolding binary_digits digits_up_to
gadgets = refl

-- the product of both inputs: their tensor is (5 + 88X, 26 + 40X, 3 + 76X), and its last part is switched
abbrev multiplied : List Node
multiplied = Input 2 ∷ Input 1 ∷ Mul 0 1 ∷ []

pub product : output_cipher (numbers false) keys (one ∷ other ∷ []) multiplied ≡ record { c0 = 15 ∷ 74 ∷ []; c1 = 93 ∷ 18 ∷ [] }
unfolding output_cipher ciphers_from node_cipher product_cipher given_after tensor rescaled nearest relinearisation key_switch combined digit_polys digit_poly digit base_digit binary_digits digits_up_to cipher_sum ring_sum ring_product residues residue centre wrapped total
product = refl

pub product_balanced : output_cipher (numbers true) keys (one ∷ other ∷ []) multiplied ≡ record { c0 = 75 ∷ 88 ∷ []; c1 = 70 ∷ 78 ∷ [] }
unfolding output_cipher ciphers_from node_cipher product_cipher given_after tensor rescaled nearest relinearisation key_switch combined digit_polys digit_poly digit balanced_digit rest divided lowest binary_digits digits_up_to cipher_sum ring_sum ring_product residues residue centre wrapped total
product_balanced = refl

-- the rotation of the first input by 3, whose second part becomes 11 + 95X: 95 is 15 + 5 * 16, and -2 where digits are
-- balanced
abbrev turned_once : List Node
turned_once = Input 2 ∷ Rot 3 0 ∷ []

pub rotated : output_cipher (numbers false) keys (one ∷ []) turned_once ≡ record { c0 = 1 ∷ 62 ∷ []; c1 = 29 ∷ 13 ∷ [] }
unfolding output_cipher ciphers_from node_cipher given_after rotation rotation_rows key_switch combined digit_polys digit_poly digit base_digit binary_digits digits_up_to cipher_sum ring_sum ring_product ring_turned turned residues residue wrapped total
rotated = refl

pub rotated_balanced : output_cipher (numbers true) keys (one ∷ []) turned_once ≡ record { c0 = 57 ∷ 64 ∷ []; c1 = 2 ∷ 81 ∷ [] }
unfolding output_cipher ciphers_from node_cipher given_after rotation rotation_rows key_switch combined digit_polys digit_poly digit balanced_digit rest divided lowest binary_digits digits_up_to cipher_sum ring_sum ring_product ring_turned turned residues residue centre wrapped total
rotated_balanced = refl

-- where no key is for the rotation nothing is switched
pub unswitched : output_cipher (numbers false) no_keys (one ∷ []) turned_once ≡ record { c0 = 30 ∷ 37 ∷ []; c1 = 0 ∷ 0 ∷ [] }
unfolding output_cipher ciphers_from node_cipher given_after rotation rotation_rows key_switch combined cipher_sum ring_sum ring_turned turned residues residue total
unswitched = refl

-- ---- which circuits need no key switch

pub switch_free : (is_switch_free nodes ≡ true) × (is_switch_free multiplied ≡ false) × (is_switch_free turned_once ≡ false)
unfolding is_switch_free
switch_free = (refl, refl, refl)
