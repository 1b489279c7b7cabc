-- Products of plaintexts: the modulus in which they are made, and which nodes of a circuit are products.
use Rattle.std.specs.Prelude.{ℕ, Bool, true, false}
use Rattle.circuit_form.specs.declared.node.Node.{Node}
use Rattle.circuit_form.specs.declared.node.Node.TheVariants.{Input, Const, Add, Sub, Neg, Mul, Rot}

-- a fixed odd modulus of 62 bits: over the whole numbers each coefficient of a product of plaintexts is
-- below half of it in absolute value
abbrev pub wide_modulus : ℕ
wide_modulus = 4611686018427322369

-- whether a node is a product
abbrev pub is_mul : Node → Bool
is_mul (Input owner) = false
is_mul (Const value) = false
is_mul (Add left right) = false
is_mul (Sub left right) = false
is_mul (Neg of) = false
is_mul (Mul left right) = true
is_mul (Rot g of) = false
