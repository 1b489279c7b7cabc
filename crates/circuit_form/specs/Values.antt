-- The polynomial of each node of a circuit, in the ring of polynomials modulo t and X^n + 1.
use Rattle.std.specs.Prelude.{ℕ, ◌+◌, ◌-◌, List, [], ◌∷◌, ◌++◌, length, slice_index_or}
use Rattle.ring_spec.specs.Ring.{ring_sum, ring_difference, ring_negative, ring_product, ring_turned}
use Rattle.circuit_form.specs.declared.node.Node.{Node}
use Rattle.circuit_form.specs.declared.node.Node.TheVariants.{Input, Const, Add, Sub, Neg, Mul, Rot}

-- the entry of a list of polynomials at a place
abbrev pub entry : List (List ℕ) → ℕ → List ℕ
entry done k = slice_index_or done k []

-- the polynomial of a node: `done` are those of the nodes before it, `given` of which are inputs
unfoldable pub node_value : ℕ → ℕ → List (List ℕ) → List (List ℕ) → ℕ → Node → List ℕ
node_value n t inputs done given (Input owner) = entry inputs given
node_value n t inputs done given (Const value) = value
node_value n t inputs done given (Add left right) = ring_sum t n (entry done left) (entry done right)
node_value n t inputs done given (Sub left right) = ring_difference t n (entry done left) (entry done right)
node_value n t inputs done given (Neg of) = ring_negative t n (entry done of)
node_value n t inputs done given (Mul left right) = ring_product t n (entry done left) (entry done right)
node_value n t inputs done given (Rot g of) = ring_turned t n g (entry done of)

-- the inputs given once a node is done: one more where it is an input
unfoldable pub given_after : ℕ → Node → ℕ
given_after given (Input owner) = given + 1
given_after given (Const value) = given
given_after given (Add left right) = given
given_after given (Sub left right) = given
given_after given (Neg of) = given
given_after given (Mul left right) = given
given_after given (Rot g of) = given

-- the polynomials of all nodes, where those of some are done: each next one is put behind them
unfoldable pub values_from : ℕ → ℕ → List (List ℕ) → List (List ℕ) → ℕ → List Node → List (List ℕ)
values_from n t inputs done given [] = done
values_from n t inputs done given (node ∷ rest) =
    values_from n t inputs (done ++ node_value n t inputs done given node ∷ []) (given_after given node) rest

-- the plain value of a circuit: the polynomial of its last node
unfoldable pub plain_value : ℕ → ℕ → List (List ℕ) → List Node → List ℕ
plain_value n t inputs nodes = entry (values_from n t inputs [] 0 nodes) (length nodes - 1)
