-- The bounds of a circuit's places, which are its nodes in their order and then the output, and the
-- first place whose bound is above the limit.
use Rattle.std.specs.Prelude.{ℕ, ◌+◌, ◌-◌, ◌≤◌, Bool, true, false, nat_le, if◌then◌else◌, List, [], ◌∷◌, ◌++◌, length, slice_index_or, Option, Some, None}
use Rattle.std.specs.List.{slice_get}
use Rattle.circuit_form.specs.declared.node.Node.{Node}
use Rattle.circuit_form.specs.declared.node.Node.TheVariants.{Input, Const, Add, Sub, Neg, Mul, Rot}
use Rattle.circuit_form.specs.Circuits.{is_const}
use Rattle.noise_ledger.specs.declared.over.Place.{Place}
use Rattle.noise_ledger.specs.declared.over.Place.TheVariants.{Output}
use Rattle.noise_ledger.specs.declared.over.Place.TheVariants.{Node as AtNode}
use Rattle.param_set.specs.Numbers.{Numbers}
use Rattle.noise_ledger.specs.Bounds.{limit, input_bound, const_bound, sum_bound, neg_bound, plain_mul_bound, rot_bound, mul_bound, output_bound}

-- ---- the bounds

-- the bound at a place of a list
abbrev pub bound_at : List ℕ → ℕ → ℕ
bound_at done k = slice_index_or done k 0

-- the bound of a product: with a constant the row of one operand, the left one where both are constants
unfoldable pub product_bound : Numbers → List Node → List ℕ → ℕ → ℕ → ℕ
product_bound p nodes done left right =
    if is_const (slice_get nodes right) then plain_mul_bound p (bound_at done left)
    else if is_const (slice_get nodes left) then plain_mul_bound p (bound_at done right)
    else mul_bound p (bound_at done left) (bound_at done right)

-- the bound of a node among `nodes`: `done` are those of the nodes before it
unfoldable pub node_bound : Numbers → List Node → List ℕ → Node → ℕ
node_bound p nodes done (Input owner) = input_bound p
node_bound p nodes done (Const value) = const_bound
node_bound p nodes done (Add left right) = sum_bound p (bound_at done left) (bound_at done right)
node_bound p nodes done (Sub left right) = sum_bound p (bound_at done left) (bound_at done right)
node_bound p nodes done (Neg of) = neg_bound p (bound_at done of)
node_bound p nodes done (Mul left right) = product_bound p nodes done left right
node_bound p nodes done (Rot g of) = rot_bound p (bound_at done of)

-- the bounds of all nodes, where those of some are done: each next one is put behind them
unfoldable pub bounds_from : Numbers → List Node → List ℕ → List Node → List ℕ
bounds_from p nodes done [] = done
bounds_from p nodes done (node ∷ rest) = bounds_from p nodes (done ++ node_bound p nodes done node ∷ []) rest

-- the bounds of a circuit's nodes
unfoldable pub node_bounds : Numbers → List Node → List ℕ
node_bounds p nodes = bounds_from p nodes [] nodes

-- the bound of a place: the output's is that of the last node, with the flood
unfoldable pub place_bound : Numbers → List Node → Place → ℕ
place_bound p nodes (AtNode k) = bound_at (node_bounds p nodes) k
place_bound p nodes Output = output_bound p (bound_at (node_bounds p nodes) (length nodes - 1))

-- ---- the first place above the limit

-- a bound keeps within a limit
abbrev pub AtMost : ℕ → ℕ → Type 0
AtMost most v = v ≤ most

-- of bounds that stand from place k on, the place of the first that is above `most`
unfoldable pub first_above : ℕ → ℕ → List ℕ → Option ℕ
first_above most k [] = None
first_above most k (v ∷ rest) = if nat_le v most then first_above most (k + 1) rest else Some k

-- a node's place, or else the output's where its bound isn't within the limit
abbrev pub node_or_output : Option ℕ → Bool → Option Place
node_or_output (Some k) within = Some (AtNode k)
node_or_output None true = None
node_or_output None false = Some Output

-- the first place of a circuit whose bound is above the limit; none where the circuit is admitted
unfoldable pub first_over : Numbers → List Node → Option Place
first_over p nodes =
    node_or_output (first_above (limit p) 0 (node_bounds p nodes)) (nat_le (place_bound p nodes Output) (limit p))

-- how many nodes stand before a place
abbrev pub nodes_before : List Node → Place → ℕ
nodes_before nodes (AtNode k) = k
nodes_before nodes Output = length nodes
