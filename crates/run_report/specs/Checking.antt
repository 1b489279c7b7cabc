-- The text of a check of a script: the limit, and for each circuit the bounds of its places with its
-- plain value, or those up to the first that is above the limit.
use Rattle.std.specs.Prelude.{ℕ, List, ◌++◌, length, codes, decimal, Option, Some, None}
use Rattle.std.specs.List.{range_with_len, flat_map}
use Rattle.circuit_form.specs.declared.node.Node.{Node}
use Rattle.circuit_form.specs.Values.{plain_value}
use Rattle.noise_ledger.specs.declared.over.Place.{Place}
use Rattle.noise_ledger.specs.declared.over.Place.TheVariants.{Node as AtNode, Output}
use Rattle.param_set.specs.Numbers.{Numbers as Bounding}
use Rattle.noise_ledger.specs.Bounds.{limit}
use Rattle.noise_ledger.specs.Ledger.{bound_at, node_bounds, place_bound, first_over, nodes_before}
use Rattle.session_script.specs.Asked.{Asked, Named}
use Rattle.run_report.specs.Values.{value_text}
use Rattle.run_report.specs.Reports.{bounding, place_text}

-- ---- a place with its bound

-- `node K V` or `output V`
unfoldable pub bound_line : Place → ℕ → List ℕ
bound_line place bound = place_text place ++ codes " " ++ decimal bound ++ codes "\n"

-- `node K V over` or `output V over`
unfoldable pub over_line : Place → ℕ → List ℕ
over_line place bound = place_text place ++ codes " " ++ decimal bound ++ codes " over\n"

-- the line of node k
abbrev pub node_line : List ℕ → ℕ → List ℕ
node_line bounds k = bound_line (AtNode k) (bound_at bounds k)

-- the lines of the first nodes, so many
unfoldable pub node_lines : List ℕ → ℕ → List ℕ
node_lines bounds count = flat_map (node_line bounds) (range_with_len 0 count)

-- ---- a circuit

-- `plain V`
unfoldable pub plain_line : List ℕ → List ℕ
plain_line value = codes "plain " ++ value_text value ++ codes "\n"

-- of an admitted circuit all nodes, the output and the plain value; of another one the nodes before the
-- first place whose bound is above the limit, and that place
unfoldable pub verdict_lines : Bounding → List Node → List ℕ → Option Place → List ℕ
verdict_lines p nodes value None =
    node_lines (node_bounds p nodes) (length nodes) ++ bound_line Output (place_bound p nodes Output) ++ plain_line value
verdict_lines p nodes value (Some place) =
    node_lines (node_bounds p nodes) (nodes_before nodes place) ++ over_line place (place_bound p nodes place)

-- `circuit NAME` and what was found
unfoldable pub circuit_check : Bounding → Named → List ℕ
circuit_check p c =
    codes "circuit " ++ c.name ++ codes "\n" ++ verdict_lines p c.nodes (plain_value p.n p.t c.values c.nodes) (first_over p c.nodes)

-- ---- a script: `limit L`, and then its circuits

unfoldable pub check_text : Asked → List ℕ
check_text a = codes "limit " ++ decimal (limit (bounding a)) ++ codes "\n" ++ flat_map (circuit_check (bounding a)) a.circuits
