-- The nodes passed have their polynomials, and what follows from these and the nodes that are left
-- is the values of all.
use Rattle.std.proofs.Common.{◌≡◌, ◌+◌, ◌≤◌, [], length, drop}
use Rattle.std.specs.Prelude.{All, None}
use Rattle.ring_spec.specs.Ring.{IsPoly}
use Rattle.circuit_form.specs.Circuits.{first_wrong, owners}
use Rattle.circuit_form.specs.Values.{values_from}
use Rattle.circuit_form.proofs.values.node_values.Given as goal

abbrev pub invariant-nodes : goal.invariant-nodes
invariant-nodes l = record {
  count : length l.done.items ≡ l.node-index;
  passed : l.given ≤ l.node-index;
  stand : first_wrong l.params.n l.params.t l.params.parties l.node-index (drop l.node-index l.nodes) ≡ None;
  enough : l.given + length (owners (drop l.node-index l.nodes)) ≡ length l.inputs;
  fit : All (IsPoly l.params.t l.params.n) l.done.items;
  whole : values_from l.params.n l.params.t l.inputs l.done.items l.given (drop l.node-index l.nodes) ≡ values_from l.params.n l.params.t l.inputs [] 0 l.nodes;
}
