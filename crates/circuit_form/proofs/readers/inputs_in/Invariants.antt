-- The inputs counted and those that are left are all inputs.
use Rattle.std.proofs.Common.{◌≡◌, ◌+◌, ◌≤◌, length, drop}
use Rattle.circuit_form.specs.Circuits.{owners}
use Rattle.circuit_form.proofs.readers.inputs_in.Given as goal

abbrev pub invariant-nodes : goal.invariant-nodes
invariant-nodes l = record {
  few : l.count ≤ l.node-index;
  whole : l.count + length (owners (drop l.node-index l.nodes)) ≡ length (owners l.nodes);
}
