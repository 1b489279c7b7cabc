-- The nodes passed may stand, so that the first wrong one is among those that are left.
use Rattle.std.proofs.Common.{◌≡◌, drop}
use Rattle.circuit_form.specs.Circuits.{first_wrong}
use Rattle.circuit_form.proofs.rules.first_wrong.Given as goal

abbrev pub invariant-nodes : goal.invariant-nodes
invariant-nodes l = record {
  count : l.k ≡ l.node-index;
  left : first_wrong l.params.n l.params.t l.params.parties l.k (drop l.node-index l.nodes) ≡ first_wrong l.params.n l.params.t l.params.parties 0 l.nodes;
}
