-- The owner sought is that of an input which is left, by as many inputs earlier as were passed.
use Rattle.std.proofs.Common.{◌≡◌, drop}
use Rattle.std.specs.List.{slice_get}
use Rattle.circuit_form.specs.Circuits.{owners}
use Rattle.circuit_form.proofs.readers.owner_in.Given as goal

abbrev pub invariant-nodes : goal.invariant-nodes
invariant-nodes l = slice_get (owners (drop l.node-index l.nodes)) l.left ≡ slice_get (owners l.nodes) l.k
