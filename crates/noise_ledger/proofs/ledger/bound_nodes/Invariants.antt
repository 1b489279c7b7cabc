-- The nodes passed have their bounds, all within the limit, and what follows from these and the nodes
-- that are left is the bounds of all; the buffer's other places are as they were.
use Rattle.std.proofs.Common.{◌≡◌, drop, take}
use Rattle.std.specs.Prelude.{All}
use Rattle.noise_ledger.specs.Bounds.{numbers_for, limit}
use Rattle.noise_ledger.specs.Ledger.{AtMost, bounds_from, node_bounds}
use Rattle.noise_ledger.proofs.ledger.bound_nodes.Given as goal

abbrev pub invariant-nodes : goal.invariant-nodes
invariant-nodes l = record {
  within : All (AtMost (limit (numbers_for l.params l.threshold))) (take l.k l.bounds);
  whole : bounds_from (numbers_for l.params l.threshold) l.circuit (take l.k l.bounds) (drop l.k l.circuit) ≡ node_bounds (numbers_for l.params l.threshold) l.circuit;
  later : drop l.k l.bounds ≡ drop l.k l.initial.bounds;
}
