-- The place is one of the circuit's, so that its node is there and may stand there.
use Rattle.std.proofs.Common.{length, arith, sym}
use Rattle.circuit_form.proofs.Standing.{is_circuit, each_stands}
use Rattle.noise_ledger.specs.Bounds.{numbers_for}
use Rattle.noise_ledger.proofs.Walks.{bounds_next, node_there}
use Rattle.noise_ledger.proofs.ledger.next_bound.Goals as goal

pub overflow_cast-done : goal.overflow_cast-done
overflow_cast-done c =
    let p = c.args.params.now in
    omega (arith, (is_circuit p.n p.t p.parties c.args.circuit.now c.requires.circuit).few)

pub node_bound-requires-clause-stands : goal.node_bound-requires-clause-stands
node_bound-requires-clause-stands c =
    let p = c.args.params.now in
    each_stands p.n p.t p.parties (length c.args.done.now) c.args.circuit.now c.in-Some.node.now c.requires.circuit (sym c.in-Some.ensures)

pub unreachable-requires : goal.unreachable-requires
unreachable-requires c =
    node_there c.args.circuit.now (length c.args.done.now) c.requires.more (sym c.in-None.ensures)

pub returns : goal.returns
returns c = record {
  next = bounds_next (numbers_for c.args.params.now c.args.threshold) c.args.circuit.now c.args.done.now (length c.args.done.now) c.node_bound.result c.in-Some.node.now (sym c.in-Some.ensures) c.node_bound.ensures;
}
