-- A circuit has a last node.
use Rattle.std.proofs.Common.{arith, ◌∙◌}
use Rattle.circuit_form.proofs.Standing.{is_circuit}
use Rattle.noise_ledger.specs.Bounds.{numbers_for}
use Rattle.noise_ledger.proofs.Walks.{output_is}
use Rattle.noise_ledger.proofs.ledger.bound_output.Goals as goal

pub overflow_sub-bounds : goal.overflow_sub-bounds
overflow_sub-bounds c =
    let p = c.args.params.now in
    omega (arith, (is_circuit p.n p.t p.parties c.args.circuit.now c.requires.circuit).some, c.requires.places)

pub bounds-bounds-bounds : goal.bounds-bounds-bounds
bounds-bounds-bounds c =
    let p = c.args.params.now in
    omega (arith, (is_circuit p.n p.t p.parties c.args.circuit.now c.requires.circuit).some, c.requires.places)

pub returns : goal.returns
returns c = c.output_bound_for.ensures.value ∙ output_is (numbers_for c.args.params.now c.args.threshold) c.args.circuit.now c.args.bounds.now c.requires.bounds c.requires.places
