use Rattle.std.proofs.Common.{arith}
use Rattle.std.proofs.lemmas.Grind.{common_steps}
use Rattle.circuit_form.proofs.Standing.{is_circuit}
use Rattle.session_rules.proofs.fixing.opening_of.Goals as goal

pub slice_bounds-bounds-end : goal.slice_bounds-bounds-end
slice_bounds-bounds-end c =
    let p = c.args.params.now in
    let few = (is_circuit p.n p.t p.parties c.args.circuit.now c.requires).few in
    omega (arith, few, c.len.ensures)

pub slice_bounds-admit-end : goal.slice_bounds-admit-end
slice_bounds-admit-end c =
    let p = c.args.params.now in
    let few = (is_circuit p.n p.t p.parties c.args.circuit.now c.requires).few in
    grind (arith, common_steps, few, c.len.ensures)

pub admit-requires-clause-places : goal.admit-requires-clause-places
admit-requires-clause-places c =
    let p = c.args.params.now in
    let few = (is_circuit p.n p.t p.parties c.args.circuit.now c.requires).few in
    grind (arith, common_steps, few, c.len.ensures)
