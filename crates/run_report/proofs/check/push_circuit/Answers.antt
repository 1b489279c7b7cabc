-- A circuit has at most as many nodes as there is room for.
use Rattle.std.proofs.Common.{◌≡◌, ◌∙◌, ap, length, arith}
use Rattle.std.proofs.lemmas.Grind.{common_steps}
use Rattle.circuit_form.proofs.Standing.{is_circuit}
use Rattle.run_report.proofs.check.push_circuit.Goals as goal

pub slice_bounds-bounds-end : goal.slice_bounds-bounds-end
slice_bounds-bounds-end c =
    let p = c.args.params.now in
    let few = (is_circuit p.n p.t p.parties c.args.named.now.nodes c.requires.rules).few in
    let count : length c.deref.result.now ≡ length c.args.named.now.nodes = ap length (c.deref.ensures ∙ c.circuit-circuit.ensures) in
    omega (arith, few, c.len.ensures, count)

pub slice_bounds-places-end : goal.slice_bounds-places-end
slice_bounds-places-end c =
    let p = c.args.params.now in
    let few = (is_circuit p.n p.t p.parties c.args.named.now.nodes c.requires.rules).few in
    let count : length c.deref.result.now ≡ length c.args.named.now.nodes = ap length (c.deref.ensures ∙ c.circuit-circuit.ensures) in
    grind (arith, common_steps, few, c.len.ensures, count)

pub push_verdict-requires-clause-places : goal.push_verdict-requires-clause-places
push_verdict-requires-clause-places c =
    let p = c.args.params.now in
    let few = (is_circuit p.n p.t p.parties c.args.named.now.nodes c.requires.rules).few in
    let count : length c.deref.result.now ≡ length c.args.named.now.nodes = ap length (c.deref.ensures ∙ c.circuit-circuit.ensures) in
    let again : length c.deref-2.result.now ≡ length c.args.named.now.nodes = ap length (c.deref-2.ensures ∙ c.circuit-circuit.ensures) in
    grind (arith, common_steps, few, c.len.ensures, count, again)
