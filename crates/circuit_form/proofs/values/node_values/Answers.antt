-- The node at the place may stand there, and its polynomial goes behind those done.
use Rattle.std.proofs.Common.{◌<◌, length, arith, ◌∙◌}
use Rattle.std.proofs.lemmas.Grind.{common_steps}
use Rattle.circuit_form.specs.Values.{values_from}
use Rattle.circuit_form.proofs.Steps.{absent_at, stands_at, stands_past, enough_past, values_past}
use Rattle.circuit_form.proofs.values.node_values.Goals as goal

pub node_value-requires-clause-absent : goal.node_value-requires-clause-absent
node_value-requires-clause-absent c =
    absent_at c.args.wide.now c.args.nodes.now c.nodes.node-index c.node-item.result (omega arith) c.node-item.is c.requires.absent

pub node_value-requires-clause-stands : goal.node_value-requires-clause-stands
node_value-requires-clause-stands c =
    let p = c.args.params.now in
    rw (c.as_slice.ensures.value, c.nodes.invariant.count) (stands_at p.n p.t p.parties c.nodes.node-index c.args.nodes.now c.node-item.result (omega arith) c.node-item.is c.nodes.invariant.stand)

pub node_value-requires-clause-enough : goal.node_value-requires-clause-enough
node_value-requires-clause-enough c =
    let left = enough_past c.nodes.given c.nodes.node-index (length c.args.inputs.now) c.args.nodes.now c.node-item.result (omega arith) c.node-item.is c.nodes.invariant.enough in
    omega arith

pub nodes-preserved : goal.nodes-preserved
nodes-preserved c =
    let p = c.args.params.now in
    let xs = c.args.nodes.now in
    let i = c.nodes.node-index in
    let node = c.node-item.result in
    let within : i < length xs = omega arith in
    record {
      count = grind (arith, common_steps);
      passed = omega arith;
      stand = stands_past p.n p.t p.parties i xs node within c.node-item.is c.nodes.invariant.stand;
      enough = rw c.given_after-given.ensures.value (enough_past c.nodes.given i (length c.args.inputs.now) xs node within c.node-item.is c.nodes.invariant.enough);
      fit = grind (arith, common_steps);
      whole = rw (c.in_ok-push.ensures.items, c.in_ok-value.ensures.value, c.as_slice.ensures.value, c.given_after-given.ensures.value) (values_past p.n p.t c.args.inputs.now c.nodes.done.items c.nodes.given i xs node within c.node-item.is ∙ c.nodes.invariant.whole);
    }

pub returns-clause-values : goal.returns-clause-values
unfolding values_from
returns-clause-values c = grind (arith, common_steps, c.nodes.invariant.whole)
