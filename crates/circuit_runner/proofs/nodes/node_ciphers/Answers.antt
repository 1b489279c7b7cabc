-- The node at the place may stand there and needs no key switch, and its ciphertext goes behind those done.
use Rattle.std.proofs.Common.{length, sym, arith, ◌∙◌}
use Rattle.std.proofs.lemmas.Grind.{common_steps}
use Rattle.circuit_form.proofs.Standing.{each_stands, is_circuit}
use Rattle.param_set.specs.Numbers.{numbers_of}
use Rattle.cipher_spec.specs.Keys.{no_keys}
use Rattle.cipher_spec.specs.Ciphers.{ciphers_from}
use Rattle.circuit_runner.proofs.SwitchFree.{not_full, no_rotation}
use Rattle.circuit_runner.proofs.Walk.{enough_next, ciphers_past}
use Rattle.circuit_runner.proofs.nodes.node_ciphers.Goals as goal

pub node_cipher-requires-clause-stands : goal.node_cipher-requires-clause-stands
node_cipher-requires-clause-stands c =
    let p = c.args.ring.now.params in
    rw (c.as_slice.ensures.value, c.nodes.invariant.count) (each_stands p.n p.t p.parties c.nodes.k c.args.circuit.now c.in-Some.node.now c.requires.circuit (sym c.in-Some.ensures))

pub node_cipher-requires-clause-not_full : goal.node_cipher-requires-clause-not_full
node_cipher-requires-clause-not_full c =
    not_full c.args.circuit.now c.nodes.k c.in-Some.node.now c.requires.switch_free (sym c.in-Some.ensures)

pub node_cipher-requires-clause-no_rotation : goal.node_cipher-requires-clause-no_rotation
node_cipher-requires-clause-no_rotation c =
    no_rotation c.args.circuit.now c.nodes.k c.in-Some.node.now c.requires.switch_free (sym c.in-Some.ensures)

pub node_cipher-requires-clause-enough : goal.node_cipher-requires-clause-enough
node_cipher-requires-clause-enough c =
    let left = enough_next c.nodes.given c.nodes.k (length c.args.inputs.now) c.args.circuit.now c.in-Some.node.now (sym c.in-Some.ensures) c.nodes.invariant.enough in
    omega arith

pub given_after-given-requires : goal.given_after-given-requires
given_after-given-requires c =
    let p = c.args.ring.now.params in
    let few = (is_circuit p.n p.t p.parties c.args.circuit.now c.requires.circuit).few in
    omega (arith, few, c.nodes.invariant.passed, c.nodes-test.true, c.len-k-end.ensures)

pub nodes-preserved : goal.nodes-preserved
nodes-preserved c =
    let p = c.args.ring.now.params in
    let nodes = c.args.circuit.now in
    let k = c.nodes.k in
    let node = c.in-Some.node.now in
    let at = sym c.in-Some.ensures in
    record {
      count = grind (arith, common_steps);
      passed = omega (arith, c.given_after-given.ensures.one_more, c.nodes.invariant.passed);
      enough = rw c.given_after-given.ensures.value (enough_next c.nodes.given k (length c.args.inputs.now) nodes node at c.nodes.invariant.enough);
      fit = grind (arith, common_steps);
      whole = rw (c.in_ok-push-in-Some.ensures.items, c.in_ok-cipher-in-Some.ensures.value, c.as_slice.ensures.value, c.given_after-given.ensures.value) (ciphers_past (numbers_of p) no_keys c.args.inputs.now nodes c.nodes.done.items c.nodes.given k node at ∙ c.nodes.invariant.whole);
    }

pub returns-clause-values : goal.returns-clause-values
unfolding ciphers_from
returns-clause-values c = grind (arith, common_steps, c.nodes.invariant.whole)
