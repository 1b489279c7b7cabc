-- A rotation at a place is among the nodes; a node that is none leaves none among those passed.
use Rattle.std.proofs.Common.{sym, ◌∙◌}
use Rattle.std.proofs.lemmas.Map.Keys.{any_passes_from_place}
use Rattle.cipher_spec.specs.Ciphers.{is_rotation}
use Rattle.circuit_runner.proofs.SwitchFree.{none_further}
use Rattle.circuit_runner.proofs.free.has_rotation.Goals as goal

pub returns-then-is_rotation : goal.returns-then-is_rotation
returns-then-is_rotation c =
    let here = sym c.is_rotation.ensures ∙ c.if-is_rotation.true in
    sym (any_passes_from_place is_rotation c.args.circuit.now c.nodes.k c.in-Some.node.now (sym c.in-Some.ensures) here)

pub nodes-preserved : goal.nodes-preserved
nodes-preserved c =
    let other = sym c.is_rotation.ensures ∙ c.if-is_rotation.false in
    none_further c.args.circuit.now c.nodes.k c.in-Some.node.now (sym c.in-Some.ensures) other c.nodes.invariant
