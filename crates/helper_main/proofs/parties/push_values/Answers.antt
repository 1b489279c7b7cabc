-- Each input that the party owns gets its value, and the others are passed.
use Rattle.std.proofs.Common.{◌≡◌, ◌∙◌, sym, ap, subst, ℕ, ◌+◌, ◌<◌, List, [], length, get_or, arith}
use Rattle.std.specs.List.{slice_get}
use Rattle.circuit_form.specs.declared.node.Node.{Node}
use Rattle.circuit_form.specs.Circuits.{owners}
use Rattle.session_script.specs.Scripts.{asked}
use Rattle.session_script.specs.Asked.{Named}
use Rattle.helper_main.specs.Inputs.{HasOwn, circuit_at, asked_value}
use Rattle.helper_main.proofs.Inputs.{circuit_is, other_owner, same_owner, own_passed, own_pushed, own_next}
use Rattle.helper_main.proofs.parties.push_values.Goals as goal
use Rattle.helper_main.proofs.parties.push_values.Goals.{then-eq+in_ok-value+in_ok-push, else-eq}

pub inputs-preserved : goal.inputs-preserved
inputs-preserved c =
    let a = asked c.args.script.now in
    let at = circuit_is a c.args.c c.index-as_slice-c.result c.as_slice.result.now c.as_slice.ensures c.requires.there c.index-as_slice-c.is in
    let first : c.deref.result.now ≡ (circuit_at a c.args.c).nodes = c.deref.ensures ∙ c.circuit.ensures ∙ sym (ap (λ (z : Named). z.nodes) at) in
    let again : c.deref-in-inputs.result.now ≡ (circuit_at a c.args.c).nodes = c.deref-in-inputs.ensures ∙ c.circuit-in-inputs.ensures ∙ sym (ap (λ (z : Named). z.nodes) at) in
    let count = ap (λ (z : List Node). length (owners z)) first in
    let within : c.inputs.k < length (owners (circuit_at a c.args.c).nodes) = omega (arith, c.inputs-test.true, c.inputs-k-end.ensures, count) in
    let owner = c.owner.ensures ∙ ap (λ (z : List Node). slice_get (owners z) c.inputs.k) again in
    elim c.if-eq.branch [
      | then-eq+in_ok-value+in_ok-push w ↦
          let own = same_owner a c.args.p c.args.c c.inputs.k c.owner.result w.if-eq.ensures owner in
          let told = w.deref-then-eq.ensures ∙ w.values.ensures ∙ sym (ap (λ (z : Named). z.values) at) in
          let value : w.from_vec.result ≡ asked_value a c.args.c c.inputs.k =
          w.from_vec.ensures ∙ w.in_ok-value.ensures.items ∙ w.coeffs.ensures ∙ w.at.ensures ∙ ap (λ (z : List (List ℕ)). get_or z c.inputs.k []) told in
          own_pushed a c.args.p c.args.c c.inputs.k w.from_vec.result c.inputs.values c.if-eq.values c.requires.accepted.named c.requires.there within own value (w.values-is ∙ w.in_ok-push.ensures.ok) c.inputs.invariant
      | else-eq w ↦
          let h = own_passed a c.args.p c.args.c c.inputs.k c.inputs.values (other_owner a c.args.p c.args.c c.inputs.k c.owner.result w.if-eq.ensures owner) c.inputs.invariant in
          subst (HasOwn a c.args.p c.args.c (c.inputs.k + 1)) (sym w.values-is) h
    ]

pub returns : goal.returns
returns c =
    let a = asked c.args.script.now in
    let at = circuit_is a c.args.c c.index-as_slice-c.result c.as_slice.result.now c.as_slice.ensures c.requires.there c.index-as_slice-c.is in
    let first : c.deref.result.now ≡ (circuit_at a c.args.c).nodes = c.deref.ensures ∙ c.circuit.ensures ∙ sym (ap (λ (z : Named). z.nodes) at) in
    let count = ap (λ (z : List Node). length (owners z)) first in
    own_next a c.args.p c.args.c c.inputs.k c.inputs.values (omega (arith, c.inputs-test.false, c.inputs-k-end.ensures, count)) c.inputs.invariant
