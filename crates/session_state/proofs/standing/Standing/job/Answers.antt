use Rattle.std.proofs.Common.{◌≡◌, ◌∙◌, sym, ap, subst, refl, ◌<◌, List, [], length, map, get_or, Option, None, arith}
use Rattle.std.proofs.lemmas.List.{length-map}
use Rattle.ring_spec.specs.Pairs.{Cipher, CipherFits}
use Rattle.std.specs.Prelude.{All}
use Rattle.circuit_form.specs.declared.node.Node.{Node}
use Rattle.circuit_form.specs.Circuits.{first_fault, owners}
use Rattle.session_spec.specs.Settings.{Offer, nodes_at}
use Rattle.session_spec.specs.Stores.{cipher_or}
use Rattle.session_state.specs.Parts.{ciphers_in}
use Rattle.session_state.specs.Standings.{setting, state, store}
use Rattle.session_state.proofs.Rows.{inputs_number, row_is}
use Rattle.session_state.proofs.Takings.{has_inputs, all_there, all_fit, circuit_keeps}
use Rattle.session_state.proofs.standing.Standing.job.Goals as goal

pub index-requires : goal.index-requires
index-requires c =
    let st = c.args.self.now in
    omega (arith, c.requires.there, inputs_number (setting st) (state st) (store st) st.matches, length-map st.inputs.items ciphers_in, st.inputs.ok.0)

pub gathered-requires : goal.gathered-requires
gathered-requires c =
    let st = c.args.self.now in
    let there : c.args.number < length st.inputs.items = omega (arith, c.requires.there, inputs_number (setting st) (state st) (store st) st.matches, length-map st.inputs.items ciphers_in) in
    all_there st.params (setting st) (store st) c.args.number st.inputs.items c.index.result.now
    (has_inputs st.params (setting st) (state st) (store st) c.args.number st.matches st.holds c.requires.grounded c.requires.there c.requires.ready) refl there c.index.ensures

pub returns : goal.returns
returns c =
    let st = c.args.self.now in
    let w = setting st in
    let h = store st in
    let number = c.args.number in
    let there : number < length st.inputs.items = omega (arith, c.requires.there, inputs_number w (state st) h st.matches, length-map st.inputs.items ciphers_in) in
    let has = has_inputs st.params w (state st) h number st.matches st.holds c.requires.grounded c.requires.there c.requires.ready in
    let keeps = circuit_keeps st.params w number st.setting_is c.requires.there in
    let nodes : c.in_ok-circuit.circuit.value ≡ nodes_at w number = c.in_ok-circuit.ensures ∙ ap (λ (z : Offer). z.nodes) (c.behind-self.view_is ∙ c.at.ensures) in
    let inputs : c.in_ok-inputs.inputs ≡ map cipher_or (get_or h.inputs number []) =
    c.in_ok-inputs.ensures ∙ ap (λ (z : List (Option Cipher)). map cipher_or z) (sym (row_is st.inputs.items number c.index.result.now there c.index.ensures)) in
    record {
      circuit = record { number = refl; circuit = nodes; inputs = inputs };
      ready = record {
        circuit = subst (λ (z : List Node). first_fault st.params.n st.params.t st.params.parties z ≡ None) (sym nodes) keeps.rules;
        count = ap length inputs ∙ length-map (get_or h.inputs number []) cipher_or ∙ has.number ∙ sym (ap (λ (z : List Node). length (owners z)) nodes);
        inputs = subst (λ (z : List Cipher). All (CipherFits st.params.q st.params.n) z) (sym inputs) (all_fit st.params w h number has);
      };
    }
