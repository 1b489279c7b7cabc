-- A circuit that is ready has its inputs.
use Rattle.std.proofs.Common.{◌≡◌, ◌∙◌, sym, ap, ◌<◌, true, [], length, map, get_or, slice_index_or, Option, arith}
use Rattle.std.specs.Prelude.{None}
use Rattle.std.proofs.lemmas.List.{ext_get_or, get_or-map, length-map}
use Rattle.std.proofs.lemmas.List.FromFn.{get_or-map-range_with_len, length-map-range_with_len}
use Rattle.ring_spec.specs.Pairs.{Cipher}
use Rattle.cipher_spec.specs.Ciphers.{no_cipher}
use Rattle.session_rules.specs.States.{is_given}
use Rattle.session_rules.proofs.Readiness.{all_at, ready_is}
use Rattle.session_spec.specs.Settings.{rules, input_count}
use Rattle.session_spec.specs.Outputs.{key_in, input_of, inputs_of}
use Rattle.session_spec.specs.Stores.{cipher_or}
use Rattle.session_laws.specs.Laws.{ReadyOnesHaveInputs}
use Rattle.session_laws.proofs.Plans.{plan_inputs}
use Rattle.session_laws.proofs.Cells.{row_number}

pub ready_ones_have_inputs : ReadyOnesHaveInputs
ready_ones_have_inputs p w seeds s h c y l e =
    let all = (ready_is (rules w) s c e).given in
    let key = key_in w seeds s.instances in
    let row = get_or h.inputs c [] in
    let many : length row ≡ input_count w c = row_number w s h c y.matches l in
    let marks : length (slice_index_or s.given c []) ≡ input_count w c = y.grounded.rows c ∙ plan_inputs w c in
    let honest = y.honest in
    ext_get_or no_cipher (map cipher_or row) (inputs_of w seeds key c)
    (length-map row cipher_or ∙ many ∙ sym (length-map-range_with_len (input_of w seeds key c) 0 (input_count w c)))
    (λ k m.
    let within : k < input_count w c = omega (arith, length-map row cipher_or) in
    let given : is_given s c k ≡ true = all_at (slice_index_or s.given c []) k all (omega arith) in
    get_or-map cipher_or row k None no_cipher (omega arith)
    ∙ ap (λ (z : Option Cipher). cipher_or z) (honest.inputs c k given)
    ∙ sym (get_or-map-range_with_len (input_of w seeds key c) 0 (input_count w c) k k no_cipher within (omega arith)))
