use Rattle.std.proofs.Common.{◌≡◌, map, take}
use Rattle.session_spec.specs.Stores.{no_inputs}
use Rattle.session_state.specs.Parts.{ciphers_in}
use Rattle.session_state.proofs.opening.no_inputs_of.Given as goal

abbrev pub invariant-circuits : goal.invariant-circuits
invariant-circuits l = map ciphers_in l.inputs.items ≡ map no_inputs (take l.place l.fn.circuits)
