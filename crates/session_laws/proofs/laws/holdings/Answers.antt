use Rattle.session_laws.proofs.HeldKeys.{held_keys_are_keys, circuits_have_their_keys}
use Rattle.session_laws.proofs.Inputs.{ready_ones_have_inputs}
use Rattle.session_laws.proofs.laws.holdings.Goals as goal

pub returns-clause-key : goal.returns-clause-key
returns-clause-key c = held_keys_are_keys

pub returns-clause-keys : goal.returns-clause-keys
returns-clause-keys c = circuits_have_their_keys

pub returns-clause-inputs : goal.returns-clause-inputs
returns-clause-inputs c = ready_ones_have_inputs
