-- The party has what it owns before input k.
use Rattle.session_script.specs.Scripts.{asked}
use Rattle.helper_main.specs.Inputs.{HasOwn}
use Rattle.helper_main.proofs.parties.push_values.Given as goal

abbrev pub invariant-inputs : goal.invariant-inputs
invariant-inputs l = HasOwn (asked l.script) l.p l.c l.k l.values
