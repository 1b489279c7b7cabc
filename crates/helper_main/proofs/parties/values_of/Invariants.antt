-- The party has what it owns before circuit c.
use Rattle.session_script.specs.Scripts.{asked}
use Rattle.helper_main.specs.Inputs.{HasOwn}
use Rattle.helper_main.proofs.parties.values_of.Given as goal

abbrev pub invariant-circuits : goal.invariant-circuits
invariant-circuits l = HasOwn (asked l.script) l.p l.c 0 l.values
