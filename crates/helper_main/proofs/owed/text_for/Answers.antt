-- A script that is taken has circuits without key switches.
use Rattle.session_script.specs.Scripts.{asked}
use Rattle.helper_main.proofs.Taken.{taken-free}
use Rattle.helper_main.proofs.owed.text_for.Goals as goal

pub report-requires-clause-free : goal.report-requires-clause-free
report-requires-clause-free c = taken-free (asked c.args.script.now) c.requires.taken
