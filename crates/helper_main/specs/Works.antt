-- What is done with a script: which scripts are taken, and the text that is owed for one.
use Rattle.std.specs.Prelude.{ℕ, Bool, false, if◌then◌else◌, List, codes, Result, Ok, Err}
use Rattle.session_script.specs.Asked.{Asked}
use Rattle.session_script.specs.Scripts.{Refusal}
use Rattle.run_report.specs.Refusals.{refusal_line}
use Rattle.run_report.specs.Checking.{check_text}
use Rattle.helper_main.specs.declared.work.Work.{Work}
use Rattle.helper_main.specs.declared.work.Work.TheVariants.{Run, Check}
use Rattle.headline.specs.History.{are_free}
use Rattle.helper_main.specs.Runs.{serial_report}

-- ---- which scripts

-- whether a script is taken: no circuit has a rotation or a product of two nodes neither of which is a constant
unfoldable pub takes : Asked → Bool
takes a = are_free a.circuits

-- ---- what is owed

-- the text for a script that is taken
unfoldable pub text_for : Work → Asked → List ℕ
text_for Run a = serial_report a
text_for Check a = check_text a

abbrev pub refused_form : List ℕ
refused_form = codes "refused form\n"

-- the text for bytes that were read whole, by what they spell
unfoldable pub owed : Work → Result Asked Refusal → List ℕ
owed work (Ok a) = if takes a then text_for work a else refused_form
owed work (Err refusal) = refusal_line refusal.line refusal.reason

-- whether a work is done for them
unfoldable pub is_done : Result Asked Refusal → Bool
is_done (Ok a) = takes a
is_done (Err refusal) = false
