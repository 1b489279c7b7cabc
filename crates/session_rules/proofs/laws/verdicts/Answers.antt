use Rattle.session_rules.proofs.Judged.{judged, refusals_do_nothing, nothing_is_done}
use Rattle.session_rules.proofs.laws.verdicts.Goals as goal

pub returns-clause-allowed : goal.returns-clause-allowed
returns-clause-allowed c = judged

pub returns-clause-refusals : goal.returns-clause-refusals
returns-clause-refusals c = refusals_do_nothing

pub returns-clause-nothing : goal.returns-clause-nothing
returns-clause-nothing c = nothing_is_done
