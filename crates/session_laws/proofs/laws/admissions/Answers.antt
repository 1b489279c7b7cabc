use Rattle.session_laws.proofs.Admissions.{rules_ask_the_ledger}
use Rattle.session_laws.proofs.laws.admissions.Goals as goal

pub returns : goal.returns
returns c = rules_ask_the_ledger
