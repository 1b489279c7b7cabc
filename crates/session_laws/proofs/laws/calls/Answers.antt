use Rattle.session_laws.proofs.Calls.{calls_keep_honest, shares_are_brought, inputs_are_brought, outputs_are_brought}
use Rattle.session_laws.proofs.laws.calls.Goals as goal

pub returns-clause-honest : goal.returns-clause-honest
returns-clause-honest c = calls_keep_honest

pub returns-clause-shares : goal.returns-clause-shares
returns-clause-shares c = shares_are_brought

pub returns-clause-inputs : goal.returns-clause-inputs
returns-clause-inputs c = inputs_are_brought

pub returns-clause-outputs : goal.returns-clause-outputs
returns-clause-outputs c = outputs_are_brought
