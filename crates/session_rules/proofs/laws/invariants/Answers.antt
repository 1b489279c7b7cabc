use Rattle.session_rules.proofs.Keeps.{calls_keep, histories_keep}
use Rattle.session_rules.proofs.Presence.{parties_are_present}
use Rattle.session_rules.proofs.laws.invariants.Goals as goal

pub returns-clause-calls : goal.returns-clause-calls
returns-clause-calls c = calls_keep

pub returns-clause-histories : goal.returns-clause-histories
returns-clause-histories c = histories_keep

pub returns-clause-present : goal.returns-clause-present
returns-clause-present c = parties_are_present
