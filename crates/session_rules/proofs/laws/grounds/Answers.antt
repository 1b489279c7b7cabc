use Rattle.session_rules.proofs.Grounds.{calls_ground, histories_ground}
use Rattle.session_rules.proofs.Whole.{circuits_are_whole}
use Rattle.session_rules.proofs.laws.grounds.Goals as goal

pub returns-clause-calls : goal.returns-clause-calls
returns-clause-calls c = calls_ground

pub returns-clause-histories : goal.returns-clause-histories
returns-clause-histories c = histories_ground

pub returns-clause-whole : goal.returns-clause-whole
returns-clause-whole c = circuits_are_whole
