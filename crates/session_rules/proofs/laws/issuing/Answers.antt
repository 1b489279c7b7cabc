use Rattle.session_rules.proofs.Rest.{calls_leave_rest, histories_leave_rest}
use Rattle.session_rules.proofs.Weights.{issue_ends, issue_is_its_moves, moves_are_few}
use Rattle.session_rules.proofs.laws.issuing.Goals as goal

pub returns-clause-ends : goal.returns-clause-ends
returns-clause-ends c = issue_ends

pub returns-clause-moves : goal.returns-clause-moves
returns-clause-moves c = issue_is_its_moves

pub returns-clause-few : goal.returns-clause-few
returns-clause-few c = moves_are_few

pub returns-clause-calls : goal.returns-clause-calls
returns-clause-calls c = calls_leave_rest

pub returns-clause-histories : goal.returns-clause-histories
returns-clause-histories c = histories_leave_rest
