use Rattle.session_rules.proofs.Presence.{few_are_issued, histories_issue_few}
use Rattle.session_rules.proofs.Runs.{legal_ones_grow, next_state, beginnings_are_legal, states_lead_on, later_ones_follow, taken_stays_on}
use Rattle.session_rules.proofs.laws.histories.Goals as goal

pub returns-clause-grow : goal.returns-clause-grow
returns-clause-grow c = legal_ones_grow

pub returns-clause-next : goal.returns-clause-next
returns-clause-next c = next_state

pub returns-clause-beginnings : goal.returns-clause-beginnings
returns-clause-beginnings c = beginnings_are_legal

pub returns-clause-states : goal.returns-clause-states
returns-clause-states c = states_lead_on

pub returns-clause-later : goal.returns-clause-later
returns-clause-later c = later_ones_follow

pub returns-clause-taken : goal.returns-clause-taken
returns-clause-taken c = taken_stays_on

pub returns-clause-call_issues_few : goal.returns-clause-call_issues_few
returns-clause-call_issues_few c = few_are_issued

pub returns-clause-few : goal.returns-clause-few
returns-clause-few c = histories_issue_few
