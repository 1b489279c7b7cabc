use Rattle.session_rules.proofs.Keeps.{calls_leave, histories_leave}
use Rattle.session_rules.proofs.Presence.{taken_stays}
use Rattle.session_rules.proofs.Grounds.{refused_ones_began_so}
use Rattle.session_rules.proofs.Deliveries.{keys_stay, first_rounds_stay}
use Rattle.session_rules.proofs.laws.constancy.Goals as goal

pub returns-clause-calls : goal.returns-clause-calls
returns-clause-calls c = calls_leave

pub returns-clause-histories : goal.returns-clause-histories
returns-clause-histories c = histories_leave

pub returns-clause-keys : goal.returns-clause-keys
returns-clause-keys c = keys_stay

pub returns-clause-first_rounds : goal.returns-clause-first_rounds
returns-clause-first_rounds c = first_rounds_stay

pub returns-clause-taken : goal.returns-clause-taken
returns-clause-taken c = taken_stays

pub returns-clause-refused : goal.returns-clause-refused
returns-clause-refused c = refused_ones_began_so
