use Rattle.session_laws.proofs.Constancy.{histories_lead_on, the_key_stays, inputs_stay, ready_ones_stay, issued_ones_stay}
use Rattle.session_laws.proofs.laws.longer_histories.Goals as goal

pub returns-clause-histories : goal.returns-clause-histories
returns-clause-histories c = histories_lead_on

pub returns-clause-key : goal.returns-clause-key
returns-clause-key c = the_key_stays

pub returns-clause-inputs : goal.returns-clause-inputs
returns-clause-inputs c = inputs_stay

pub returns-clause-ready : goal.returns-clause-ready
returns-clause-ready c = ready_ones_stay

pub returns-clause-issued : goal.returns-clause-issued
returns-clause-issued c = issued_ones_stay
