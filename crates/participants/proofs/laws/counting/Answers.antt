use Rattle.participants.proofs.Raising.{loads_rise, loads_are_few}
use Rattle.participants.proofs.laws.counting.Goals as goal

pub returns-clause-rise : goal.returns-clause-rise
returns-clause-rise c = loads_rise

pub returns-clause-few : goal.returns-clause-few
returns-clause-few c = loads_are_few
