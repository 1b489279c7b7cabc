use Rattle.circuit_laws.proofs.SwitchFree.{keys_are_not_used, any_keys_serve, no_factors_to_keep}
use Rattle.circuit_laws.proofs.laws.switch_free.Goals as goal

pub returns-clause-same : goal.returns-clause-same
returns-clause-same c = keys_are_not_used

pub returns-clause-keys : goal.returns-clause-keys
returns-clause-keys c = any_keys_serve

pub returns-clause-factors : goal.returns-clause-factors
returns-clause-factors c = no_factors_to_keep
