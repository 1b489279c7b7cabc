use Rattle.tensor_laws.proofs.Relinearising.{relinearisations_add_little, relinearisations_fit}
use Rattle.tensor_laws.proofs.laws.relinearisations.Goals as goal

pub returns-clause-noise : goal.returns-clause-noise
returns-clause-noise c = relinearisations_add_little

pub returns-clause-fit : goal.returns-clause-fit
returns-clause-fit c = relinearisations_fit
