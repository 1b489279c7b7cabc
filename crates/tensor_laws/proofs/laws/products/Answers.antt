use Rattle.tensor_laws.proofs.Rounding.{products_are_wrapped}
use Rattle.tensor_laws.proofs.Relinearising.{tensors_fit}
use Rattle.tensor_laws.proofs.laws.products.Goals as goal

pub returns-clause-wrapped : goal.returns-clause-wrapped
returns-clause-wrapped c = products_are_wrapped

pub returns-clause-fit : goal.returns-clause-fit
returns-clause-fit c = tensors_fit
