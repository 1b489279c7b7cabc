use Rattle.tensor_laws.proofs.Products.{tensors_carry, products_carry}
use Rattle.tensor_laws.proofs.laws.noise.Goals as goal

pub returns-clause-tensors : goal.returns-clause-tensors
returns-clause-tensors c = tensors_carry

pub returns-clause-products : goal.returns-clause-products
returns-clause-products c = products_carry
