use Rattle.circuit_laws.proofs.Outputs.{outputs_carry}
use Rattle.circuit_laws.proofs.laws.outputs.Goals as goal

pub returns : goal.returns
returns c = outputs_carry
