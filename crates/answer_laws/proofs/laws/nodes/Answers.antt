use Rattle.circuit_laws.proofs.Within.{nodes_carry}
use Rattle.answer_laws.proofs.Belongs.{session_nodes_carry}
use Rattle.answer_laws.proofs.laws.nodes.Goals as goal

pub returns : goal.returns
returns c = session_nodes_carry nodes_carry
