use Rattle.circuit_laws.proofs.Outputs.{outputs_carry}
use Rattle.circuit_laws.proofs.Within.{nodes_carry}
use Rattle.answer_laws.proofs.Answers.{answers_are_plain_by_keys}
use Rattle.answer_laws.proofs.Belongs.{session_nodes_carry_by_keys}
use Rattle.answer_laws.proofs.HeldKeys.{begun_ones_have_keys}
use Rattle.answer_laws.proofs.laws.by_keys.Goals as goal

pub returns-clause-begun : goal.returns-clause-begun
returns-clause-begun c = begun_ones_have_keys

pub returns-clause-answers : goal.returns-clause-answers
returns-clause-answers c = answers_are_plain_by_keys outputs_carry

pub returns-clause-nodes : goal.returns-clause-nodes
returns-clause-nodes c = session_nodes_carry_by_keys nodes_carry
