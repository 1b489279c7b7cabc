use Rattle.circuit_laws.proofs.Outputs.{outputs_carry}
use Rattle.answer_laws.proofs.Answers.{answers_are_plain}
use Rattle.answer_laws.proofs.laws.answers.Goals as goal

pub returns : goal.returns
returns c = answers_are_plain outputs_carry
