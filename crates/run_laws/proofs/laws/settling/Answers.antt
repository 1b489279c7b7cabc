use Rattle.run_laws.proofs.Settling.{settling_loses_nobody, settling_ends, settling_answers, settling_answers_then, serial_ends, serial_answers, serial_answers_then}
use Rattle.run_laws.proofs.laws.settling.Goals as goal

pub returns : goal.returns
returns c = record {
  nobody_lost = settling_loses_nobody;
  ends = settling_ends;
  answers = settling_answers;
  answers_then = settling_answers_then;
  serial_ends = serial_ends;
  serial_answers = serial_answers;
  serial_answers_then = serial_answers_then;
}
