use Rattle.run_laws.proofs.Course.{run_is_serial, serial_run_is_legal, serial_is_its_run}
use Rattle.run_laws.proofs.laws.course.Goals as goal

pub returns : goal.returns
returns c = record { keeps = run_is_serial; only = serial_is_its_run; legal = serial_run_is_legal }
