use Rattle.run_laws.proofs.Alone.{run_follows, run_is_only}
use Rattle.run_laws.proofs.Serial.{settling_is_only, serial_is_only}
use Rattle.run_laws.proofs.laws.alone.Goals as goal

pub returns : goal.returns
returns c = record { runs = run_follows; only = run_is_only; settling = settling_is_only; serial = serial_is_only }
