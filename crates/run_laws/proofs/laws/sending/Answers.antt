use Rattle.run_laws.proofs.Settling.{sending_gives, sending_gives_inputs}
use Rattle.run_laws.proofs.laws.sending.Goals as goal

pub returns : goal.returns
returns c = record { shares = sending_gives; inputs = sending_gives_inputs }
