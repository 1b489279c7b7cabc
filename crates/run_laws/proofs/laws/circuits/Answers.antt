use Rattle.run_laws.proofs.Circuits.{few_are_signed, few_are_inputs}
use Rattle.run_laws.proofs.laws.circuits.Goals as goal

pub returns : goal.returns
returns c = record { signatures = few_are_signed; inputs = few_are_inputs }
