use Rattle.session_laws.proofs.Keys.{outputs_stay}
use Rattle.session_laws.proofs.laws.constancy.Goals as goal

pub returns : goal.returns
returns c = record { outputs = outputs_stay }
