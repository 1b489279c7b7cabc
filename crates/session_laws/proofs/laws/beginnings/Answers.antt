use Rattle.session_laws.proofs.Beginnings.{opening_is_honest, opening_stands}
use Rattle.session_laws.proofs.laws.beginnings.Goals as goal

pub returns-clause-honest : goal.returns-clause-honest
returns-clause-honest c = opening_is_honest

pub returns-clause-stands : goal.returns-clause-stands
returns-clause-stands c = opening_stands
