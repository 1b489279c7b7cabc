use Rattle.session_laws.proofs.Turns.{content_stands}
use Rattle.session_laws.proofs.laws.turns.Goals as goal

pub returns : goal.returns
returns c = record { content = content_stands }
