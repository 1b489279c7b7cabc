use Rattle.headline.proofs.Histories.{histories_keep_it}
use Rattle.headline.proofs.laws.histories.Goals as goal

pub returns : goal.returns
returns c = histories_keep_it
