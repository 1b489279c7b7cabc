use Rattle.tensor_laws.proofs.Rounding.{nearest_is_near, nearest_is_nearer, nearest_is_the_only}
use Rattle.tensor_laws.proofs.laws.rounding.Goals as goal

pub returns-clause-near : goal.returns-clause-near
returns-clause-near c = nearest_is_near

pub returns-clause-nearer : goal.returns-clause-nearer
returns-clause-nearer c = nearest_is_nearer

pub returns-clause-only : goal.returns-clause-only
returns-clause-only c = nearest_is_the_only
