use Rattle.key_laws.proofs.Shapes.{rotation_shares_fit, first_shares_fit, second_shares_fit}
use Rattle.key_laws.proofs.laws.shapes.Goals as goal

pub returns-clause-rotations : goal.returns-clause-rotations
returns-clause-rotations c = rotation_shares_fit

pub returns-clause-first_round : goal.returns-clause-first_round
returns-clause-first_round c = first_shares_fit

pub returns-clause-second_round : goal.returns-clause-second_round
returns-clause-second_round c = second_shares_fit
