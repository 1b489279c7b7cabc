use Rattle.gadget_laws.proofs.Rotations.{rotations_add_little, rotations_carry}
use Rattle.gadget_laws.proofs.SwitchTotals.{rotations_fit}
use Rattle.gadget_laws.proofs.laws.rotations.Goals as goal

pub returns-clause-noise : goal.returns-clause-noise
returns-clause-noise c = rotations_add_little

pub returns-clause-fit : goal.returns-clause-fit
returns-clause-fit c = rotations_fit

pub returns-clause-carries : goal.returns-clause-carries
returns-clause-carries c = rotations_carry
