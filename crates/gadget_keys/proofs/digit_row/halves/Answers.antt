use Rattle.std.proofs.Common.{refl}
use Rattle.gadget_laws.specs.Shifted.{halves}
use Rattle.gadget_keys.proofs.digit_row.halves.Goals as goal

pub rows-init : goal.rows-init
unfolding halves
rows-init c = refl
