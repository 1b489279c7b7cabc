use Rattle.gadget_keys.proofs.Places.{half_is}
use Rattle.gadget_keys.proofs.digit_row.half_at.Goals as goal

pub returns : goal.returns
returns c = half_is c.args.bits c.args.row c.requires.bits.1 c.requires.place
