-- The digit is a part of x.
use Rattle.std.proofs.Common.{◌*◌, ◌/◌, ◌^◌, ◌∙◌, arith}
use Rattle.gadget_keys.proofs.Cuts.{mask_is, plain_digit_is}
use Rattle.gadget_keys.proofs.digit_row.DigitRow.plain.Goals as goal

pub returns : goal.returns
returns c =
    let r = c.args.self.now in
    mask_is 18446744073709551616 r.bits (c.args.x / 2 ^ (r.bits * r.row)) (omega arith) r.few_bits.1
    ∙ plain_digit_is r.modulus r.bits r.row c.args.x c.requires
