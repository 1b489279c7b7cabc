-- The gadget of the parameters of a ring.
use Rattle.gadget_spec.specs.Digits.{Gadget}
use Rattle.param_set.specs.Moduli.{digit_rows}
use Rattle.param_set.specs.declared.params.Params.{Params}

-- digits of b bits, as many rows as a residue modulo q has digits
abbrev pub gadget_of : Params → Gadget
gadget_of p = record { bits = p.digit_bits; rows = digit_rows p.q p.digit_bits; balanced = p.balanced }
