use Rattle.std.proofs.Common.{◌≡◌}
use Rattle.gadget_laws.specs.Shifted.{halves}
use Rattle.gadget_keys.proofs.digit_row.halves.Given as goal

abbrev pub invariant-rows : goal.invariant-rows
invariant-rows l = l.sum ≡ halves l.bits l.row
