use Rattle.gadget_keys.proofs.Kept.{Begun}
use Rattle.gadget_keys.proofs.switch_key.SwitchKey.new.Given as goal

abbrev pub invariant-rows : goal.invariant-rows
invariant-rows l = Begun l.ring.params l.fn.b l.fn.a l.rows.items l.i
