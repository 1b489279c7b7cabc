-- The loop has written each entry.
use Rattle.std.proofs.Common.{arith}
use Rattle.ring_spec.specs.Ring.{ring_multiple, residues}
use Rattle.mod_ring.proofs.Filled.{Filled-end}
use Rattle.mod_ring.proofs.entries.scale_entries.Goals as goal

pub returns : goal.returns
unfolding ring_multiple residues
returns c =
    Filled-end _ c.args.acc.now c.loop-i.acc _ c.loop-i.i c.loop-i.auto.acc (omega arith) c.loop-i.invariant
