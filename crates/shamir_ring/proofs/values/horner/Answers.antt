-- The loop has written each entry.
use Rattle.std.proofs.Common.{arith, length}
use Rattle.mod_ring.proofs.Filled.{Filled-end}
use Rattle.shamir_ring.proofs.Horner.{stepped, steps_are}
use Rattle.shamir_ring.proofs.values.horner.Goals as goal

pub step-requires-clause-left : goal.step-requires-clause-left
step-requires-clause-left c =
    omega (arith, c.loop-i.invariant.rest c.loop-i.i (omega arith), c.requires.left.below c.loop-i.i 0 (omega arith))

pub returns : goal.returns
returns c =
    let v = c.args.value.now in
    steps_are c.args.modulus.now.q (length v) c.args.point v c.args.f.now c.loop-i.value c.args.modulus.now.positive
    (Filled-end (stepped c.args.modulus.now.q c.args.point v c.args.f.now) v c.loop-i.value (length v) c.loop-i.i c.loop-i.auto.value (omega arith) c.loop-i.invariant)
