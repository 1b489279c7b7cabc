-- The loads of the first instances, and then of one more.
use Rattle.std.proofs.Common.{◌^◌, ◌∙◌, arith}
use Rattle.participants.proofs.Raising.{loads_more, loads_none, loads_few}
use Rattle.participants.proofs.counts.Loads.of.Goals as goal
use Rattle.participants.proofs.counts.Loads.of.Goals.{then-set-ne0, else-set-ne0}

pub raise-requires : goal.raise-requires
raise-requires c = loads_few c.args.instances.now c.loop-instance.instance-index (2 ^ 30) c.loop-instance.loads (omega arith) c.loop-instance.invariant.so_far

pub loop-instance-preserved : goal.loop-instance-preserved
loop-instance-preserved c =
    let is = c.args.instances.now in let n = c.loop-instance.instance-index in
    let set = c.awaited-set.result.bits in let loads = c.loop-instance.loads in
    let before = c.loop-instance.invariant.so_far in
    record {
      so_far = elim c.if-set-ne0.branch [
        | then-set-ne0 w ↦ w.loads-is ∙ w.raise.ensures ∙ loads_more is n set loads _ c.loop-instance-test.true c.awaited-set.ensures before
        | else-set-ne0 w ↦ w.loads-is ∙ loads_none is n set loads _ c.loop-instance-test.true (omega (arith, w.if-set-ne0.false)) c.awaited-set.ensures before
      ];
    }
