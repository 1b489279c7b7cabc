-- One more instance is as it is after the loss.
use Rattle.std.proofs.Common.{◌<◌, length, ◌∙◌, ap, set, arith}
use Rattle.std.proofs.lemmas.List.Edits.{map_over_more}
use Rattle.proto_names.specs.Instances.{lost_by}
use Rattle.instance_table.proofs.numbered.lose.Goals as goal

pub loop-place-preserved : goal.loop-place-preserved
loop-place-preserved c =
    let is = c.args.instances.now.items in let now = c.loop-place.instances.items in
    let k = c.loop-place.place in
    let lt : k < length is = omega arith in
    record {
      so_far =
          ap (set now k) c.after_loss-instance.ensures
          ∙ map_over_more (lost_by c.args.p) is now k c.index.result.now lt c.loop-place.invariant.so_far c.index.ensures;
      len = c.loop-place.invariant.len;
      capacity = c.loop-place.invariant.capacity;
    }
