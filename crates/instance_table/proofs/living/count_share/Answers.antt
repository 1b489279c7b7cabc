-- One more instance has the share, where it is the one with the number.
use Rattle.std.proofs.Common.{◌<◌, length, ◌∙◌, ap, set, arith}
use Rattle.std.proofs.lemmas.List.Edits.{map_over_more}
use Rattle.proto_names.specs.Instances.{counted_at}
use Rattle.instance_table.proofs.living.count_share.Goals as goal

pub loop-place-preserved : goal.loop-place-preserved
loop-place-preserved c =
    let is = c.args.live.now.items in let now = c.loop-place.live.items in
    let k = c.loop-place.place in
    let lt : k < length is = omega arith in
    record {
      so_far =
          ap (set now k) c.counted_at-instance.ensures
          ∙ map_over_more (counted_at c.args.id c.args.p) is now k c.index.result.now lt c.loop-place.invariant.so_far c.index.ensures;
      len = c.loop-place.invariant.len;
      capacity = c.loop-place.invariant.capacity;
    }
