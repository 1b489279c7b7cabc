use Rattle.std.proofs.Common.{◌≡◌, ◌++◌, map, take, drop}
use Rattle.std.specs.Prelude.{vec_len}
use Rattle.std.specs.Vec.{vec_capacity}
use Rattle.proto_names.specs.Instances.{counted_at}
use Rattle.instance_table.proofs.living.count_share.Given as goal

abbrev pub invariant-loop-place : goal.invariant-loop-place
invariant-loop-place l = record {
  so_far : l.live.items ≡ map (counted_at l.id l.p) (take l.place l.initial.live.items) ++ drop l.place l.initial.live.items;
  len : vec_len l.live ≡ vec_len l.initial.live;
  capacity : vec_capacity l.live ≡ vec_capacity l.initial.live;
}
