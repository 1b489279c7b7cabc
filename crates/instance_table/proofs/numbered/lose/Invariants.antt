use Rattle.std.proofs.Common.{◌≡◌, ◌++◌, map, take, drop}
use Rattle.std.specs.Prelude.{vec_len}
use Rattle.std.specs.Vec.{vec_capacity}
use Rattle.proto_names.specs.Instances.{lost_by}
use Rattle.instance_table.proofs.numbered.lose.Given as goal

abbrev pub invariant-loop-place : goal.invariant-loop-place
invariant-loop-place l = record {
  so_far : l.instances.items ≡ map (lost_by l.p) (take l.place l.initial.instances.items) ++ drop l.place l.initial.instances.items;
  len : vec_len l.instances ≡ vec_len l.initial.instances;
  capacity : vec_capacity l.instances ≡ vec_capacity l.initial.instances;
}
