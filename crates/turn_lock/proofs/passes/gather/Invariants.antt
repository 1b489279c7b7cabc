use Rattle.std.proofs.Common.{◌≡◌, [], length}
use Rattle.turn_lock.specs.declared.view.Stage.TheVariants.{Idle}
use Rattle.turn_lock.specs.Views.{BeginsWith}
use Rattle.turn_lock.specs.Gathering.{GathersFrom}
use Rattle.turn_lock.proofs.passes.gather.Given as goal

abbrev pub invariant-passes : goal.invariant-passes
invariant-passes g l = record {
  left : BeginsWith l.fn.list.items l.list.items;
  seat : l.seat.table_id ≡ l.fn.board.table_id;
  idle : l.seat.me.0.stage ≡ Idle;
  empty : l.seat.me.1 ≡ [];
  known : GathersFrom (length l.list.items) l.fn.list.items l.seat.me.0;
}

abbrev pub decreases-passes : goal.decreases-passes
decreases-passes g l = goal.left-passes g l
