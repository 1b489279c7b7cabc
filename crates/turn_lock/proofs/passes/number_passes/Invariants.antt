use Rattle.std.proofs.Common.{◌≡◌, ◌-◌, ◌+◌, [], map}
use Rattle.std.specs.List.{range_with_len}
use Rattle.turn_lock.specs.declared.view.Stage.TheVariants.{Idle}
use Rattle.turn_lock.specs.Views.{fresh}
use Rattle.turn_lock.specs.Passes.{AreNew}
use Rattle.turn_lock.proofs.passes.number_passes.Given as goal

abbrev pub invariant-numbers : goal.invariant-numbers
invariant-numbers g l = let key = l.board.key in record {
  seat : l.first.table_id ≡ l.board.table_id;
  stage : l.first.me ≡ (record { sights = map (fresh (g.V.Kept.fixed key.opening.value) (g.V.Kept.entries key.opening.value)) (range_with_len (l.given + 1) (l.callers - l.given)); stage = Idle }, []);
  made : AreNew l.board.table_id l.given (g.V.Kept.fixed key.opening.value) (g.V.Kept.entries key.opening.value) l.list.items;
}
