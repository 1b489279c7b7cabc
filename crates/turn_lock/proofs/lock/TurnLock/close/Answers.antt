use Rattle.std.proofs.Common.{◌∙◌, sym}
use Rattle.turn_lock.proofs.Gathered.{ends_some, ends_none}
use Rattle.turn_lock.proofs.lock.TurnLock.close.Goals as goal

pub unreachable-requires : goal.unreachable-requires
unreachable-requires g c =
    ends_none _ _ _ _ _ c.args.passes.list.items _ _ _ c.close_with-closed.ensures.values.2 c.gather-seat.ensures.seat.1 c.gather-seat.ensures.all (c.requires.count ∙ sym c.args.self.told) c.take-slot.ensures.value c.in-None.is

pub returns : goal.returns
returns g c =
    ends_some _ _ _ _ _ c.args.passes.list.items _ _ _ _ c.close_with-closed.ensures.values.2 c.gather-seat.ensures.seat.1 c.gather-seat.ensures.all (c.requires.count ∙ sym c.args.self.told) c.take-slot.ensures.value c.in-Some.is
