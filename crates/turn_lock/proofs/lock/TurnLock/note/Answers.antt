use Rattle.std.proofs.Common.{arith}
use Rattle.turn_lock.proofs.Taking.{copies, is_note}
use Rattle.turn_lock.proofs.lock.TurnLock.note.Goals as goal

pub split_seat-seat-requires : goal.split_seat-seat-requires
split_seat-seat-requires g c = (c.requires, omega (arith, c.args.self.now.sized.0), copies g.V.Kept.fixed g.V.Kept.entries g.V.Kept.number _ _ _ _ _ c.args.pass.now.idle)

pub invariant_of-result : goal.invariant_of-result
invariant_of-result g c =
    let p = c.args.pass.now in
    let h = is_note _ p.seat.me.0 p.number c.split_seat-seat.ensures.4 p.numbered in record { unnumbered = h.0; idle = h.1; empty = h.2 }
