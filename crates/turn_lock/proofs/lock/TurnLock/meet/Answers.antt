use Rattle.std.proofs.Common.{◌∙◌, arith}
use Rattle.turn_lock.proofs.Keeps.{joins}
use Rattle.turn_lock.proofs.Taking.{recalls_at, meets, met_pass}
use Rattle.turn_lock.proofs.lock.TurnLock.meet.Goals as goal

pub join_seat-requires : goal.join_seat-requires
join_seat-requires g c = (
  c.requires.pass,
  c.requires.note,
  c.args.note.empty,
  omega (arith, c.args.self.now.sized.0),
  joins g.V.Kept.fixed g.V.Kept.entries g.V.Kept.number _ _ _ _ _ _ _ c.args.pass.now.idle c.args.note.idle,
)

pub load-requires : goal.load-requires
load-requires g c =
    let p = c.args.pass.now in
    let n = c.args.note in (
      c.join_seat.ensures.0 ∙ c.requires.pass,
      omega (arith, c.args.self.now.sized.0),
      recalls_at g.V.Kept.fixed g.V.Kept.entries g.V.Kept.number _ _ _ _ _ _ p.number _ p.seat.me.0 n.seat.me.0 _ c.join_seat.ensures.2 p.numbered p.counts n.unnumbered,
    )

pub invariant_of-pass : goal.invariant_of-pass
invariant_of-pass g c =
    let p = c.args.pass.now in
    let h = met_pass g.V.Kept.number _ _ p.seat.me.0 c.args.note.seat.me.0 p.number _ c.join_seat.ensures.2 c.load.ensures.2 p.numbered p.empty in record { numbered = h.0; counts = p.counts; idle = h.1; empty = h.2 }

pub returns-clause-told : goal.returns-clause-told
returns-clause-told g c =
    let p = c.args.pass.now in
    let n = c.args.note in meets g.V.Kept.number _ _ p.seat.me.0 n.seat.me.0 p.number _ c.join_seat.ensures.2 c.load.ensures.2 p.numbered n.unnumbered
