use Rattle.std.proofs.Common.{◌∙◌, ap, arith}
use Rattle.turn_lock.proofs.TurnKeeps.{looks_at}
use Rattle.turn_lock.proofs.turns.wait_for.Goals as goal

pub load-requires : goal.load-requires
load-requires g c =
    let at = ap (λ m. m.0.stage) c.loop.invariant.me ∙ c.requires.stage in
    let empty = ap (λ m. m.1) c.loop.invariant.me ∙ c.requires.empty in (
      c.loop.invariant.table ∙ c.requires.lock.0,
      omega (arith, c.requires.lock.1),
      looks_at g.V.Kept.fixed g.V.Kept.entries g.V.Kept.number _ _ _ _ _ _ _ at empty,
    )
