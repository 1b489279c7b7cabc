use Rattle.std.proofs.Common.{arith}
use Rattle.turn_lock.proofs.Taking.{goes_home}
use Rattle.turn_lock.proofs.turns.pass_on.Goals as goal

pub fetch_add-requires : goal.fetch_add-requires
fetch_add-requires g c = (
  c.requires.lock.0,
  omega (arith, c.requires.lock.1),
  goes_home g.V.Kept.fixed g.V.Kept.entries g.V.Kept.number _ _ _ _ _ _ c.requires.back,
)
