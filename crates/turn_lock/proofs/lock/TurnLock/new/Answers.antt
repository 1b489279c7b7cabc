use Rattle.turn_lock.proofs.Gathered.{opens_at}
use Rattle.turn_lock.proofs.lock.TurnLock.new.Goals as goal

pub new-requires : goal.new-requires
new-requires g c = opens_at g.V.Kept.fixed g.V.Kept.entries g.V.Kept.number _ c.args.value _ _ _ c.requires.1 c.of.ensures c.in_ok-slots.ensures.items c.in_ok-push.ensures.items
