use Rattle.std.proofs.Common.{arith}
use Rattle.ring_ntt.proofs.Congruence.{shift_same}
use Rattle.ring_ntt.proofs.words.halved.Goals as goal

pub returns-then-x-q-clause-same : goal.returns-then-x-q-clause-same
returns-then-x-q-clause-same c = shift_same c.args.q _ c.args.x 2 0 (omega (arith, c.if-x-q.true))
