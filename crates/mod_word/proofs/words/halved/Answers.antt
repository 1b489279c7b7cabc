use Rattle.std.proofs.Common.{arith}
use Rattle.mod_word.proofs.Shoup.{taken_off}
use Rattle.mod_word.proofs.words.halved.Goals as goal

pub returns-else-x-q-clause-same : goal.returns-else-x-q-clause-same
returns-else-x-q-clause-same c = taken_off c.args.q c.args.x 2 (omega (arith, c.if-x-q.false))
