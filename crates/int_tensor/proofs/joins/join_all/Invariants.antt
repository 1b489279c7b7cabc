use Rattle.int_tensor.specs.Joined.{AreJoined}
use Rattle.int_tensor.proofs.joins.join_all.Given as goal

abbrev pub invariant-loop-k : goal.invariant-loop-k
invariant-loop-k l = AreJoined l.k l.f l.g l.joined.items
