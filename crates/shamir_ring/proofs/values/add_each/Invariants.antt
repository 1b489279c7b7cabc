use Rattle.shamir_ring.proofs.Added.{Added}
use Rattle.shamir_ring.proofs.values.add_each.Given as goal

abbrev pub invariant-loop-k : goal.invariant-loop-k
invariant-loop-k l = Added l.ring.params.q l.ring.params.n l.initial.sums l.others l.sums l.k
