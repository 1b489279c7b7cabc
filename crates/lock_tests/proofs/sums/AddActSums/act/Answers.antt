use Rattle.std.proofs.Common.{arith}
use Rattle.lock_tests.proofs.Adding.{pushed, last_pushed}
use Rattle.lock_tests.proofs.sums.AddActSums.act.Goals as goal

-- src/sums.rt:84:15
pub invariant_of-value : goal.invariant_of-value
invariant_of-value c = record {
  adds_up = pushed _ c.args.value.now.pairs.items _ (record { number = c.args.self.number; sum = c.in_ok-sum.sum }) c.args.value.now.adds_up (omega arith) c.push.ensures.items;
}

-- src/sums.rt:77:5
pub returns-in-Ok-clause-says : goal.returns-in-Ok-clause-says
returns-in-Ok-clause-says c = (last_pushed c.args.value.now.pairs.items _ (record { number = c.args.self.number; sum = c.in_ok-sum.sum }) c.in-Ok.ensures.items, omega arith)
