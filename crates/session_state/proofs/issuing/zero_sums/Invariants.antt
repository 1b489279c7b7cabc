use Rattle.std.proofs.Common.{◌≡◌, replicate}
use Rattle.session_state.proofs.issuing.zero_sums.Given as goal

abbrev pub invariant-rows : goal.invariant-rows
invariant-rows l = l.sums ≡ replicate l.counter (replicate l.ring.params.n 0)
