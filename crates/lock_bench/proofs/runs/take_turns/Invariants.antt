use Rattle.std.proofs.Common.{◌≡◌}
use Rattle.turn_lock.specs.Passes.{id_of, lock_of}
use Rattle.lock_bench.proofs.runs.take_turns.Given as goal

abbrev pub invariant-turns : goal.invariant-turns
invariant-turns g l = lock_of l.pass ≡ id_of l.lock
