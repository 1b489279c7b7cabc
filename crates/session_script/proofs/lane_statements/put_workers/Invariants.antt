-- One lane more for each worker.
use Rattle.std.proofs.Common.{◌≡◌, ◌++◌, replicate}
use Rattle.session_rules.specs.declared.line.Line.TheVariants.{Work}
use Rattle.session_script.proofs.lane_statements.put_workers.Given as goal

abbrev pub invariant-workers : goal.invariant-workers
invariant-workers l = l.lanes ≡ l.fn.lanes ++ replicate l.counter (replicate l.jobs Work)
