-- A circuit is asked for again, and no more circuits are idle than may still be evaluated.
use Rattle.std.proofs.Common.{◌≡◌, ◌+◌, ◌≤◌, [], ◌∷◌}
use Rattle.session_rules.specs.Tasks.{exhausts}
use Rattle.session_core.specs.Calls.{known, state_of}
use Rattle.lane_workers.specs.Desks.{session_view}
use Rattle.lane_workers.specs.Doing.{Doing}
use Rattle.run_laws.specs.Leaving.{idle}
use Rattle.lane_workers.proofs.working.work_off.Given as goal

abbrev pub invariant-jobs : goal.invariant-jobs
invariant-jobs g l = record {
  same : known l.session ≡ known l.fn.session;
  doing : Doing (exhausts ∷ []) (exhausts ∷ []) (session_view l.fn.session) (session_view l.session);
  few : idle (state_of l.session) + l.counter ≤ l.circuits;
}
