-- Some have joined, and those that are left are to join.
use Rattle.std.proofs.Common.{◌≡◌, map, drop}
use Rattle.session_rules.specs.Courses.{joins}
use Rattle.session_core.specs.Calls.{known}
use Rattle.lane_workers.specs.Desks.{session_view}
use Rattle.lane_workers.specs.Doing.{Doing}
use Rattle.lane_workers.proofs.joining.join_all.Given as goal

abbrev pub invariant-parties : goal.invariant-parties
invariant-parties g l = record {
  same : known l.session ≡ known l.fn.session;
  doing : Doing (map joins l.present) (map joins (drop l.p-index l.present)) (session_view l.fn.session) (session_view l.session);
}
