-- Some lanes are followed, and those that are left are to be followed.
use Rattle.std.proofs.Common.{◌≡◌, drop}
use Rattle.std.specs.List.{flat_map}
use Rattle.session_rules.specs.Courses.{lane_tasks}
use Rattle.session_core.specs.Calls.{known}
use Rattle.lane_workers.specs.Desks.{session_view}
use Rattle.lane_workers.specs.Doing.{Passing}
use Rattle.lane_workers.proofs.lanes.serve_all.Given as goal

abbrev pub invariant-lanes : goal.invariant-lanes
invariant-lanes g l = record {
  same : known l.session ≡ known l.fn.session;
  doing : Passing (flat_map lane_tasks l.lanes) (flat_map lane_tasks (drop l.lane-index l.lanes)) (session_view l.fn.session) (session_view l.session);
}
