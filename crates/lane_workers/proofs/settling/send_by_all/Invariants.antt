-- Some of those that were present have sent, and those that are left are to send.
use Rattle.std.proofs.Common.{◌≡◌, map, drop, filter}
use Rattle.share_spec.specs.Sets.{has, members}
use Rattle.session_rules.specs.Courses.{sends}
use Rattle.session_core.specs.Calls.{known, state_of}
use Rattle.lane_workers.specs.Desks.{session_view}
use Rattle.lane_workers.specs.Doing.{Doing}
use Rattle.lane_workers.proofs.settling.send_by_all.Given as goal

abbrev pub invariant-parties : goal.invariant-parties
invariant-parties g l = record {
  same : known l.session ≡ known l.fn.session;
  doing : Doing (map sends (members (state_of l.fn.session).present))
      (map sends (filter (has l.present.bits) (map g.P.Party.number (drop l.party-index l.parties)))) (session_view l.fn.session) (session_view l.session);
}
