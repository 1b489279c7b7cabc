-- Some shares are given, and those of the instances that are left are to be given.
use Rattle.std.proofs.Common.{◌≡◌, map, drop}
use Rattle.session_rules.specs.Tasks.{shares}
use Rattle.lane_workers.specs.Doing.{Doing}
use Rattle.lane_workers.proofs.sending.share_all.Given as goal

abbrev pub invariant-ids : goal.invariant-ids
invariant-ids g l = record {
  same : (g.D.Desk.view l.desk).fixed ≡ (g.D.Desk.view l.fn.desk).fixed;
  doing : Doing (map (shares (g.P.Party.number l.party)) l.ids) (map (shares (g.P.Party.number l.party)) (drop l.id-index l.ids)) (g.D.Desk.view l.fn.desk) (g.D.Desk.view l.desk);
}
