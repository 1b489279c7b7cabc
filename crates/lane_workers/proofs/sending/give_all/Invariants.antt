-- Some inputs are given, and those at the places that are left are to be given.
use Rattle.std.proofs.Common.{◌≡◌, map, drop}
use Rattle.session_rules.specs.Tasks.{gives_at}
use Rattle.lane_workers.specs.Doing.{Doing}
use Rattle.lane_workers.proofs.sending.give_all.Given as goal

abbrev pub invariant-places : goal.invariant-places
invariant-places g l = record {
  same : (g.D.Desk.view l.desk).fixed ≡ (g.D.Desk.view l.fn.desk).fixed;
  doing : Doing (map gives_at l.places) (map gives_at (drop l.place-index l.places)) (g.D.Desk.view l.fn.desk) (g.D.Desk.view l.desk);
}
