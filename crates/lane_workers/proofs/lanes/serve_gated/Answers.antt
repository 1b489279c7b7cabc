use Rattle.std.proofs.Common.{◌≡◌, ap, ℕ, List, get_or, drop}
use Rattle.session_rules.specs.declared.call.Call.{Call}
use Rattle.session_rules.specs.declared.call.Entry.{Entry}
use Rattle.session_rules.specs.Courses.{lane_tasks}
use Rattle.session_core.specs.declared.stop.Stop.{Stop}
use Rattle.lane_workers.specs.Desks.{Fixture, View, lent_view}
use Rattle.lane_workers.specs.Doing.{Added, Broken, BrokeOff, Followed}
use Rattle.lane_workers.proofs.Going.{on_ok, if_err_so}
use Rattle.lane_workers.proofs.lanes.serve_gated.Goals as goal

-- what is seen through a reference

same_name : (n m : ℕ) (v w : View) → (lent_view m w).fixed ≡ (lent_view n v).fixed → m ≡ n
same_name n m v w e = ap (λ (f : Fixture). get_or f.lent 0 0) e

same_within : (n m : ℕ) (v w : View) → (lent_view m w).fixed ≡ (lent_view n v).fixed → w.fixed ≡ v.fixed
same_within n m v w e = ap (λ (f : Fixture). record f { lent = drop 1 f.lent }) e

added_within : (n m : ℕ) (Are : List Entry → Type 0) (v w : View) → Added Are (lent_view n v) (lent_view m w) → Added Are v w
added_within n m Are v w x = record { more = x.more; made = x.made; seen = x.seen; mine = x.mine; its = x.its; alone = x.alone; are = x.are }

broken_within : (n m : ℕ) (why : Stop) (Are : List Entry → Call → Type 0) (v w : View) → Broken why Are (lent_view n v) (lent_view m w) → Broken why Are v w
broken_within n m why Are v w x = record {
  more = x.more;
  made = x.made;
  back = x.back;
  seen = x.seen;
  mine = x.mine;
  its = x.its;
  alone = x.alone;
  next = x.next;
  are = x.are;
  gives_back = x.gives_back;
  reason = x.reason;
}

pub returns-clause-same_desk : goal.returns-clause-same_desk
returns-clause-same_desk g c =
    let old = c.args.gated.now.desk in
    let new = c.serve_lines.new.desk.desk in
    same_name old.ghost_name new.ghost_name (g.D.Desk.view old.now) (g.D.Desk.view new.now) c.serve_lines.ensures.same

pub returns-clause-same : goal.returns-clause-same
returns-clause-same g c =
    let old = c.args.gated.now.desk in
    let new = c.serve_lines.new.desk.desk in
    same_within old.ghost_name new.ghost_name (g.D.Desk.view old.now) (g.D.Desk.view new.now) c.serve_lines.ensures.same

pub returns-clause-done : goal.returns-clause-done
returns-clause-done g c =
    let old = c.args.gated.now.desk in
    let new = c.serve_lines.new.desk.desk in
    let v = g.D.Desk.view old.now in
    let w = g.D.Desk.view new.now in
    let lane = lane_tasks c.args.lane.now in
    on_ok c.serve_lines.result (Followed lane (lent_view old.ghost_name v) (lent_view new.ghost_name w)) (Followed lane v w) (added_within old.ghost_name new.ghost_name _ v w) c.serve_lines.ensures.done

pub returns-clause-stopped : goal.returns-clause-stopped
returns-clause-stopped g c =
    let old = c.args.gated.now.desk in
    let new = c.serve_lines.new.desk.desk in
    let v = g.D.Desk.view old.now in
    let w = g.D.Desk.view new.now in
    let lane = lane_tasks c.args.lane.now in
    if_err_so c.serve_lines.result (BrokeOff lane (lent_view old.ghost_name v) (lent_view new.ghost_name w)) (BrokeOff lane v w) (λ why. broken_within old.ghost_name new.ghost_name why _ v w) c.serve_lines.ensures.stopped
