use Rattle.std.proofs.Common.{refl, [], ◌∷◌}
use Rattle.session_rules.specs.declared.call.Call.TheVariants as call
use Rattle.lane_workers.specs.Desks.{nothing_handed}
use Rattle.session_rules.specs.Courses.{joins}
use Rattle.lane_workers.specs.Doing.{BrokeOff}
use Rattle.lane_workers.proofs.Going.{if_err, begins, calls_on, stops_on}
use Rattle.lane_workers.proofs.serving.join.Goals as goal

pub returns-clause-done : goal.returns-clause-done
returns-clause-done g c =
    let v = g.D.Desk.view c.args.desk.now in
    let w = g.D.Desk.view c.join.new.self in
    let ts = joins c.args.p ∷ [] in
    calls_on ts [] (joins c.args.p) (call.Join c.args.p) _ nothing_handed _ v v w refl (begins ts v) refl refl c.in_ok-join.ensures.turned.answered

pub returns-in_err-join-clause-stopped : goal.returns-in_err-join-clause-stopped
returns-in_err-join-clause-stopped g c =
    let v = g.D.Desk.view c.args.desk.now in
    let w = g.D.Desk.view c.join.new.self in
    let ts = joins c.args.p ∷ [] in
    if_err c.from_residual.result _ (BrokeOff ts v w) c.from_residual.ensures.1
    (stops_on ts [] (joins c.args.p) (call.Join c.args.p) _ v v w refl (begins ts v) refl c.in_err-join.ensures.turned.unanswered)
