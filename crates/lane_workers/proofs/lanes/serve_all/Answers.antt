use Rattle.std.proofs.Common.{◌≡◌, ◌∙◌, sym, subst, refl, List, get_or, arith}
use Rattle.std.specs.List.{flat_map}
use Rattle.session_rules.specs.declared.line.Line.{Line}
use Rattle.session_rules.specs.Courses.{lane_tasks}
use Rattle.session_core.specs.Sessions.{Known}
use Rattle.session_core.specs.Calls.{known}
use Rattle.lane_workers.specs.Acting.{AreParties, IsLane}
use Rattle.lane_workers.specs.Desks.{session_view}
use Rattle.lane_workers.specs.Doing.{BrokeOff, Followed}
use Rattle.lane_workers.proofs.Acts.{fixed_are}
use Rattle.lane_workers.proofs.Going.{if_err}
use Rattle.lane_workers.proofs.Lines.{lanes_begin, lane_on, lane_off, lanes_over}
use Rattle.lane_workers.proofs.lanes.serve_all.Goals as goal

pub lanes-init : goal.lanes-init
lanes-init g c = record { same = refl; doing = lanes_begin c.args.lanes.now (session_view c.args.session.now) }

pub serve_lane-requires-clause-parties : goal.serve_lane-requires-clause-parties
serve_lane-requires-clause-parties g c κs within = subst (λ (z : Known). AreParties g.P.Party z c.args.parties.now) (sym c.lanes.invariant.same) c.requires.parties

pub serve_lane-requires-clause-lane : goal.serve_lane-requires-clause-lane
serve_lane-requires-clause-lane g c κs within =
    let n = (known c.args.session.now).params.parties in
    let is : c.as_slice.result.now ≡ get_or c.args.lanes.now c.lanes.lane-index c.lane-item.result = c.as_slice.ensures ∙ c.lane-item.is in
    subst (λ (z : Known). IsLane z.params.parties c.as_slice.result.now) (sym c.lanes.invariant.same)
    (subst (λ (z : List Line). IsLane n z) (sym is) (c.requires.lanes c.lanes.lane-index c.lane-item.result c.lanes-test.true))

pub lanes-preserved : goal.lanes-preserved
lanes-preserved g c =
    let i = c.lanes.invariant in
    let e = c.in_ok-serve_lane.ensures in
    let old = c.args.session.now in
    let mid = c.lanes.session in
    let u = session_view old in
    let v = session_view mid in
    let w = session_view c.serve_lane.new.session in
    record {
      same = e.same ∙ i.same;
      doing = lane_on c.args.lanes.now c.lanes.lane-index c.lane-item.result u v w c.lanes-test.true (fixed_are old mid i.same) i.doing
          (subst (λ (z : List Line). Followed (lane_tasks z) v w) (c.as_slice.ensures ∙ c.lane-item.is) e.done);
    }

pub returns-clause-done : goal.returns-clause-done
returns-clause-done g c =
    lanes_over c.args.lanes.now c.lanes.lane-index (session_view c.args.session.now) (session_view c.lanes.session) (omega arith) c.lanes.invariant.doing

pub returns-in_err-serve_lane-clause-stopped : goal.returns-in_err-serve_lane-clause-stopped
returns-in_err-serve_lane-clause-stopped g c =
    let i = c.lanes.invariant in
    let old = c.args.session.now in
    let mid = c.lanes.session in
    let u = session_view old in
    let v = session_view mid in
    let w = session_view c.serve_lane.new.session in
    let lanes = c.args.lanes.now in
    if_err c.from_residual.result _ (BrokeOff (flat_map lane_tasks lanes) u w) c.from_residual.ensures.1
    (lane_off lanes c.lanes.lane-index c.lane-item.result _ u v w c.lanes-test.true (fixed_are old mid i.same) i.doing
    (subst (λ (z : List Line). BrokeOff (lane_tasks z) v w c.in_err-serve_lane.field-0.0) (c.as_slice.ensures ∙ c.lane-item.is) c.in_err-serve_lane.ensures.stopped))
