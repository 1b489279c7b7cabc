use Rattle.std.proofs.Common.{◌≡◌, ◌∙◌, sym, ap, subst, refl, get_or, arith}
use Rattle.session_rules.specs.declared.fixed.Fixed.{Fixed}
use Rattle.session_rules.specs.declared.line.Line.TheVariants.{Join}
use Rattle.session_rules.specs.Courses.{lane_tasks}
use Rattle.session_spec.specs.Settings.{rules}
use Rattle.lane_workers.specs.Acting.{AreParties, IsLine}
use Rattle.lane_workers.specs.Desks.{Fixture, rules_of}
use Rattle.lane_workers.specs.Hands.{in_hand}
use Rattle.lane_workers.specs.Doing.{BrokeOff, Going, CutOff, line_left, at_end}
use Rattle.lane_workers.proofs.Going.{if_err}
use Rattle.lane_workers.proofs.Lines.{lane_begins, line_on, line_off, lane_over}
use Rattle.lane_workers.proofs.serving.serve_lines.Goals as goal

pub lines-init : goal.lines-init
lines-init g c = record { same = refl; fits = tt; doing = lane_begins c.args.lane.now (g.D.Desk.view c.args.desk.now) }

pub serve_line-requires-clause-ring : goal.serve_line-requires-clause-ring
serve_line-requires-clause-ring g c κs within = c.requires.ring ∙ ap (λ (z : Fixture). z.known.params) (sym c.lines.invariant.same)

pub serve_line-requires-clause-parties : goal.serve_line-requires-clause-parties
serve_line-requires-clause-parties g c κs within =
    subst (λ (z : Fixture). AreParties g.P.Party z.known c.args.parties.now) (sym c.lines.invariant.same) c.requires.parties

pub serve_line-requires-clause-line : goal.serve_line-requires-clause-line
serve_line-requires-clause-line g c κs within =
    subst (λ (z : Fixture). IsLine z.known.params.parties (get_or c.args.lane.now c.lines.line-index (Join 0))) (sym c.lines.invariant.same)
    (c.requires.lane c.lines.line-index (Join 0) c.lines-test.true)

pub lines-preserved : goal.lines-preserved
lines-preserved g c =
    let i = c.lines.invariant in
    let e = c.in_ok-hand.ensures in
    let u = g.D.Desk.view c.args.desk.now in
    let v = g.D.Desk.view c.lines.desk in
    let w = g.D.Desk.view c.serve_line.new.desk in
    let next = c.in_ok-hand.hand in
    let lane = c.args.lane.now in
    let k = c.lines.line-index in
    let x = get_or lane k (Join 0) in
    let rules_are : rules_of v ≡ rules_of u = ap (λ (z : Fixture). rules z.known.setting) i.same in
    let done = subst (λ (z : Fixed). Going (line_left (in_hand z c.lines.hand) x) (at_end (in_hand z next)) v w) rules_are e.done in
    record {
      same = e.same ∙ i.same;
      fits = e.fits;
      doing = line_on lane (in_hand (rules_of u) c.lines.hand) (in_hand (rules_of u) next) k (Join 0) u v w c.lines-test.true i.same i.doing done;
    }

pub returns-clause-done : goal.returns-clause-done
returns-clause-done g c =
    let u = g.D.Desk.view c.args.desk.now in
    lane_over c.args.lane.now (in_hand (rules_of u) c.lines.hand) c.lines.line-index u (g.D.Desk.view c.lines.desk) (omega arith) c.lines.invariant.doing

pub returns-in_err-hand-clause-stopped : goal.returns-in_err-hand-clause-stopped
returns-in_err-hand-clause-stopped g c =
    let i = c.lines.invariant in
    let u = g.D.Desk.view c.args.desk.now in
    let v = g.D.Desk.view c.lines.desk in
    let w = g.D.Desk.view c.serve_line.new.desk in
    let lane = c.args.lane.now in
    let k = c.lines.line-index in
    let x = get_or lane k (Join 0) in
    let rules_are : rules_of v ≡ rules_of u = ap (λ (z : Fixture). rules z.known.setting) i.same in
    let off = subst (λ (z : Fixed). CutOff (line_left (in_hand z c.lines.hand) x) v w c.in_err-hand.field-0.0) rules_are c.in_err-hand.ensures.stopped in
    if_err c.from_residual.result _ (BrokeOff (lane_tasks lane) u w) c.from_residual.ensures.1
    (line_off lane (in_hand (rules_of u) c.lines.hand) k (Join 0) _ u v w c.lines-test.true i.same i.doing off)
