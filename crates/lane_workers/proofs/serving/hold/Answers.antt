use Rattle.std.proofs.Common.{◌≡◌, ◌∙◌, sym, ap, subst, refl, ℕ, Option, Some, None}
use Rattle.std.specs.Option.{option_map}
use Rattle.session_rules.specs.declared.call.Call.TheVariants as call
use Rattle.session_rules.specs.declared.line.Line.TheVariants.{Hold}
use Rattle.session_rules.specs.Tasks.{Held, does, share_for, briefed}
use Rattle.lane_workers.specs.Hands.{IsHeld}
use Rattle.lane_workers.specs.Desks.{Fixture, ShowsBrief, known_of, rules_of, behind}
use Rattle.lane_workers.specs.Doing.{CutOff, Going, line_left, at_end}
use Rattle.lane_workers.proofs.Going.{if_err}
use Rattle.lane_workers.proofs.Lines.{calls_from, stops_from}
use Rattle.lane_workers.proofs.Stays.{brief_brought, none_briefed}
use Rattle.lane_workers.proofs.serving.hold.Goals as goal

pub returns-in_err-brief-clause-stopped : goal.returns-in_err-brief-clause-stopped
returns-in_err-brief-clause-stopped g c = λ hand.
    let v = g.D.Desk.view c.args.desk.now in
    let w = g.D.Desk.view c.brief.new.self in
    let x = Hold c.args.p c.args.id in
    if_err c.from_residual.result _ (CutOff (line_left hand x) v w) c.from_residual.ensures.1
    (stops_from hand (does x) (call.Brief c.args.id) _ v w refl c.in_err-brief.ensures.turned.unanswered)

pub returns-in-None-clause-done : goal.returns-in-None-clause-done
returns-in-None-clause-done g c = λ hand.
    let v = g.D.Desk.view c.args.desk.now in
    let w = g.D.Desk.view c.brief.new.self in
    let id = c.args.id in
    let x = Hold c.args.p id in
    let a = c.in_ok-brief.ensures.turned.answered in
    let o = c.in_ok-brief.field-0 in
    let e : o.brief ≡ None = let s = c.in_ok-brief.brief-is in let y = c.in-None.is in cc in
    subst (λ (z : Option Held). Going (line_left hand x) (at_end z) v w) (ap (option_map (share_for (rules_of v).rows c.args.p id)) (none_briefed v w id o a e))
    (calls_from hand (does x) (call.Brief id) o.reply (ShowsBrief id) o v w refl a)

pub returns-in-Some-clause-done : goal.returns-in-Some-clause-done
returns-in-Some-clause-done g c = λ hand.
    let v = g.D.Desk.view c.args.desk.now in
    let w = g.D.Desk.view c.brief.new.self in
    let id = c.args.id in
    let p = c.args.p in
    let x = Hold p id in
    let l = (rules_of v).rows in
    let t = c.in_ok-brief.ensures.turned in
    let o = c.in_ok-brief.field-0 in
    let arc = c.in-Some.brief in
    let b = arc.value in
    let e : o.brief ≡ Some arc = let s = c.in_ok-brief.brief-is in let y = c.in-Some.is in cc in
    let its = brief_brought v w id p o arc t.same t.answered e in
    subst (λ (z : Option Held). Going (line_left hand x) (at_end z) v w)
    (ap (option_map (share_for l p id)) (ap briefed its.goes) ∙ ap (λ (z : ℕ). Some (share_for l p z b.signature)) (sym its.number))
    (calls_from hand (does x) (call.Brief id) o.reply (ShowsBrief id) o v w refl t.answered)

pub returns-in-Some-clause-fits : goal.returns-in-Some-clause-fits
returns-in-Some-clause-fits g c =
    let v = g.D.Desk.view c.args.desk.now in
    let w = g.D.Desk.view c.brief.new.self in
    let t = c.in_ok-brief.ensures.turned in
    let o = c.in_ok-brief.field-0 in
    let arc = c.in-Some.brief in
    let e : o.brief ≡ Some arc = let s = c.in_ok-brief.brief-is in let y = c.in-Some.is in cc in
    let its = brief_brought v w c.args.id c.args.p o arc t.same t.answered e in
    subst (λ (z : Fixture). IsHeld z.known (behind z.known w.seen) (record { p = c.args.p; brief = arc })) (sym t.same)
    (subst (λ (z : Fixture). IsHeld (known_of v) (behind z.known w.seen) (record { p = c.args.p; brief = arc })) t.same (record { party = c.requires.party; brings = its.brings }))
