use Rattle.std.proofs.Common.{◌≡◌, ◌∙◌, sym, ap, subst, refl, ℕ, [], ◌∷◌}
use Rattle.instance_table.specs.declared.brief.Brief.{Brief}
use Rattle.session_rules.specs.declared.call.Call.TheVariants as call
use Rattle.session_rules.specs.Tasks.{Held, shares, delivers, share_for, briefed}
use Rattle.session_core.specs.declared.stop.Stop.{Stop}
use Rattle.lane_workers.specs.Desks.{View, Fixture, ShowsBrief, known_of, rules_of, state_seen, behind}
use Rattle.lane_workers.specs.Hands.{CanBring}
use Rattle.lane_workers.specs.Doing.{Doing, Did, BrokeOff}
use Rattle.lane_workers.proofs.Going.{if_err, on_ok, if_err_so, rows_are, stops, does_on, stops_in}
use Rattle.lane_workers.proofs.Asking.{share_owed, no_share_owed}
use Rattle.lane_workers.proofs.Stays.{brief_brought, none_briefed}
use Rattle.lane_workers.proofs.sending.share.Goals as goal

pub returns-in_err-briefing-clause-stopped : goal.returns-in_err-briefing-clause-stopped
returns-in_err-briefing-clause-stopped g c =
    let v = g.D.Desk.view c.args.desk.now in
    let w = g.D.Desk.view c.brief.new.self in
    let t = shares (g.P.Party.number c.args.party.now) c.args.id in
    if_err c.from_residual.result _ (BrokeOff (t ∷ []) v w) c.from_residual.ensures.1
    (stops t (call.Brief c.args.id) _ v w refl c.in_err-briefing.ensures.turned.unanswered)

pub returns-in-None-clause-done : goal.returns-in-None-clause-done
returns-in-None-clause-done g c =
    let v = g.D.Desk.view c.args.desk.now in
    let w = g.D.Desk.view c.brief.new.self in
    let x = c.in_ok-briefing.briefing in
    let a = c.in_ok-briefing.ensures.turned.answered in
    no_share_owed (g.P.Party.number c.args.party.now) c.args.id x.reply (ShowsBrief c.args.id) x v w a (none_briefed v w c.args.id x a c.in-None.is)

pub bring_share-requires-clause-brief : goal.bring_share-requires-clause-brief
bring_share-requires-clause-brief g c κs within =
    let v = g.D.Desk.view c.args.desk.now in
    let w = g.D.Desk.view c.brief.new.self in
    let t = c.in_ok-briefing.ensures.turned in
    let p = g.P.Party.number c.args.party.now in
    let its = brief_brought v w c.args.id p c.in_ok-briefing.briefing c.in-Some.brief t.same t.answered c.in-Some.is in
    subst (λ (z : Fixture). CanBring z.known (behind z.known w.seen) p c.deref.result.now) (sym t.same)
    (subst (λ (z : Fixture). CanBring (known_of v) (behind z.known w.seen) p c.deref.result.now) t.same
    (subst (λ (z : Brief). CanBring (known_of v) (state_seen w) p z) (sym c.deref.ensures) its.brings))

-- ---- the share of the brief is delivered, which is owed then

same_held : (p id : ℕ) (a b : Brief) (v u : View) → b ≡ a → a.id ≡ id → u.fixed ≡ v.fixed → share_for (rules_of u).rows p b.id b.signature ≡ share_for (rules_of v).rows p id a.signature
same_held p id a b v u e n same =
    ap (λ (l : ℕ). share_for l p b.id b.signature) (rows_are v u same) ∙ ap (λ (z : Brief). share_for (rules_of v).rows p z.id z.signature) e ∙ ap (λ (z : ℕ). share_for (rules_of v).rows p z a.signature) n

delivered : (p id : ℕ) (a b : Brief) (v u w : View) → b ≡ a → a.id ≡ id → u.fixed ≡ v.fixed → Doing (shares p id ∷ []) (delivers (share_for (rules_of v).rows p id a.signature) ∷ []) v u
    → Did (delivers (share_for (rules_of u).rows p b.id b.signature) ∷ []) u w → Did (shares p id ∷ []) v w
delivered p id a b v u w e n same owed d =
    does_on (shares p id ∷ []) (delivers (share_for (rules_of v).rows p id a.signature) ∷ []) [] [] v u w same owed (subst (λ (z : Held). Did (delivers z ∷ []) u w) (same_held p id a b v u e n same) d)

undelivered : (p id : ℕ) (a b : Brief) (why : Stop) (v u w : View) → b ≡ a → a.id ≡ id → u.fixed ≡ v.fixed → Doing (shares p id ∷ []) (delivers (share_for (rules_of v).rows p id a.signature) ∷ []) v u
    → BrokeOff (delivers (share_for (rules_of u).rows p b.id b.signature) ∷ []) u w why → BrokeOff (shares p id ∷ []) v w why
undelivered p id a b why v u w e n same owed d =
    stops_in (shares p id ∷ []) (delivers (share_for (rules_of v).rows p id a.signature) ∷ []) [] why v u w same owed
    (subst (λ (z : Held). BrokeOff (delivers z ∷ []) u w why) (same_held p id a b v u e n same) d)

pub returns-clause-done : goal.returns-clause-done
returns-clause-done g c =
    let v = g.D.Desk.view c.args.desk.now in
    let u = g.D.Desk.view c.brief.new.self in
    let w = g.D.Desk.view c.bring_share.new.desk in
    let t = c.in_ok-briefing.ensures.turned in
    let p = g.P.Party.number c.args.party.now in
    let id = c.args.id in
    let x = c.in_ok-briefing.briefing in
    let a = c.in-Some.brief.value in
    let b = c.deref.result.now in
    let its = brief_brought v u id p x c.in-Some.brief t.same t.answered c.in-Some.is in
    let owed = share_owed p id x.reply a.signature (ShowsBrief id) x v u t.answered (ap briefed its.goes) in
    on_ok c.bring_share.result (Did (delivers (share_for (rules_of u).rows p b.id b.signature) ∷ []) u w) (Did (shares p id ∷ []) v w)
    (delivered p id a b v u w c.deref.ensures its.number t.same owed) c.bring_share.ensures.done

pub returns-clause-stopped : goal.returns-clause-stopped
returns-clause-stopped g c =
    let v = g.D.Desk.view c.args.desk.now in
    let u = g.D.Desk.view c.brief.new.self in
    let w = g.D.Desk.view c.bring_share.new.desk in
    let t = c.in_ok-briefing.ensures.turned in
    let p = g.P.Party.number c.args.party.now in
    let id = c.args.id in
    let x = c.in_ok-briefing.briefing in
    let a = c.in-Some.brief.value in
    let b = c.deref.result.now in
    let its = brief_brought v u id p x c.in-Some.brief t.same t.answered c.in-Some.is in
    let owed = share_owed p id x.reply a.signature (ShowsBrief id) x v u t.answered (ap briefed its.goes) in
    if_err_so c.bring_share.result (BrokeOff (delivers (share_for (rules_of u).rows p b.id b.signature) ∷ []) u w) (BrokeOff (shares p id ∷ []) v w)
    (λ why. undelivered p id a b why v u w c.deref.ensures its.number t.same owed) c.bring_share.ensures.stopped
