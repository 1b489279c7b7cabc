use Rattle.std.proofs.Common.{◌≡◌, ◌∙◌, ap, subst, ℕ, [], ◌∷◌, Some}
use Rattle.instance_table.specs.declared.brief.Brief.{Brief}
use Rattle.session_rules.specs.declared.line.Line.TheVariants.{Give}
use Rattle.session_rules.specs.Tasks.{Held, delivers, share_for}
use Rattle.lane_workers.specs.Desks.{rules_of}
use Rattle.lane_workers.specs.Hands.{held}
use Rattle.lane_workers.specs.Doing.{Did, BrokeOff, Going, CutOff, line_left, at_end}
use Rattle.lane_workers.proofs.Giving.{gives_it, gives_off, on_ok_so, if_err_so}
use Rattle.lane_workers.proofs.serving.give.Goals as goal

pub returns-clause-done : goal.returns-clause-done
returns-clause-done g c =
    let v = g.D.Desk.view c.args.desk.now in
    let w = g.D.Desk.view c.bring_share.new.desk in
    let h = held (rules_of v) c.args.holding.now in
    let b = c.deref.result.now in
    let brought = share_for (rules_of v).rows (g.P.Party.number c.party_of-party.result.now) b.id b.signature in
    let is : brought ≡ h =
    ap (λ (z : ℕ). share_for (rules_of v).rows z b.id b.signature) c.party_of-party.ensures.number ∙ ap (λ (z : Brief). share_for (rules_of v).rows c.args.holding.now.p z.id z.signature) c.deref.ensures in
    on_ok_so c.bring_share.result (Did (delivers brought ∷ []) v w) (Going (line_left (Some h) Give) (at_end (Some h)) v w)
    (λ d. gives_it h v w (subst (λ (z : Held). Did (delivers z ∷ []) v w) is d)) c.bring_share.ensures.done

pub returns-clause-stopped : goal.returns-clause-stopped
returns-clause-stopped g c =
    let v = g.D.Desk.view c.args.desk.now in
    let w = g.D.Desk.view c.bring_share.new.desk in
    let h = held (rules_of v) c.args.holding.now in
    let b = c.deref.result.now in
    let brought = share_for (rules_of v).rows (g.P.Party.number c.party_of-party.result.now) b.id b.signature in
    let is : brought ≡ h =
    ap (λ (z : ℕ). share_for (rules_of v).rows z b.id b.signature) c.party_of-party.ensures.number ∙ ap (λ (z : Brief). share_for (rules_of v).rows c.args.holding.now.p z.id z.signature) c.deref.ensures in
    if_err_so c.bring_share.result (BrokeOff (delivers brought ∷ []) v w) (CutOff (line_left (Some h) Give) v w)
    (λ why d. gives_off h v w why (subst (λ (z : Held). BrokeOff (delivers z ∷ []) v w why) is d)) c.bring_share.ensures.stopped
