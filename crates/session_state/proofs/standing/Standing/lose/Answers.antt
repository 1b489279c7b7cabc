-- What is planned for those who are present then is issued.
use Rattle.std.proofs.Common.{◌≡◌, ◌∙◌, sym, ap, subst, refl, ℕ}
use Rattle.session_rules.specs.declared.call.Call.TheVariants as call
use Rattle.session_rules.specs.declared.reply.Reply.TheVariants as reply
use Rattle.session_rules.specs.declared.deed.Deed.TheVariants.{Loses}
use Rattle.session_rules.specs.States.{State}
use Rattle.session_rules.specs.Deeds.{changed}
use Rattle.session_rules.specs.Facts.{Kept}
use Rattle.session_spec.specs.Settings.{Setting, rules}
use Rattle.session_spec.specs.Stores.{nothing_brought, with_deed}
use Rattle.session_state.specs.Losings.{first_lost}
use Rattle.session_state.specs.Standings.{setting, rules_of, state, lost}
use Rattle.session_state.specs.declared.standing.Standing.{Standing}
use Rattle.session_state.proofs.Live.{first_live}
use Rattle.session_state.proofs.Leading.{fair_lose, kept_mid}
use Rattle.session_state.proofs.Onward.{refused, its_deed, kept_changed, Leads, leads_state, leads_store}
use Rattle.session_state.proofs.standing.Standing.lose.Goals as goal

pub returns-then-is_nothing-clause-state : goal.returns-then-is_nothing-clause-state
returns-then-is_nothing-clause-state c =
    let st = c.args.self.now in let e = c.verdict_on_loss-verdict.ensures in
    (refused st c.verdict_on_loss-verdict.result (lost st c.args.p) nothing_brought e.said (sym c.is_nothing.ensures ∙ c.if-is_nothing.true)).0

pub returns-then-is_nothing-clause-store : goal.returns-then-is_nothing-clause-store
returns-then-is_nothing-clause-store c =
    let st = c.args.self.now in let e = c.verdict_on_loss-verdict.ensures in
    (refused st c.verdict_on_loss-verdict.result (lost st c.args.p) nothing_brought e.said (sym c.is_nothing.ensures ∙ c.if-is_nothing.true)).1

-- the first round that goes is found among the live instances
pub planned_without-requires-clause-first : goal.planned_without-requires-clause-first
planned_without-requires-clause-first c =
    c.first_lost-first.ensures ∙ ap (first_lost c.args.p) c.live.ensures ∙ first_live c.args.p c.args.self.now.table.instances.items

pub depart-requires-clause-first : goal.depart-requires-clause-first
depart-requires-clause-first c =
    c.first_lost-first.ensures ∙ ap (first_lost c.args.p) c.live.ensures ∙ first_live c.args.p c.args.self.now.table.instances.items
    ∙ ap (λ (s : State). first_lost c.args.p s.instances) (sym c.room.ensures.state)

-- the state that the loss leads to is kept
then_kept : (st room : Standing) (p : ℕ) → setting room ≡ setting st → state room ≡ state st → Kept (rules_of st) (changed (Loses p) (state st)) → Kept (rules_of room) (changed (Loses p) (state room))
then_kept st room p about same k =
    subst (λ (w : Setting). Kept (rules w) (changed (Loses p) (state room))) (sym about) (subst (λ (s : State). Kept (rules_of st) (changed (Loses p) s)) (sym same) k)

now : (st room mid : Standing) (p : ℕ) → state room ≡ state st → state mid ≡ changed (Loses p) (state room) → state mid ≡ changed (Loses p) (state st)
now st room mid p same gone = gone ∙ ap (changed (Loses p)) same

pub issue_planned-requires-clause-kept : goal.issue_planned-requires-clause-kept
issue_planned-requires-clause-kept c =
    let st = c.args.self.now in let p = c.args.p in let mid = c.depart.new.self in
    let e = c.verdict_on_loss-verdict.ensures in
    let deed = its_deed c.verdict_on_loss-verdict.result (lost st p) reply.Left (Loses p) e.said (e.loses (sym c.is_nothing.ensures ∙ c.if-is_nothing.false)) in
    let has_ = now st c.room.new.self mid p c.room.ensures.state c.depart.ensures.state in
    kept_mid st mid (changed (Loses p) (state st)) (c.depart.ensures.params ∙ c.room.ensures.params) (c.depart.ensures.setting ∙ c.room.ensures.setting) has_
    (kept_changed (rules_of st) (state st) 0 (call.Lose p) (lost st p) (Loses p) deed (fair_lose (rules_of st) (state st) p) c.requires.kept)

pub depart-requires-clause-kept_then : goal.depart-requires-clause-kept_then
depart-requires-clause-kept_then c =
    let st = c.args.self.now in let p = c.args.p in
    let e = c.verdict_on_loss-verdict.ensures in
    let deed = its_deed c.verdict_on_loss-verdict.result (lost st p) reply.Left (Loses p) e.said (e.loses (sym c.is_nothing.ensures ∙ c.if-is_nothing.false)) in
    then_kept st c.room.new.self p c.room.ensures.setting c.room.ensures.state
    (kept_changed (rules_of st) (state st) 0 (call.Lose p) (lost st p) (Loses p) deed (fair_lose (rules_of st) (state st) p) c.requires.kept)

leads : (c : goal.After-issue_planned) → Leads c.args.self.now c.depart.new.self c.issue_planned.new.self (Loses c.args.p) nothing_brought
unfolding with_deed
leads c = record {
  about = c.depart.ensures.setting ∙ c.room.ensures.setting;
  has_ = now c.args.self.now c.room.new.self c.depart.new.self c.args.p c.room.ensures.state c.depart.ensures.state;
  keeps = c.depart.ensures.store ∙ c.room.ensures.store;
  issued = c.issue_planned.ensures.state;
  grew = c.issue_planned.ensures.store;
}

pub returns-clause-state : goal.returns-clause-state
returns-clause-state c =
    let st = c.args.self.now in let p = c.args.p in
    let e = c.verdict_on_loss-verdict.ensures in
    let deed = its_deed c.verdict_on_loss-verdict.result (lost st p) reply.Left (Loses p) e.said (e.loses (sym c.is_nothing.ensures ∙ c.if-is_nothing.false)) in
    leads_state st c.depart.new.self c.issue_planned.new.self (lost st p) (Loses p) nothing_brought deed refl (leads c)

pub returns-clause-store : goal.returns-clause-store
returns-clause-store c =
    let st = c.args.self.now in let p = c.args.p in
    let e = c.verdict_on_loss-verdict.ensures in
    let deed = its_deed c.verdict_on_loss-verdict.result (lost st p) reply.Left (Loses p) e.said (e.loses (sym c.is_nothing.ensures ∙ c.if-is_nothing.false)) in
    leads_store st c.depart.new.self c.issue_planned.new.self (lost st p) (Loses p) nothing_brought deed refl (leads c)
