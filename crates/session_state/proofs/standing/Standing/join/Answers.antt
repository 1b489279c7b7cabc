-- What is planned for those who are present then is issued.
use Rattle.std.proofs.Common.{◌≡◌, ◌∙◌, sym, ap, refl, ℕ}
use Rattle.proto_names.specs.Groups.{with_party}
use Rattle.session_rules.specs.declared.call.Call.TheVariants as call
use Rattle.session_rules.specs.declared.reply.Reply.TheVariants as reply
use Rattle.session_rules.specs.declared.deed.Deed.TheVariants.{Joins}
use Rattle.session_rules.specs.States.{State}
use Rattle.session_rules.specs.Deeds.{changed}
use Rattle.session_spec.specs.Stores.{nothing_brought, with_deed}
use Rattle.session_state.specs.Standings.{rules_of, state, joined}
use Rattle.session_state.specs.declared.standing.Standing.{Standing}
use Rattle.session_state.proofs.Leading.{fair_join, kept_mid}
use Rattle.session_state.proofs.Onward.{refused, its_deed, kept_changed, Leads, leads_state, leads_store}
use Rattle.session_state.proofs.standing.Standing.join.Goals as goal

pub returns-then-is_nothing-clause-state : goal.returns-then-is_nothing-clause-state
returns-then-is_nothing-clause-state c =
    let st = c.args.self.now in let e = c.verdict_on_join-verdict.ensures in
    (refused st c.verdict_on_join-verdict.result (joined st c.args.p) nothing_brought e.said (sym c.is_nothing.ensures ∙ c.if-is_nothing.true)).0

pub returns-then-is_nothing-clause-store : goal.returns-then-is_nothing-clause-store
returns-then-is_nothing-clause-store c =
    let st = c.args.self.now in let e = c.verdict_on_join-verdict.ensures in
    (refused st c.verdict_on_join-verdict.result (joined st c.args.p) nothing_brought e.said (sym c.is_nothing.ensures ∙ c.if-is_nothing.true)).1

-- the party is among those who are present, for whom there is a plan
now : (st room mid : Standing) (p n : ℕ) → n ≡ with_party st.present.bits p → state room ≡ state st → state mid ≡ record (state room) { present = n } → state mid ≡ changed (Joins p) (state st)
unfolding changed
now st room mid p n with_ same gathered = gathered ∙ ap (λ (s : State). record s { present = n }) same ∙ ap (λ (m : ℕ). record (state st) { present = m }) with_

pub issue_planned-requires-clause-kept : goal.issue_planned-requires-clause-kept
issue_planned-requires-clause-kept c =
    let st = c.args.self.now in let p = c.args.p in let mid = c.gather.new.self in
    let e = c.verdict_on_join-verdict.ensures in
    let deed = its_deed c.verdict_on_join-verdict.result (joined st p) reply.Joined (Joins p) e.said (e.joins (sym c.is_nothing.ensures ∙ c.if-is_nothing.false)) in
    let has_ = now st c.room.new.self mid p c.with-present.result.bits c.with-present.ensures c.room.ensures.state c.gather.ensures.state in
    kept_mid st mid (changed (Joins p) (state st)) (c.gather.ensures.params ∙ c.room.ensures.params) (c.gather.ensures.setting ∙ c.room.ensures.setting) has_
    (kept_changed (rules_of st) (state st) 0 (call.Join p) (joined st p) (Joins p) deed (fair_join (rules_of st) (state st) p) c.requires.kept)

leads : (c : goal.After-issue_planned) → Leads c.args.self.now c.gather.new.self c.issue_planned.new.self (Joins c.args.p) nothing_brought
unfolding with_deed
leads c = record {
  about = c.gather.ensures.setting ∙ c.room.ensures.setting;
  has_ = now c.args.self.now c.room.new.self c.gather.new.self c.args.p c.with-present.result.bits c.with-present.ensures c.room.ensures.state c.gather.ensures.state;
  keeps = c.gather.ensures.store ∙ c.room.ensures.store;
  issued = c.issue_planned.ensures.state;
  grew = c.issue_planned.ensures.store;
}

pub returns-clause-state : goal.returns-clause-state
returns-clause-state c =
    let st = c.args.self.now in let p = c.args.p in
    let e = c.verdict_on_join-verdict.ensures in
    let deed = its_deed c.verdict_on_join-verdict.result (joined st p) reply.Joined (Joins p) e.said (e.joins (sym c.is_nothing.ensures ∙ c.if-is_nothing.false)) in
    leads_state st c.gather.new.self c.issue_planned.new.self (joined st p) (Joins p) nothing_brought deed refl (leads c)

pub returns-clause-store : goal.returns-clause-store
returns-clause-store c =
    let st = c.args.self.now in let p = c.args.p in
    let e = c.verdict_on_join-verdict.ensures in
    let deed = its_deed c.verdict_on_join-verdict.result (joined st p) reply.Joined (Joins p) e.said (e.joins (sym c.is_nothing.ensures ∙ c.if-is_nothing.false)) in
    leads_store st c.gather.new.self c.issue_planned.new.self (joined st p) (Joins p) nothing_brought deed refl (leads c)
