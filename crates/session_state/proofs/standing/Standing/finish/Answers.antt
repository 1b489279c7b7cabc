-- What is planned once the circuit is evaluated then is issued.
use Rattle.std.proofs.Common.{◌≡◌, ◌∙◌, sym, ap, refl, ℕ}
use Rattle.session_rules.specs.declared.call.Call.TheVariants as call
use Rattle.session_rules.specs.declared.reply.Reply.TheVariants as reply
use Rattle.session_rules.specs.declared.deed.Deed.TheVariants.{Turns}
use Rattle.session_rules.specs.declared.state.CircuitState.TheVariants.{Evaluated}
use Rattle.session_rules.specs.States.{State}
use Rattle.session_rules.specs.Deeds.{with_circuit, changed}
use Rattle.session_spec.specs.Stores.{Store, cipher_brought, with_output, with_turn, with_deed}
use Rattle.session_state.specs.Standings.{rules_of, state, finished}
use Rattle.session_state.specs.declared.standing.Standing.{Standing}
use Rattle.session_state.proofs.Leading.{fair_finish, kept_mid}
use Rattle.session_state.proofs.Onward.{refused, its_deed, kept_changed, Leads, leads_state, leads_store}
use Rattle.session_state.proofs.standing.Standing.finish.Goals as goal

pub returns-then-is_nothing-clause-state : goal.returns-then-is_nothing-clause-state
returns-then-is_nothing-clause-state c =
    let st = c.args.self.now in let e = c.verdict_on_finish-verdict.ensures in
    (refused st c.verdict_on_finish-verdict.result (finished st c.args.caller c.args.circuit) (cipher_brought c.args.ct) e.said (sym c.is_nothing.ensures ∙ c.if-is_nothing.true)).0

pub returns-then-is_nothing-clause-store : goal.returns-then-is_nothing-clause-store
returns-then-is_nothing-clause-store c =
    let st = c.args.self.now in let e = c.verdict_on_finish-verdict.ensures in
    (refused st c.verdict_on_finish-verdict.result (finished st c.args.caller c.args.circuit) (cipher_brought c.args.ct) e.said (sym c.is_nothing.ensures ∙ c.if-is_nothing.true)).1

-- the circuit is evaluated, for which there is a plan
now : (st room mid : Standing) (c : ℕ) → state room ≡ state st → state mid ≡ with_circuit (state room) c Evaluated → state mid ≡ changed (Turns c Evaluated) (state st)
unfolding changed
now st room mid c same turned = turned ∙ ap (λ (s : State). with_circuit s c Evaluated) same

pub issue_planned-requires-clause-kept : goal.issue_planned-requires-clause-kept
issue_planned-requires-clause-kept c =
    let st = c.args.self.now in let who = c.args.caller in let n = c.args.circuit in let mid = c.evaluate.new.self in
    let e = c.verdict_on_finish-verdict.ensures in
    let deed = its_deed c.verdict_on_finish-verdict.result (finished st who n) reply.Finished (Turns n Evaluated) e.said (e.ends (sym c.is_nothing.ensures ∙ c.if-is_nothing.false)) in
    let has_ = now st c.room.new.self mid n c.room.ensures.state c.evaluate.ensures.state in
    kept_mid st mid (changed (Turns n Evaluated) (state st)) (c.evaluate.ensures.params ∙ c.room.ensures.params) (c.evaluate.ensures.setting ∙ c.room.ensures.setting) has_
    (kept_changed (rules_of st) (state st) who (call.Finish n) (finished st who n) (Turns n Evaluated) deed (fair_finish (rules_of st) (state st) who n) c.requires.kept)

leads : (c : goal.After-issue_planned) → Leads c.args.self.now c.evaluate.new.self c.issue_planned.new.self (Turns c.args.circuit Evaluated) (cipher_brought c.args.ct)
unfolding with_deed with_turn
leads c = record {
  about = c.evaluate.ensures.setting ∙ c.room.ensures.setting;
  has_ = now c.args.self.now c.room.new.self c.evaluate.new.self c.args.circuit c.room.ensures.state c.evaluate.ensures.state;
  keeps = c.evaluate.ensures.store ∙ ap (λ (h : Store). with_output c.args.circuit c.args.ct h) c.room.ensures.store;
  issued = c.issue_planned.ensures.state;
  grew = c.issue_planned.ensures.store;
}

pub returns-clause-state : goal.returns-clause-state
returns-clause-state c =
    let st = c.args.self.now in let who = c.args.caller in let n = c.args.circuit in
    let e = c.verdict_on_finish-verdict.ensures in
    let deed = its_deed c.verdict_on_finish-verdict.result (finished st who n) reply.Finished (Turns n Evaluated) e.said (e.ends (sym c.is_nothing.ensures ∙ c.if-is_nothing.false)) in
    leads_state st c.evaluate.new.self c.issue_planned.new.self (finished st who n) (Turns n Evaluated) (cipher_brought c.args.ct) deed refl (leads c)

pub returns-clause-store : goal.returns-clause-store
returns-clause-store c =
    let st = c.args.self.now in let who = c.args.caller in let n = c.args.circuit in
    let e = c.verdict_on_finish-verdict.ensures in
    let deed = its_deed c.verdict_on_finish-verdict.result (finished st who n) reply.Finished (Turns n Evaluated) e.said (e.ends (sym c.is_nothing.ensures ∙ c.if-is_nothing.false)) in
    leads_store st c.evaluate.new.self c.issue_planned.new.self (finished st who n) (Turns n Evaluated) (cipher_brought c.args.ct) deed refl (leads c)
