-- A circuit that is given back is idle again.
use Rattle.std.proofs.Common.{◌≡◌, ◌∙◌, sym, ap, refl, ℕ, ◌<◌, length, length-set}
use Rattle.session_rules.specs.declared.deed.Deed.{Deed}
use Rattle.session_rules.specs.declared.deed.Deed.TheVariants.{Turns}
use Rattle.session_rules.specs.declared.reply.Reply.TheVariants as reply
use Rattle.session_rules.specs.declared.state.CircuitState.TheVariants.{Idle}
use Rattle.session_rules.specs.Deeds.{with_circuit, changed, done}
use Rattle.session_spec.specs.Stores.{nothing_brought, with_turn, with_deed, store_done}
use Rattle.session_state.specs.Standings.{setting, rules_of, state, store, returned, state_then, store_then}
use Rattle.session_state.specs.declared.standing.Standing.{Standing}
use Rattle.session_state.proofs.Takings.{taken_matches}
use Rattle.session_state.proofs.Leading.{done_stays, store_stays}
use Rattle.session_state.proofs.Onward.{refused, its_deed}
use Rattle.session_state.proofs.Returns.{idle_holds}
use Rattle.session_state.proofs.standing.Standing.give_back.Goals as goal

pub returns-then-is_nothing-clause-state : goal.returns-then-is_nothing-clause-state
returns-then-is_nothing-clause-state c =
    let st = c.args.self.now in let e = c.verdict_on_return-verdict.ensures in
    (refused st c.verdict_on_return-verdict.result (returned st c.args.caller c.args.circuit) nothing_brought e.said (sym c.is_nothing.ensures ∙ c.if-is_nothing.true)).0

pub returns-then-is_nothing-clause-store : goal.returns-then-is_nothing-clause-store
returns-then-is_nothing-clause-store c =
    let st = c.args.self.now in let e = c.verdict_on_return-verdict.ensures in
    (refused st c.verdict_on_return-verdict.result (returned st c.args.caller c.args.circuit) nothing_brought e.said (sym c.is_nothing.ensures ∙ c.if-is_nothing.true)).1

module _ (st : Standing) (who n : ℕ) (its : (returned st who n).deed ≡ Turns n Idle) where
  idle_state : with_circuit (state st) n Idle ≡ state_then st (returned st who n)
  unfolding changed
  idle_state = sym (ap (λ (z : Deed). done (rules_of st) z (state st)) its ∙ done_stays (rules_of st) (Turns n Idle) (state st) refl)

  idle_store : store st ≡ store_then st (returned st who n) nothing_brought
  unfolding with_deed with_turn
  idle_store =
      let last = (state_then st (returned st who n)).instances in
      sym (ap (λ (z : Deed). store_done (setting st) z nothing_brought last (store st)) its ∙ store_stays (setting st) (Turns n Idle) nothing_brought last (store st) refl)

pub invariant_of-self : goal.invariant_of-self
invariant_of-self c =
    let st = c.args.self.now in let n = c.args.circuit in
    let within : n < length st.states.items = c.verdict_on_return-verdict.ensures.there (sym c.is_nothing.ensures ∙ c.if-is_nothing.false) in
    record {
      ring_is = st.ring_is;
      groups_are = st.groups_are;
      grouped = st.grouped;
      table_is = st.table_is;
      rules_are = st.rules_are;
      needed_are = st.needed_are;
      setting_is = st.setting_is;
      few = st.few;
      lengths = (st.lengths.0, st.lengths.1, length-set st.states.items n Idle ∙ st.lengths.2);
      few_inputs = st.few_inputs;
      few_turns = st.few_turns;
      matches = taken_matches (setting st) (state st) (store st) _ st.matches;
      holds = idle_holds st.params (state st) (store st) n within st.holds;
      keyed = st.keyed;
    }

pub returns-clause-state : goal.returns-clause-state
returns-clause-state c =
    let st = c.args.self.now in let e = c.verdict_on_return-verdict.ensures in let who = c.args.caller in let n = c.args.circuit in
    idle_state st who n (its_deed c.verdict_on_return-verdict.result (returned st who n) reply.Returned (Turns n Idle) e.said (e.ends (sym c.is_nothing.ensures ∙ c.if-is_nothing.false)))

pub returns-clause-store : goal.returns-clause-store
returns-clause-store c =
    let st = c.args.self.now in let e = c.verdict_on_return-verdict.ensures in let who = c.args.caller in let n = c.args.circuit in
    idle_store st who n (its_deed c.verdict_on_return-verdict.result (returned st who n) reply.Returned (Turns n Idle) e.said (e.ends (sym c.is_nothing.ensures ∙ c.if-is_nothing.false)))
