-- What is taken is the least circuit that is ready, which is the caller's then.
use Rattle.std.proofs.Common.{◌≡◌, ◌∙◌, sym, ap, refl, ℕ, ◌<◌, length, arith, length-set}
use Rattle.session_rules.specs.declared.reply.Reply.TheVariants as reply
use Rattle.session_rules.specs.declared.deed.Deed.{Deed}
use Rattle.session_rules.specs.declared.deed.Deed.TheVariants.{Turns}
use Rattle.session_rules.specs.declared.deed.Verdict.{Verdict}
use Rattle.session_rules.specs.declared.state.CircuitState.{CircuitState}
use Rattle.session_rules.specs.declared.state.CircuitState.TheVariants.{Taken}
use Rattle.session_rules.specs.Deeds.{is_nothing, with_circuit, changed, done}
use Rattle.session_rules.specs.Steps.{says}
use Rattle.session_rules.proofs.Readiness.{found_ready}
use Rattle.session_spec.specs.Stores.{nothing_brought, with_turn, with_deed, store_done}
use Rattle.session_state.specs.Standings.{setting, rules_of, state, store, taken, state_then, store_then}
use Rattle.session_state.specs.declared.standing.Standing.{Standing}
use Rattle.session_state.proofs.Rows.{rules_number}
use Rattle.session_state.proofs.Takings.{IsTheirs, take_turns, take_none, on_err, taken_holds, taken_matches}
use Rattle.session_state.proofs.Leading.{stays, done_stays, store_stays}
use Rattle.session_state.proofs.standing.Standing.take.Goals as goal

-- none is ready
none_ready : (c : goal.In_default) → taken c.args.self.now c.args.caller ≡ says reply.Nothing
none_ready c =
    let st = c.args.self.now in let same = c.verdict_on_take-verdict.ensures.said in
    take_none (rules_of st) (state st) c.args.caller (λ n now e. c.in_default.not-Turns n now (ap (λ (v : Verdict). v.deed) same ∙ e))

pub returns-in_default-clause-state : goal.returns-in_default-clause-state
returns-in_default-clause-state c = (stays c.args.self.now (taken c.args.self.now c.args.caller) nothing_brought (ap (λ (v : Verdict). is_nothing v.deed) (none_ready c))).0

pub returns-in_default-clause-store : goal.returns-in_default-clause-store
returns-in_default-clause-store c = (stays c.args.self.now (taken c.args.self.now c.args.caller) nothing_brought (ap (λ (v : Verdict). is_nothing v.deed) (none_ready c))).1

pub returns-in_default-clause-there : goal.returns-in_default-clause-there
returns-in_default-clause-there c e = ap (λ (v : Verdict). v.reply) (none_ready c)

-- this one is
module _ (st : Standing) (who d : ℕ) (now : CircuitState) (v : Verdict) (same : v ≡ taken st who) (is : v.deed ≡ Turns d now) where
  one : IsTheirs (rules_of st) (state st) who (taken st who).reply d now
  one = take_turns (rules_of st) (state st) who d now (ap (λ (z : Verdict). z.deed) (sym same) ∙ is)

  one_deed : (taken st who).deed ≡ Turns d (Taken who)
  one_deed = ap (λ (z : Verdict). z.deed) (sym same) ∙ is ∙ ap (Turns d) one.taken

  one_within : d < length st.circuits
  one_within = let l = (found_ready (rules_of st) (state st) d one.next).1 in omega (arith, l, rules_number (setting st))

  one_state : with_circuit (state st) d now ≡ state_then st (taken st who)
  unfolding changed
  one_state =
      ap (with_circuit (state st) d) one.taken
      ∙ sym (ap (λ (z : Deed). done (rules_of st) z (state st)) one_deed ∙ done_stays (rules_of st) (Turns d (Taken who)) (state st) refl)

  one_store : store st ≡ store_then st (taken st who) nothing_brought
  unfolding with_deed with_turn
  one_store =
      let then = (state_then st (taken st who)).instances in
      sym (ap (λ (z : Deed). store_done (setting st) z nothing_brought then (store st)) one_deed
      ∙ store_stays (setting st) (Turns d (Taken who)) nothing_brought then (store st) refl)

pub job-requires-clause-there : goal.job-requires-clause-there
job-requires-clause-there c =
    let v = c.verdict_on_take-verdict in let d = c.in-Turns in
    one_within c.args.self.now c.args.caller d.circuit d.to v.result v.ensures.said d.is

pub job-requires-clause-ready : goal.job-requires-clause-ready
job-requires-clause-ready c =
    let st = c.args.self.now in let v = c.verdict_on_take-verdict in let d = c.in-Turns in
    let its = one st c.args.caller d.circuit d.to v.result v.ensures.said d.is in
    (found_ready (rules_of st) (state st) d.circuit its.next).0

pub returns-in_err-job-clause-free : goal.returns-in_err-job-clause-free
returns-in_err-job-clause-free c =
    let st = c.args.self.now in let v = c.verdict_on_take-verdict in let d = c.in-Turns in
    let said = (one st c.args.caller d.circuit d.to v.result v.ensures.said d.is).reply in
    on_err c.from_residual.result ((taken st c.args.caller).reply ≡ reply.Nothing → ⊥) (λ e. let none : reply.Job d.circuit ≡ reply.Nothing = sym said ∙ e in cc)

pub index_mut-requires : goal.index_mut-requires
index_mut-requires c =
    let st = c.args.self.now in let v = c.verdict_on_take-verdict in let d = c.in-Turns in
    omega (arith, one_within st c.args.caller d.circuit d.to v.result v.ensures.said d.is, st.lengths.2, st.states.ok.0)

pub invariant_of-self : goal.invariant_of-self
invariant_of-self c =
    let st = c.args.self.now in let v = c.verdict_on_take-verdict in let d = c.in-Turns in
    let its = one st c.args.caller d.circuit d.to v.result v.ensures.said d.is in
    let within : d.circuit < length st.states.items = omega (arith, one_within st c.args.caller d.circuit d.to v.result v.ensures.said d.is, st.lengths.2) in
    record {
      ring_is = st.ring_is;
      groups_are = st.groups_are;
      grouped = st.grouped;
      table_is = st.table_is;
      rules_are = st.rules_are;
      needed_are = st.needed_are;
      setting_is = st.setting_is;
      few = st.few;
      lengths = (st.lengths.0, st.lengths.1, length-set st.states.items d.circuit d.to ∙ st.lengths.2);
      few_inputs = st.few_inputs;
      few_turns = st.few_turns;
      matches = taken_matches (setting st) (state st) (store st) _ st.matches;
      holds = rw its.taken (taken_holds st.params (state st) (store st) d.circuit c.args.caller within st.holds);
      keyed = st.keyed;
    }

pub returns-clause-state : goal.returns-clause-state
returns-clause-state c =
    let v = c.verdict_on_take-verdict in let d = c.in-Turns in
    one_state c.args.self.now c.args.caller d.circuit d.to v.result v.ensures.said d.is

pub returns-clause-store : goal.returns-clause-store
returns-clause-store c =
    let v = c.verdict_on_take-verdict in let d = c.in-Turns in
    one_store c.args.self.now c.args.caller d.circuit d.to v.result v.ensures.said d.is

pub returns-clause-job : goal.returns-clause-job
returns-clause-job c =
    let v = c.verdict_on_take-verdict in let d = c.in-Turns in
    let its = one c.args.self.now c.args.caller d.circuit d.to v.result v.ensures.said d.is in
    let same = c.in_ok-job.ensures.circuit.number in
    its.reply ∙ ap (λ (z : ℕ). reply.Job z) (sym same)
