-- Who is present isn't looked at, nor are void instances; the reply is no list.
use Rattle.std.proofs.Common.{◌≡◌, ◌∙◌, ap, ℕ}
use Rattle.participants.specs.Live.{live_ones}
use Rattle.session_rules.specs.declared.call.Call.TheVariants as call
use Rattle.session_rules.specs.declared.deed.Verdict.{Verdict}
use Rattle.session_rules.specs.declared.fixed.Fixed.{Fixed}
use Rattle.session_rules.specs.States.{seen}
use Rattle.session_rules.specs.Steps.{take}
use Rattle.session_rules.proofs.Live.{take_live}
use Rattle.session_state.specs.Handed.{is_list}
use Rattle.session_state.specs.Standings.{rules_of, state, taken}
use Rattle.session_state.specs.declared.standing.Standing.{Standing}
use Rattle.session_state.proofs.Leading.{plain, fair_take}
use Rattle.session_state.proofs.Takings.{take_seen}
use Rattle.session_state.proofs.standing.Standing.verdict_on_take.Goals as goal

said_so : (st : Standing) (who : ℕ) (v : Verdict) → v ≡ take st.rules (seen 0 (live_ones st.table.instances.items) st.given.items st.states.items) who → v ≡ taken st who
said_so st who v e = e ∙ take_live st.rules st.table.instances.items st.given.items st.states.items who ∙ take_seen st.rules (state st) who ∙ ap (λ (f : Fixed). take f (state st) who) st.rules_are

pub returns-clause-said : goal.returns-clause-said
returns-clause-said c =
    let instances = c.live.ensures in
    let given = c.as_slice.ensures.value in
    let states = c.as_slice-2.ensures.value in
    let said = c.judge_take.ensures in
    said_so c.args.self.now c.args.caller c.judge_take.result cc

pub returns-clause-plain : goal.returns-clause-plain
returns-clause-plain c =
    let st = c.args.self.now in let who = c.args.caller in let v = taken st who in
    ap (λ (z : Verdict). is_list z.reply) (returns-clause-said c)
    ∙ plain (rules_of st) (state st) who call.Take v.reply v.deed (fair_take (rules_of st) (state st) who) (λ q e. cc)
