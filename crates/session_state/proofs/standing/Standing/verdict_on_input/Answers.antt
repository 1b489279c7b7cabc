-- What the rules look at is of the standing, and void instances play no part; the reply is no list.
use Rattle.std.proofs.Common.{◌≡◌, ◌∙◌, sym, ap, ℕ, true, false, []}
use Rattle.participants.specs.Live.{live_ones}
use Rattle.session_rules.specs.declared.call.Call.TheVariants as call
use Rattle.session_rules.specs.declared.reply.Reply.TheVariants as reply
use Rattle.session_rules.specs.declared.deed.Deed.TheVariants.{Gives}
use Rattle.session_rules.specs.declared.deed.Verdict.{Verdict}
use Rattle.session_rules.specs.declared.fixed.Fixed.{Fixed}
use Rattle.session_rules.specs.States.{seen}
use Rattle.session_rules.specs.Deeds.{is_nothing}
use Rattle.session_rules.specs.Steps.{is_input, input}
use Rattle.session_rules.proofs.Live.{input_live}
use Rattle.session_rules.proofs.Seen.{input_seen}
use Rattle.session_state.specs.Handed.{is_list}
use Rattle.session_state.specs.Standings.{rules_of, state, inputted}
use Rattle.session_state.specs.declared.standing.Standing.{Standing}
use Rattle.session_state.proofs.Leading.{IsDone, plain, input_does, fair_input}
use Rattle.session_state.proofs.Onward.{verdict_is}
use Rattle.session_state.proofs.standing.Standing.verdict_on_input.Goals as goal

said_so : (st : Standing) (c k : ℕ) (v : Verdict) → v ≡ input st.rules (seen st.present.bits (live_ones st.table.instances.items) st.given.items []) c k → v ≡ inputted st c k
said_so st c k v e = e ∙ input_live st.rules st.present.bits st.table.instances.items st.given.items c k ∙ input_seen st.rules (state st) c k ∙ ap (λ (f : Fixed). input f (state st) c k) st.rules_are

pub returns-clause-said : goal.returns-clause-said
returns-clause-said c = said_so c.args.self.now c.args.circuit c.args.input c.judge_input.result cc

-- where it isn't refused
does_so : (st : Standing) (c k : ℕ) (v : Verdict) → v ≡ inputted st c k → is_nothing v.deed ≡ false
    → IsDone (inputted st c k).deed (Gives c k) (inputted st c k).reply reply.Given × (is_input (rules_of st) c k ≡ true)
does_so st c k v same some =
    let f = rules_of st in let s = state st in let w = inputted st c k in
    input_does f s c k w.reply w.deed (fair_input f s c k) (ap (λ (z : Verdict). is_nothing z.deed) (sym same) ∙ some)

pub returns-clause-gives : goal.returns-clause-gives
returns-clause-gives c some =
    let st = c.args.self.now in let n = c.args.circuit in let k = c.args.input in
    let same = returns-clause-said c in
    same ∙ verdict_is (inputted st n k) reply.Given (Gives n k) (does_so st n k c.judge_input.result same some).0

pub returns-clause-wanted : goal.returns-clause-wanted
returns-clause-wanted c some = (does_so c.args.self.now c.args.circuit c.args.input c.judge_input.result (returns-clause-said c) some).1

pub returns-clause-plain : goal.returns-clause-plain
returns-clause-plain c =
    let st = c.args.self.now in let n = c.args.circuit in let k = c.args.input in let v = inputted st n k in
    ap (λ (z : Verdict). is_list z.reply) (returns-clause-said c)
    ∙ plain (rules_of st) (state st) 0 (call.Input n k) v.reply v.deed (fair_input (rules_of st) (state st) n k) (λ q e. cc)
