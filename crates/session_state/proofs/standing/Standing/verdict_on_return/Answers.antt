-- How far the circuits have come is all that is looked at; the reply is no list.
use Rattle.std.proofs.Common.{◌≡◌, ◌∙◌, sym, ap, ℕ, ◌<◌, false, inl, inr, List, [], length}
use Rattle.std.proofs.lemmas.Bool.{cases_lt}
use Rattle.std.proofs.lemmas.List.{get_or_past}
use Rattle.session_rules.specs.declared.call.Call.TheVariants as call
use Rattle.session_rules.specs.declared.reply.Reply.TheVariants as reply
use Rattle.session_rules.specs.declared.deed.Deed.TheVariants.{Turns}
use Rattle.session_rules.specs.declared.deed.Verdict.{Verdict}
use Rattle.session_rules.specs.declared.state.CircuitState.{CircuitState}
use Rattle.session_rules.specs.declared.state.CircuitState.TheVariants.{Idle, Taken, Answered}
use Rattle.session_rules.specs.States.{seen, circuit}
use Rattle.session_rules.specs.Deeds.{is_nothing}
use Rattle.session_rules.specs.Steps.{give_back}
use Rattle.session_state.specs.Handed.{is_list}
use Rattle.session_state.specs.Standings.{rules_of, state, returned}
use Rattle.session_state.specs.declared.standing.Standing.{Standing}
use Rattle.session_state.proofs.Leading.{IsDone, plain, return_does, fair_return}
use Rattle.session_state.proofs.Returns.{return_seen}
use Rattle.session_state.proofs.Onward.{verdict_is}
use Rattle.session_state.proofs.standing.Standing.verdict_on_return.Goals as goal

said_so : (st : Standing) (who c : ℕ) (circuits : List CircuitState) (v : Verdict) → circuits ≡ st.states.items → v ≡ give_back (seen 0 [] [] circuits) who c → v ≡ returned st who c
said_so st who c circuits v same e = e ∙ ap (λ (cs : List CircuitState). give_back (seen 0 [] [] cs) who c) same ∙ return_seen (state st) who c

-- where it isn't refused
does_so : (st : Standing) (who c : ℕ) (v : Verdict) → v ≡ returned st who c → is_nothing v.deed ≡ false
    → IsDone (returned st who c).deed (Turns c Idle) (returned st who c).reply reply.Returned × (circuit st.states.items c ≡ Taken who)
does_so st who c v same some =
    let f = rules_of st in let s = state st in let w = returned st who c in
    return_does f s who c w.reply w.deed (fair_return f s who c) (ap (λ (z : Verdict). is_nothing z.deed) (sym same) ∙ some)

-- a circuit that is taken is one
taken_there : (circuits : List CircuitState) (who c : ℕ) → circuit circuits c ≡ Taken who → c < length circuits
taken_there circuits who c e = elim (cases_lt c (length circuits)) [
  | inl less ↦ less
  | inr more ↦ let past : circuit circuits c ≡ Answered = get_or_past circuits c Answered more in let both : Taken who ≡ Answered = sym e ∙ past in cc
]

pub returns-clause-said : goal.returns-clause-said
returns-clause-said c =
    said_so c.args.self.now c.args.caller c.args.circuit c.as_slice.result.now c.judge_give_back.result c.as_slice.ensures.value c.judge_give_back.ensures

pub returns-clause-ends : goal.returns-clause-ends
returns-clause-ends c some =
    let st = c.args.self.now in let who = c.args.caller in let v = c.judge_give_back.result in
    let same = said_so st who c.args.circuit c.as_slice.result.now v c.as_slice.ensures.value c.judge_give_back.ensures in
    same ∙ verdict_is (returned st who c.args.circuit) reply.Returned (Turns c.args.circuit Idle) (does_so st who c.args.circuit v same some).0

pub returns-clause-there : goal.returns-clause-there
returns-clause-there c some =
    let st = c.args.self.now in let who = c.args.caller in let v = c.judge_give_back.result in
    let same = said_so st who c.args.circuit c.as_slice.result.now v c.as_slice.ensures.value c.judge_give_back.ensures in
    taken_there st.states.items who c.args.circuit (does_so st who c.args.circuit v same some).1

pub returns-clause-plain : goal.returns-clause-plain
returns-clause-plain c =
    let st = c.args.self.now in let who = c.args.caller in let v = returned st who c.args.circuit in
    ap (λ (z : Verdict). is_list z.reply) (said_so st who c.args.circuit c.as_slice.result.now c.judge_give_back.result c.as_slice.ensures.value c.judge_give_back.ensures)
    ∙ plain (rules_of st) (state st) who (call.GiveBack c.args.circuit) v.reply v.deed (fair_return (rules_of st) (state st) who c.args.circuit) (λ q e. cc)
