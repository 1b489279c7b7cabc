-- How far the circuits have come is all that is looked at; the reply is no list.
use Rattle.std.proofs.Common.{◌≡◌, ◌∙◌, sym, ap, ℕ, ◌<◌, false, inl, inr, List, [], length}
use Rattle.std.proofs.lemmas.Bool.{cases_lt}
use Rattle.std.proofs.lemmas.List.{get_or_past}
use Rattle.session_rules.specs.declared.call.Call.TheVariants as call
use Rattle.session_rules.specs.declared.reply.Reply.TheVariants as reply
use Rattle.session_rules.specs.declared.deed.Deed.TheVariants.{Turns}
use Rattle.session_rules.specs.declared.deed.Verdict.{Verdict}
use Rattle.session_rules.specs.declared.state.CircuitState.{CircuitState}
use Rattle.session_rules.specs.declared.state.CircuitState.TheVariants.{Taken, Evaluated, Answered}
use Rattle.session_rules.specs.States.{seen, circuit}
use Rattle.session_rules.specs.Deeds.{is_nothing}
use Rattle.session_rules.specs.Steps.{finish}
use Rattle.session_rules.proofs.Seen.{finish_seen}
use Rattle.session_state.specs.Handed.{is_list}
use Rattle.session_state.specs.Standings.{rules_of, state, finished}
use Rattle.session_state.specs.declared.standing.Standing.{Standing}
use Rattle.session_state.proofs.Leading.{IsDone, plain, finish_does, fair_finish}
use Rattle.session_state.proofs.Onward.{verdict_is}
use Rattle.session_state.proofs.standing.Standing.verdict_on_finish.Goals as goal

said_so : (st : Standing) (who c : ℕ) (circuits : List CircuitState) (v : Verdict) → circuits ≡ st.states.items → v ≡ finish (seen 0 [] [] circuits) who c → v ≡ finished st who c
said_so st who c circuits v same e = e ∙ ap (λ (cs : List CircuitState). finish (seen 0 [] [] cs) who c) same ∙ finish_seen (state st) who c

-- where it isn't refused
does_so : (st : Standing) (who c : ℕ) (v : Verdict) → v ≡ finished st who c → is_nothing v.deed ≡ false
    → IsDone (finished st who c).deed (Turns c Evaluated) (finished st who c).reply reply.Finished × (circuit st.states.items c ≡ Taken who)
does_so st who c v same some =
    let f = rules_of st in let s = state st in let w = finished st who c in
    finish_does f s who c w.reply w.deed (fair_finish f s who c) (ap (λ (z : Verdict). is_nothing z.deed) (sym same) ∙ some)

-- a circuit that is taken is one
taken_there : (circuits : List CircuitState) (who c : ℕ) → circuit circuits c ≡ Taken who → c < length circuits
taken_there circuits who c e = elim (cases_lt c (length circuits)) [
  | inl less ↦ less
  | inr more ↦ let past : circuit circuits c ≡ Answered = get_or_past circuits c Answered more in let both : Taken who ≡ Answered = sym e ∙ past in cc
]

pub returns-clause-said : goal.returns-clause-said
returns-clause-said c =
    said_so c.args.self.now c.args.caller c.args.circuit c.as_slice.result.now c.judge_finish.result c.as_slice.ensures.value c.judge_finish.ensures

pub returns-clause-ends : goal.returns-clause-ends
returns-clause-ends c some =
    let st = c.args.self.now in let who = c.args.caller in let v = c.judge_finish.result in
    let same = said_so st who c.args.circuit c.as_slice.result.now v c.as_slice.ensures.value c.judge_finish.ensures in
    same ∙ verdict_is (finished st who c.args.circuit) reply.Finished (Turns c.args.circuit Evaluated) (does_so st who c.args.circuit v same some).0

pub returns-clause-there : goal.returns-clause-there
returns-clause-there c some =
    let st = c.args.self.now in let who = c.args.caller in let v = c.judge_finish.result in
    let same = said_so st who c.args.circuit c.as_slice.result.now v c.as_slice.ensures.value c.judge_finish.ensures in
    taken_there st.states.items who c.args.circuit (does_so st who c.args.circuit v same some).1

pub returns-clause-plain : goal.returns-clause-plain
returns-clause-plain c =
    let st = c.args.self.now in let who = c.args.caller in let v = finished st who c.args.circuit in
    ap (λ (z : Verdict). is_list z.reply) (said_so st who c.args.circuit c.as_slice.result.now c.judge_finish.result c.as_slice.ensures.value c.judge_finish.ensures)
    ∙ plain (rules_of st) (state st) who (call.Finish c.args.circuit) v.reply v.deed (fair_finish (rules_of st) (state st) who c.args.circuit) (λ q e. cc)
