-- Who is present is all that is looked at; the reply is no list.
use Rattle.std.proofs.Common.{◌≡◌, ◌∙◌, sym, ap, ℕ, false, []}
use Rattle.session_rules.specs.declared.call.Call.TheVariants as call
use Rattle.session_rules.specs.declared.reply.Reply.TheVariants as reply
use Rattle.session_rules.specs.declared.deed.Deed.TheVariants.{Loses}
use Rattle.session_rules.specs.declared.deed.Verdict.{Verdict}
use Rattle.session_rules.specs.States.{seen}
use Rattle.session_rules.specs.Deeds.{is_nothing}
use Rattle.session_rules.specs.Steps.{does, lose}
use Rattle.session_state.specs.Handed.{is_list}
use Rattle.session_state.specs.Standings.{rules_of, state, lost}
use Rattle.session_state.specs.declared.standing.Standing.{Standing}
use Rattle.session_state.proofs.Leading.{plain, lose_does, fair_lose}
use Rattle.session_state.proofs.Losses.{lose_seen}
use Rattle.session_state.proofs.Onward.{verdict_is}
use Rattle.session_state.proofs.standing.Standing.verdict_on_loss.Goals as goal

pub returns-clause-said : goal.returns-clause-said
returns-clause-said c = c.judge_lose.ensures ∙ lose_seen (state c.args.self.now) c.args.p

loses_so : (st : Standing) (p : ℕ) (v : Verdict) → v ≡ lose (seen st.present.bits [] [] []) p → is_nothing v.deed ≡ false → v ≡ does reply.Left (Loses p)
loses_so st p v e some =
    let f = rules_of st in let s = state st in let w = lost st p in
    let same : v ≡ w = e ∙ lose_seen s p in
    same ∙ verdict_is w reply.Left (Loses p) (lose_does f s p w.reply w.deed (fair_lose f s p) (ap (λ (z : Verdict). is_nothing z.deed) (sym same) ∙ some))

pub returns-clause-loses : goal.returns-clause-loses
returns-clause-loses c some = loses_so c.args.self.now c.args.p c.judge_lose.result c.judge_lose.ensures some

pub returns-clause-plain : goal.returns-clause-plain
returns-clause-plain c =
    let st = c.args.self.now in let p = c.args.p in let v = lost st p in
    ap (λ (z : Verdict). is_list z.reply) (c.judge_lose.ensures ∙ lose_seen (state st) p)
    ∙ plain (rules_of st) (state st) 0 (call.Lose p) v.reply v.deed (fair_lose (rules_of st) (state st) p) (λ q e. cc)
