-- Who is present is all that is looked at; the reply is no list.
use Rattle.std.proofs.Common.{◌≡◌, ◌∙◌, sym, ap, ℕ, false, []}
use Rattle.session_rules.specs.declared.call.Call.TheVariants as call
use Rattle.session_rules.specs.declared.reply.Reply.TheVariants as reply
use Rattle.session_rules.specs.declared.deed.Deed.TheVariants.{Joins}
use Rattle.session_rules.specs.declared.deed.Verdict.{Verdict}
use Rattle.session_rules.specs.States.{seen}
use Rattle.session_rules.specs.Deeds.{is_nothing}
use Rattle.session_rules.specs.Steps.{does, join}
use Rattle.session_rules.proofs.Seen.{join_seen}
use Rattle.session_state.specs.Handed.{is_list}
use Rattle.session_state.specs.Standings.{rules_of, state, joined}
use Rattle.session_state.specs.declared.standing.Standing.{Standing}
use Rattle.session_state.proofs.Leading.{plain, join_does, fair_join}
use Rattle.session_state.proofs.Onward.{verdict_is}
use Rattle.session_state.proofs.standing.Standing.verdict_on_join.Goals as goal

pub returns-clause-said : goal.returns-clause-said
returns-clause-said c = c.judge_join.ensures ∙ join_seen (state c.args.self.now) c.args.p

joins_so : (st : Standing) (p : ℕ) (v : Verdict) → v ≡ join (seen st.present.bits [] [] []) p → is_nothing v.deed ≡ false → v ≡ does reply.Joined (Joins p)
joins_so st p v e some =
    let f = rules_of st in let s = state st in let w = joined st p in
    let same : v ≡ w = e ∙ join_seen s p in
    same ∙ verdict_is w reply.Joined (Joins p) (join_does f s p w.reply w.deed (fair_join f s p) (ap (λ (z : Verdict). is_nothing z.deed) (sym same) ∙ some))

pub returns-clause-joins : goal.returns-clause-joins
returns-clause-joins c some = joins_so c.args.self.now c.args.p c.judge_join.result c.judge_join.ensures some

pub returns-clause-plain : goal.returns-clause-plain
returns-clause-plain c =
    let st = c.args.self.now in let p = c.args.p in let v = joined st p in
    ap (λ (z : Verdict). is_list z.reply) (c.judge_join.ensures ∙ join_seen (state st) p)
    ∙ plain (rules_of st) (state st) 0 (call.Join p) v.reply v.deed (fair_join (rules_of st) (state st) p) (λ q e. cc)
