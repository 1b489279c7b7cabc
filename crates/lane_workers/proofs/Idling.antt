-- A circuit that is taken and evaluated leaves fewer idle, where nobody else acts.
use Rattle.std.proofs.Common.{◌≡◌, ◌∙◌, sym, ap, ap₂, subst, refl, ℕ, ◌+◌, ◌≤◌, true, List, [], ◌∷◌, ◌++◌, Some}
use Rattle.std.proofs.lemmas.Bool.{eqb-true}
use Rattle.std.proofs.lemmas.List.{append-nil}
use Rattle.session_rules.specs.declared.call.Call.{Call}
use Rattle.session_rules.specs.declared.call.Call.TheVariants as call
use Rattle.session_rules.specs.declared.call.Entry.{Entry}
use Rattle.session_rules.specs.declared.fixed.Fixed.{Fixed}
use Rattle.session_rules.specs.Steps.{step}
use Rattle.session_rules.specs.Histories.{state_after}
use Rattle.session_rules.specs.Tasks.{finishes, job, own, entry}
use Rattle.session_rules.proofs.Runs.{next_state}
use Rattle.run_laws.specs.Leaving.{idle}
use Rattle.run_laws.proofs.Idle.{fewer_idle}
use Rattle.session_state.specs.declared.handed.Taking.{Taking}
use Rattle.lane_workers.specs.Desks.{Fixture, View, Answered, ShowsJob, behind, known_of, rules_of, state_seen}
use Rattle.lane_workers.specs.Doing.{Did}
use Rattle.lane_workers.proofs.Acts.{first_by}
use Rattle.lane_workers.proofs.Going.{rows}
use Rattle.lane_workers.proofs.Giving.{one_finish}

-- one call behind a history
one_behind : (f : Fixed) (es fs : List Entry) (e : Entry) (who : ℕ) (c : Call) → fs ≡ es ++ e ∷ [] → e.caller ≡ who → e.call ≡ c → state_after f fs ≡ (step f (state_after f es) who c).1
one_behind f es fs e who c is by its =
    ap (state_after f) is ∙ next_state f es e ∙ ap₂ (λ (a : ℕ) (b : Call). (step f (state_after f es) a b).1) by its

pub alone_fewer : (v u w : View) (c : ℕ) (x : Taking) → v.fixed.alone ≡ true → u.fixed ≡ v.fixed → w.fixed ≡ v.fixed → Answered v u call.Take x.reply ShowsJob x → job x.reply ≡ Some c → Did (finishes c ∷ []) u w
    → idle (state_seen w) + 1 ≤ idle (state_seen v)
alone_fewer v u w c x alone same also y it d =
    let k = known_of v in
    let f = rules_of v in
    let who = v.fixed.caller in
    let s = state_seen v in
    let none : v.seen ++ y.others ≡ v.seen = ap (λ (z : List Entry). v.seen ++ z) (y.are.none alone) ∙ append-nil v.seen in
    let seen : u.seen ≡ v.seen ++ entry who call.Take x.reply ∷ [] = y.seen ∙ ap (λ (z : List Entry). z ++ entry who call.Take x.reply ∷ []) none in
    let taken = one_behind f v.seen u.seen (entry who call.Take x.reply) who call.Take seen refl refl in
    let answered : job (step f s who call.Take).0 ≡ Some c = ap (λ (z : List Entry). job (step f (behind k z) who call.Take).0) (sym none) ∙ ap job (sym y.reply) ∙ it in
    let one = one_finish (rows u) c d.made d.are in
    let all : d.more ≡ one.one ∷ [] = d.alone (ap (λ (z : Fixture). z.alone) same ∙ alone) ∙ one.is in
    let mine : own who (one.one ∷ []) ≡ one.one ∷ [] = ap (own who) (sym all) ∙ ap (λ (z : Fixture). own z.caller d.more) (sym same) ∙ d.its ∙ one.is in
    let by : one.one.caller ≡ who = eqb-true one.one.caller who (first_by who one.one [] mine) in
    let finished = one_behind f u.seen w.seen one.one who (call.Finish c) (d.seen ∙ ap (λ (z : List Entry). u.seen ++ z) all) by one.call in
    let fewer = fewer_idle f who s (behind k u.seen) (behind k w.seen) c answered taken finished in
    subst (λ (z : Fixture). idle (behind z.known w.seen) + 1 ≤ idle s) (sym also) fewer
