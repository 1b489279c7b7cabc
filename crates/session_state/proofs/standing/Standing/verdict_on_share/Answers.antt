-- The instances, and what the share is of, are all that is looked at; the reply is no list.
use Rattle.std.proofs.Common.{◌≡◌, ◌∙◌, sym, ap, ap₂, refl, ℕ, ◌≤◌, List, [], length, Some, arith}
use Rattle.param_set.specs.Moduli.{binary_digits}
use Rattle.param_set.proofs.Digits.{digits_around, few_rows}
use Rattle.proto_names.specs.declared.instance.Instance.{Instance}
use Rattle.session_rules.specs.declared.call.Call.TheVariants as call
use Rattle.session_rules.specs.declared.deed.Deed.TheVariants.{Counts}
use Rattle.session_rules.specs.declared.deed.Verdict.{Verdict}
use Rattle.session_rules.specs.declared.fixed.Fixed.{Fixed}
use Rattle.session_rules.specs.States.{seen}
use Rattle.session_rules.specs.Deeds.{is_nothing, counts_for}
use Rattle.session_rules.specs.Steps.{counted, deliver}
use Rattle.session_rules.specs.Facts.{Kept}
use Rattle.session_rules.proofs.Seen.{deliver_seen}
use Rattle.session_state.specs.Handed.{is_list}
use Rattle.session_state.specs.Standings.{rules_of, state, delivered}
use Rattle.session_state.specs.Wanted.{IsWanted}
use Rattle.session_state.specs.declared.standing.Standing.{Standing}
use Rattle.session_state.proofs.Counting.{gadget}
use Rattle.session_state.proofs.Leading.{IsDone, plain, share_does, share_refused, fair_deliver}
use Rattle.session_state.proofs.Onward.{verdict_is}
use Rattle.session_state.proofs.standing.Standing.verdict_on_share.Goals as goal

-- the gadget has few rows
few_digits : (st : Standing) → st.rules.rows ≤ 55
few_digits st =
    let p = st.params in
    let some = p.modulus.0 in
    let below = p.modulus.1 in
    let around = digits_around p.q (binary_digits p.q) (omega (arith, some)) (omega (arith, below)) refl in
    few_rows p.q (binary_digits p.q) p.digit_bits st.rules.rows below around.1 p.noise.0 (ap (λ (f : Fixed). f.rows) st.rules_are ∙ gadget st)

pub judge_deliver-requires-clause-gadget : goal.judge_deliver-requires-clause-gadget
judge_deliver-requires-clause-gadget c = few_digits c.args.self.now

said_so : (st : Standing) (id p n : ℕ) (rows : List (List ℕ)) (is : List Instance) (v : Verdict) → is ≡ st.table.instances.items → n ≡ length rows → v ≡ deliver st.rules (seen 0 is [] []) id p n
    → v ≡ delivered st id p (length rows)
said_so st id p n rows is v all many e =
    e ∙ ap₂ (λ (a : List Instance) (b : ℕ). deliver st.rules (seen 0 a [] []) id p b) all many
    ∙ deliver_seen st.rules (state st) id p (length rows)
    ∙ ap (λ (f : Fixed). deliver f (state st) id p (length rows)) st.rules_are

pub returns-clause-said : goal.returns-clause-said
returns-clause-said c =
    let share = c.args.share.now in
    said_so c.args.self.now share.id share.party c.len-rows.result share.rows c.instances.result.now c.judge_deliver.result c.instances.ensures c.len-rows.ensures c.judge_deliver.ensures

pub returns-clause-refused : goal.returns-clause-refused
returns-clause-refused c none =
    let st = c.args.self.now in let share = c.args.share.now in let v = delivered st share.id share.party (length share.rows) in
    let same = returns-clause-said c in
    ap (λ (z : Verdict). is_nothing z.deed) same
    ∙ share_refused (rules_of st) (state st) share.id share.party (length share.rows) v.reply v.deed (fair_deliver (rules_of st) (state st) share.id share.party (length share.rows))
    (ap (λ (z : Verdict). counts_for z.deed) (sym same) ∙ none)

-- where it is counted
does_so : (st : Standing) (id p rows : ℕ) (i : Instance) (v : Verdict) → Kept (rules_of st) (state st) → v ≡ delivered st id p rows → counts_for v.deed ≡ Some i
    → IsDone (delivered st id p rows).deed (Counts i p) (delivered st id p rows).reply (counted p i) × IsWanted (rules_of st) (state st) id p rows i
does_so st id p rows i v k same some =
    let f = rules_of st in let s = state st in let w = delivered st id p rows in
    share_does f s id p rows w.reply w.deed i k (fair_deliver f s id p rows) (ap (λ (z : Verdict). counts_for z.deed) (sym same) ∙ some)

pub returns-clause-counts : goal.returns-clause-counts
returns-clause-counts c i some =
    let st = c.args.self.now in let share = c.args.share.now in let p = share.party in
    let same = returns-clause-said c in
    same ∙ verdict_is (delivered st share.id p (length share.rows)) (counted p i) (Counts i p) (does_so st share.id p (length share.rows) i c.judge_deliver.result c.requires.kept same some).0

pub returns-clause-wanted : goal.returns-clause-wanted
returns-clause-wanted c i some =
    let share = c.args.share.now in
    (does_so c.args.self.now share.id share.party (length share.rows) i c.judge_deliver.result c.requires.kept (returns-clause-said c) some).1

pub returns-clause-plain : goal.returns-clause-plain
returns-clause-plain c =
    let st = c.args.self.now in let share = c.args.share.now in let rows = length share.rows in let v = delivered st share.id share.party rows in
    ap (λ (z : Verdict). is_list z.reply) (returns-clause-said c)
    ∙ plain (rules_of st) (state st) 0 (call.Deliver share.id share.party rows) v.reply v.deed (fair_deliver (rules_of st) (state st) share.id share.party rows) (λ q e. cc)
