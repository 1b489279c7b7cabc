use Rattle.std.proofs.Common.{◌≡◌, ◌∙◌, sym, ap, subst, refl, ◌+◌, ◌≤◌, true, false, [], ◌∷◌, ◌++◌, length, None, arith}
use Rattle.session_rules.specs.declared.call.Call.TheVariants as call
use Rattle.session_rules.specs.Steps.{step}
use Rattle.session_rules.specs.States.{State}
use Rattle.session_rules.specs.Tasks.{exhausts, job}
use Rattle.session_rules.proofs.Keeps.{histories_keep}
use Rattle.session_laws.proofs.Plans.{rules_number}
use Rattle.session_core.specs.Calls.{known, state_of}
use Rattle.lane_workers.specs.Desks.{Fixture, nothing_handed, session_view, state_seen}
use Rattle.lane_workers.specs.Doing.{again, BrokeOff, rules_for}
use Rattle.lane_workers.proofs.Acts.{fixed_are}
use Rattle.lane_workers.proofs.Desks.{turned}
use Rattle.lane_workers.proofs.Going.{if_err, begins, does_on, does_rest, told_so, stops_on, stops_rest}
use Rattle.run_laws.specs.Leaving.{idle}
use Rattle.run_laws.proofs.Idle.{few_idle, no_job}
use Rattle.lane_workers.proofs.Asking.{no_job_owed}
use Rattle.lane_workers.proofs.working.work_off.Goals as goal

pub jobs-init : goal.jobs-init
jobs-init g c =
    let old = c.args.session.now in
    let s = state_of old in
    let kept = histories_keep (rules_for old) old.log.items in
    let long : length s.circuits ≡ length (rules_for old).plans = ap (λ (z : State). length z.circuits) old.state_is ∙ kept.circuits in
    let count : c.len-circuits.result ≡ length (rules_for old).plans = c.len-circuits.ensures ∙ ap length c.circuits.ensures ∙ sym (rules_number (known old).setting) in
    let few = few_idle s in
    record { same = refl; doing = begins (exhausts ∷ []) (session_view old); few = omega (arith, few, long, count) }

pub returns-then-not-branch-clause-done : goal.returns-then-not-branch-clause-done
returns-then-not-branch-clause-done g c =
    let i = c.jobs.invariant in
    let e = c.in_ok-work.ensures in
    let ts = exhausts ∷ [] in
    let u = session_view c.args.session.now in
    let v = session_view c.jobs.session in
    let w = session_view c.work.new.desk in
    let more = c.in_ok-work.field-0 in
    let none : more ≡ false = c.if-not-branch.true in
    told_so ts (again more ++ []) [] u w (ap (λ z. again z ++ []) none) (does_on ts ts (again more) [] u v w (fixed_are c.args.session.now c.jobs.session i.same) i.doing e.done.does)

pub jobs-preserved : goal.jobs-preserved
jobs-preserved g c =
    let i = c.jobs.invariant in
    let e = c.in_ok-work.ensures in
    let ts = exhausts ∷ [] in
    let old = c.args.session.now in
    let mid = c.jobs.session in
    let new = c.work.new.desk in
    let more = c.in_ok-work.field-0 in
    let some : more ≡ true = c.if-not-branch.false in
    let fewer : idle (state_of new) + 1 ≤ idle (state_of mid) =
    subst (λ (z : State). idle z + 1 ≤ idle (state_of mid)) (sym new.state_is) (subst (λ (z : State). idle (state_seen (session_view new)) + 1 ≤ idle z) (sym mid.state_is) (e.done.fewer refl some)) in
    let few = i.few in
    record {
      same = ap (λ (z : Fixture). z.known) e.same ∙ i.same;
      doing = told_so ts (again more ++ []) ts (session_view old) (session_view new) (ap (λ z. again z ++ []) some)
          (does_on ts ts (again more) [] (session_view old) (session_view mid) (session_view new) (fixed_are old mid i.same) i.doing e.done.does);
      few = omega (arith, few, fewer);
    }

pub returns-clause-done : goal.returns-clause-done
returns-clause-done g c =
    let i = c.jobs.invariant in
    let old = c.args.session.now in
    let mid = c.jobs.session in
    let new = c.take.new.self in
    let e = c.in_ok-take.ensures in
    let few = i.few in
    let over = c.jobs-test.false in
    let none : idle (state_of mid) ≡ 0 = omega (arith, few, over) in
    let x = c.in_ok-take.field-0 in
    let quiet : job x.reply ≡ None = ap job e.called.made.reply ∙ ap (λ (z : State). job (step (rules_for mid) z 0 call.Take).0) (sym mid.state_is) ∙ no_job (rules_for mid) (state_of mid) none in
    let t = turned mid new _ _ call.Take _ nothing_handed e.called tt in
    does_rest (exhausts ∷ []) (exhausts ∷ []) (session_view old) (session_view mid) (session_view new) (fixed_are old mid i.same) i.doing
    (no_job_owed x.reply nothing_handed x (session_view mid) (session_view new) t.answered quiet)

pub returns-in_err-work-clause-stopped : goal.returns-in_err-work-clause-stopped
returns-in_err-work-clause-stopped g c =
    let i = c.jobs.invariant in
    let old = c.args.session.now in
    let u = session_view old in
    let w = session_view c.work.new.desk in
    if_err c.from_residual.result _ (BrokeOff (exhausts ∷ []) u w) c.from_residual.ensures.1
    (stops_rest (exhausts ∷ []) (exhausts ∷ []) _ u (session_view c.jobs.session) w (fixed_are old c.jobs.session i.same) i.doing c.in_err-work.ensures.stopped)

pub returns-in_err-take-clause-stopped : goal.returns-in_err-take-clause-stopped
returns-in_err-take-clause-stopped g c =
    let i = c.jobs.invariant in
    let old = c.args.session.now in
    let mid = c.jobs.session in
    let new = c.take.new.self in
    let t = turned mid new _ _ call.Take _ nothing_handed c.in_err-take.ensures.called tt in
    if_err c.from_residual-in_err-take.result _ (BrokeOff (exhausts ∷ []) (session_view old) (session_view new)) c.from_residual-in_err-take.ensures.1
    (stops_on (exhausts ∷ []) [] exhausts call.Take _ (session_view old) (session_view mid) (session_view new) (fixed_are old mid i.same) i.doing refl t.unanswered)
