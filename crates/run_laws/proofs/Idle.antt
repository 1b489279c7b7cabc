-- Each circuit that is evaluated leaves fewer that are idle, and where none is, none is taken.
use Rattle.std.proofs.Common.{◌≡◌, ◌∙◌, sym, ap, subst, refl, ℕ, ◌+◌, ◌<◌, ◌≤◌, Bool, true, false, cond, inl, inr, List, length, get_or, set, Some, None, arith, length-set}
use Rattle.std.specs.Prelude.{sum_by}
use Rattle.std.proofs.lemmas.Bool.{and_parts, cases_lt}
use Rattle.std.proofs.lemmas.List.{get_or_past}
use Rattle.std.proofs.lemmas.List.Sums.{sum_by-set, sum_by-le}
use Rattle.session_rules.specs.declared.call.Call.TheVariants as call
use Rattle.session_rules.specs.declared.state.CircuitState.{CircuitState}
use Rattle.session_rules.specs.declared.state.CircuitState.TheVariants.{Taken, Evaluated, Answered}
use Rattle.session_rules.specs.declared.fixed.Fixed.{Fixed}
use Rattle.session_rules.specs.States.{State, circuit, is_idle}
use Rattle.session_rules.specs.Issues.{issue}
use Rattle.session_rules.proofs.Stepwise.{issue_beside}
use Rattle.session_rules.specs.Steps.{ready, step}
use Rattle.session_rules.specs.Tasks.{job}
use Rattle.run_laws.proofs.Calls.{Takes, nothing, takes, takes_is, evaluated, finishes_it}
use Rattle.run_laws.specs.Leaving.{one_if_idle, idle}

ready_idle : (f : Fixed) (s : State) (c : ℕ) → ready f s c ≡ true → is_idle (circuit s.circuits c) ≡ true
unfolding ready
ready_idle f s c e = (and_parts _ _ (and_parts _ _ e).0).0

idle_there : (s : State) (c : ℕ) → is_idle (circuit s.circuits c) ≡ true → c < length s.circuits
idle_there s c e = elim (cases_lt c (length s.circuits)) [
  | inl less ↦ less
  | inr more ↦ let gone : false ≡ true = ap is_idle (sym (get_or_past s.circuits c Answered more)) ∙ e in cc
]

one_idle : (c : CircuitState) → is_idle c ≡ true → one_if_idle c ≡ 1
one_idle c e = rw e refl

-- a circuit that is idle is taken, and finished
evaluated_idle : (who : ℕ) (s : State) (c : ℕ) → is_idle (circuit s.circuits c) ≡ true → idle (evaluated who s c) + 1 ≤ idle s
evaluated_idle who s c e =
    let l = idle_there s c e in
    let here = set s.circuits c (Taken who) in
    let long = length-set s.circuits c (Taken who) in
    let a = sum_by-set one_if_idle s.circuits c (Taken who) Answered l in
    let b = sum_by-set one_if_idle here c Evaluated Answered (omega arith) in
    let was = one_idle (circuit s.circuits c) e in
    omega (arith, a, b, was)

taken_then : (f : Fixed) (who : ℕ) (s t u : State) (c : ℕ) → Takes f who s → job (step f s who call.Take).0 ≡ Some c → t ≡ (step f s who call.Take).1 → u ≡ (step f t who (call.Finish c)).1
    → idle u + 1 ≤ idle s
taken_then f who s t u c (nothing none j same) e taken finished = let b : None ≡ Some c = sym j ∙ e in cc
taken_then f who s t u c (takes d h l j same) e taken finished =
    let b : Some d ≡ Some c = sym j ∙ e in
    let it : d ≡ c = cc in
    let is_one = ready_idle f s d h in
    let after_ : u ≡ issue f (evaluated who s d) = finished ∙ ap (λ (z : ℕ). (step f t who (call.Finish z)).1) (sym it) ∙ ap (λ (z : State). (step f z who (call.Finish d)).1) (taken ∙ same)
    ∙ finishes_it f who s d (idle_there s d is_one) in
    subst (λ (z : List CircuitState). sum_by one_if_idle z + 1 ≤ idle s) (sym (ap (λ (z : State). z.circuits) after_ ∙ (issue_beside f (evaluated who s d)).circuits)) (evaluated_idle who s d is_one)

pub fewer_idle : (f : Fixed) (who : ℕ) (s t u : State) (c : ℕ) → job (step f s who call.Take).0 ≡ Some c → t ≡ (step f s who call.Take).1 → u ≡ (step f t who (call.Finish c)).1
    → idle u + 1 ≤ idle s
fewer_idle f who s t u c e taken finished = taken_then f who s t u c (takes_is f who s) e taken finished

-- where none is idle there is no job
no_job_then : (f : Fixed) (s : State) → Takes f 0 s → idle s ≡ 0 → job (step f s 0 call.Take).0 ≡ None
no_job_then f s (nothing none j same) e = j
no_job_then f s (takes c h l j same) e = let less = evaluated_idle 0 s c (ready_idle f s c h) in absurd (omega (arith, less, e))

pub no_job : (f : Fixed) (s : State) → idle s ≡ 0 → job (step f s 0 call.Take).0 ≡ None
no_job f s e = no_job_then f s (takes_is f 0 s) e

most_one : (c : CircuitState) → one_if_idle c ≤ 1
most_one c = most_by (is_idle c)
  where
    most_by : (b : Bool) → cond b 1 0 ≤ 1
    most_by true = omega arith
    most_by false = omega arith

-- at first no more are idle than there are
pub few_idle : (s : State) → idle s ≤ length s.circuits
few_idle s = let l = sum_by-le one_if_idle 1 s.circuits (λ k d inside. most_one (get_or s.circuits k d)) in omega (arith, l)

-- taking a circuit issues nothing
issues_then : (f : Fixed) (who : ℕ) (s : State) → Takes f who s → (step f s who call.Take).1.instances ≡ s.instances
issues_then f who s (nothing none j same) = ap (λ (z : State). z.instances) same
issues_then f who s (takes c h l j same) = ap (λ (z : State). z.instances) same

pub take_issues : (f : Fixed) (who : ℕ) (s : State) → (step f s who call.Take).1.instances ≡ s.instances
take_issues f who s = issues_then f who s (takes_is f who s)
