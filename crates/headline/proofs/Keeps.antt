-- The serial course keeps the headline.
use Rattle.std.proofs.Common.{◌≡◌, ◌∙◌, sym, subst, refl, ℕ, ◌<◌, ◌≤◌, true, false, inl, inr, List, ◌∷◌, ◌++◌, length, arith}
use Rattle.std.proofs.lemmas.Bool.{cases_Bool, not-true}
use Rattle.std.proofs.lemmas.List.Sums.{AllPass-from_list_all}
use Rattle.session_rules.specs.declared.call.Entry.{Entry}
use Rattle.session_rules.specs.declared.state.CircuitState.{CircuitState}
use Rattle.session_rules.specs.declared.state.CircuitState.TheVariants.{Refused, Idle, Taken, Evaluated, Answered}
use Rattle.session_rules.specs.declared.fixed.Fixed.{Fixed}
use Rattle.session_rules.specs.States.{State, circuit, plan, is_admitted, is_given, is_refused}
use Rattle.session_rules.specs.Histories.{IsLegal, state_after}
use Rattle.session_rules.specs.Courses.{IsSerial, is_over, is_settled}
use Rattle.session_rules.proofs.Keeps.{state_kept}
use Rattle.session_rules.proofs.Runs.{beginnings_are_legal}
use Rattle.session_rules.proofs.Deliveries.{completed_ones_have_all}
use Rattle.run_laws.specs.Settling.{OwnersArePresent}
use Rattle.run_laws.proofs.Taken.{serial_took_none}
use Rattle.run_laws.proofs.Settling.{serial_ends, serial_answers_then}
use Rattle.session_script.specs.Asked.{Asked}
use Rattle.session_script.specs.Kept.{IsAccepted}
use Rattle.headline.specs.Asked.{rules_asked, state_of}
use Rattle.headline.specs.Course.{serial}
use Rattle.headline.specs.Headline.{IsCompleted, IsCompletion, CanAnswer, IsSettled, Headline}
use Rattle.headline.specs.History.{are_free}
use Rattle.headline.proofs.Setting.{whole, plans_number, threshold_is}
use Rattle.headline.proofs.Refused.{others_are_not_refused}
use Rattle.headline.proofs.Printed.{judged, aggregated, open_text, lines_told}
use Rattle.headline.proofs.Values.{answers}
use Rattle.headline.proofs.Open.{unready, waits}

-- ---- entries of a legal history

front : (a : Asked) (es before after_ : List Entry) → IsLegal (rules_asked a) es → es ≡ before ++ after_ → IsLegal (rules_asked a) before
front a es before after_ legal same = beginnings_are_legal (rules_asked a) before after_ (subst (λ (z : List Entry). IsLegal (rules_asked a) z) same legal)

completed : (a : Asked) (es before middle after_ : List Entry) (e : Entry) (id : ℕ) → IsLegal (rules_asked a) es → es ≡ before ++ e ∷ middle ++ after_ → IsCompletion e id
    → IsCompleted a (state_of a (before ++ e ∷ middle)) id
completed a es before middle after_ e id legal same x =
    let all = completed_ones_have_all (rules_asked a) before middle e id x.party x.rows (front a es (before ++ e ∷ middle) after_ legal same) x.call x.reply in
    record { item = all.item; issued = all.issued; parties = all.parties; sent = all.sent; answered = all.answered }

-- ---- the end

over_answered : (now : CircuitState) → is_over now ≡ true → is_refused now ≡ false → now ≡ Answered
over_answered (Refused place bound limit) o r = cc
over_answered Idle o r = cc
over_answered (Taken who) o r = cc
over_answered Evaluated o r = cc
over_answered Answered o r = refl

settled_at : (s : State) (c : ℕ) → is_settled s ≡ true → c < length s.circuits → is_over (circuit s.circuits c) ≡ true
unfolding is_settled
settled_at s c e l = AllPass-from_list_all is_over s.circuits e c Answered l

admitted_answered : (f : Fixed) (es : List Entry) (c : ℕ) → is_settled (state_after f es) ≡ true → c < length f.plans → is_admitted (plan f c) ≡ true
    → circuit (state_after f es).circuits c ≡ Answered
admitted_answered f es c e l admitted =
    let s = state_after f es in
    let n = (state_kept f es).circuits in
    let free : is_refused (plan f c).opening ≡ false = not-true (is_refused (plan f c).opening) admitted in
    over_answered (circuit s.circuits c) (settled_at s c e (omega (arith, n))) (others_are_not_refused f es c ∙ free)

-- where an input isn't given, its owner is present
owners_there : (f : Fixed) (s : State) → CanAnswer f s → OwnersArePresent f s
owners_there f s can c k its = elim (cases_Bool (is_given s c k)) [
  | inl given ↦ inl given
  | inr not_ ↦ inr (can.owners c k its not_)
]

settled : (a : Asked) (h : IsAccepted a) (es : List Entry) → IsLegal (rules_asked a) es → IsSerial (rules_asked a) a.present a.lanes es → IsSettled (rules_asked a) (length a.circuits) (state_of a es)
settled a h es legal c =
    let f = rules_asked a in
    let w = whole a in
    let some : 1 ≤ f.threshold = subst (λ (z : ℕ). 1 ≤ z) (sym (threshold_is a)) h.numbers.group.0 in
    let end = serial_ends f a.present a.lanes es w some legal c in
    record {
      none_opened = end.0;
      none_ready = λ x l. unready f (state_of a es) x end.1 (let n = plans_number a in omega (arith, n));
      answered = λ can x l admitted. admitted_answered f es x
          (serial_answers_then f a.present a.lanes es w some legal c can.enough (owners_there f (state_of a es) can))
          (let n = plans_number a in omega (arith, n)) admitted;
    }

-- ---- the headline

pub keeps : (a : Asked) → IsAccepted a → are_free a.circuits ≡ true → (es : List Entry) → IsLegal (rules_asked a) es → IsSerial (rules_asked a) a.present a.lanes es → Headline a serial es
keeps a h free es legal c =
    let f = rules_asked a in
    let w = whole a in
    let some : 1 ≤ f.threshold = subst (λ (z : ℕ). 1 ≤ z) (sym (threshold_is a)) h.numbers.group.0 in
    let none = (serial_ends f a.present a.lanes es w some legal c).1 in
    record {
      told = lines_told a es;
      legal = legal;
      course_kept = c;
      refused = judged a es;
      numbered = (state_kept f es).numbered;
      aggregates = aggregated a es;
      completed = λ before middle after_ e id same x. completed a es before middle after_ e id legal same x;
      answers = answers a h free es;
      open_ones = λ x l admitted open_. (
        open_text a (state_of a es) x (others_are_not_refused f es x ∙ not-true (is_refused (plan f x).opening) admitted) open_,
        waits f es x w none (let n = plans_number a in omega (arith, n)) admitted (λ who. (serial_took_none f a.present a.lanes es c who w legal).1 x) open_,
      );
      settled = settled a h es legal c;
    }
