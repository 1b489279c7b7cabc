-- A session that is settled comes to an end, and where it can be is answered.
use Rattle.std.proofs.Common.{◌≡◌, ◌∙◌, sym, ap, subst, refl, ℕ, zero, suc, ◌+◌, ◌≤◌, Bool, true, false, List, [], ◌∷◌, ◌++◌, length, Contains, None, arith}
use Rattle.std.specs.Prelude.{⊤}
use Rattle.share_spec.specs.Sets.{has}
use Rattle.session_rules.specs.declared.call.Entry.{Entry}
use Rattle.session_rules.specs.declared.line.Line.{Line}
use Rattle.session_rules.specs.declared.fixed.Fixed.{Fixed}
use Rattle.session_rules.specs.States.{State, opening}
use Rattle.session_rules.specs.Steps.{next_ready}
use Rattle.session_rules.specs.Histories.{after, state_after, IsLegal}
use Rattle.session_rules.specs.Courses.{sends, round_tasks, is_settled, Settles, rounds, IsSerial}
use Rattle.session_rules.specs.Facts.{IsAtRest}
use Rattle.session_rules.specs.Grounds.{IsWhole, NoneOpened, CanSettle}
use Rattle.session_rules.proofs.Contained.{contains_here}
use Rattle.session_rules.proofs.Grounds.{KeptWell, state_grounds}
use Rattle.session_rules.proofs.Rest.{histories_leave_rest}
use Rattle.session_rules.proofs.Runs.{after_append}
use Rattle.session_rules.proofs.Within.{Within, begins}
use Rattle.run_laws.specs.Settling.{SendsAlone, SendingGives, SendingGivesInputs, SettlesAlone, SettlingLosesNobody, SettlingEnds, SettlingAnswers, SettlingAnswersThen, SerialEnds, SerialAnswers, SerialAnswersThen}
use Rattle.run_laws.proofs.Ends.{stage_unopened, settled_unopened, settled_unready, can_later, comes_over}
use Rattle.run_laws.proofs.Reach.{round_in}
use Rattle.run_laws.proofs.Sends.{Doing, sends_give, sends_inputs}
use Rattle.run_laws.proofs.Stages.{Any, any_fits, Stage, round_settles, round_present, stage_next}
use Rattle.run_laws.proofs.Replies.{AreBy, own_all, all_own, by_first, by_second, Replied, replayed_replied, replied_first, replied_second}
use Rattle.run_laws.proofs.Serial.{Rounds}
use Rattle.run_laws.proofs.Taken.{serial_took_none}
use Rattle.run_laws.proofs.Walks.{Leads, leads_from}

-- ---- sending

sends_doing : (f : Fixed) (who p : ℕ) (s : State) (es : List Entry) → KeptWell f s → SendsAlone f who p s es → Doing f who ⊤ s (sends p ∷ []) (after f s es)
sends_doing f who p s es k a = record {
  calls = length es;
  leads = leads_from ⊤ f who es s None (sends p ∷ []) _ (tt, tt) (all_own who es a.alone) (replayed_replied f s es a.replies) a.follows.follows refl;
  all = (tt, tt);
  well = k;
}

pub sending_gives : SendingGives
sending_gives f who p s es k g a there = sends_give f who ⊤ p s (sends p ∷ []) (after f s es) (sends_doing f who p s es (k, g) a) (contains_here (sends p) []) there

pub sending_gives_inputs : SendingGivesInputs
sending_gives_inputs f who p s es c k kept g a there done its mine =
    sends_inputs f who ⊤ s (sends p ∷ []) (after f s es) c k (sends_doing f who p s es (kept, g) a)
    (subst (λ (z : ℕ). Contains (sends p ∷ []) (sends z)) (sym mine) (contains_here (sends p) [])) its done (subst (λ (z : ℕ). has s.present z ≡ true) (sym mine) there)

-- ---- rounds

-- it is settled, or a round is made
data Makes (f : Fixed) (who n : ℕ) (s : State) (es : List Entry) : Type 0 where
  over : is_settled s ≡ true → es ≡ [] → Makes f who n s es
  round : (here rest : List Entry) → es ≡ here ++ rest → Leads f who (length here) s (round_tasks s) (after f s here)
      → AreBy who rest → Replied f (after f s here) rest → Settles n f who (after f s here) rest → Makes f who n s es

makes_then : (f : Fixed) (who n : ℕ) (s : State) (es : List Entry) → AreBy who es → Replied f s es → (b : Bool) → is_settled s ≡ b → Rounds n f who s b es → Makes f who n s es
makes_then f who n s es by replied true e h = over e h
makes_then f who n s es by replied false e h =
    let here = h.0 in
    let rest = h.1 in
    let by_ = subst (AreBy who) h.2 by in
    let replied_ = subst (Replied f s) h.2 replied in
    round here rest h.2 (leads_from ⊤ f who here s None (round_tasks s) _ (round_settles s) (by_first who here rest by_) (replied_first f s here rest replied_) h.3.follows refl)
    (by_second who here rest by_) (replied_second f s here rest replied_) h.4

makes : (f : Fixed) (who n : ℕ) (s : State) (es : List Entry) → AreBy who es → Replied f s es → Settles (suc n) f who s es → Makes f who n s es
makes f who n s es by replied h = makes_then f who n s es by replied (is_settled s) refl h

-- what rounds keep is kept
rounds_keep : (f : Fixed) (who : ℕ) (P : State → Type 0) → ((n : ℕ) (s t : State) → Leads f who n s (round_tasks s) t → P s → P t)
    → (n : ℕ) (s : State) (es : List Entry) → AreBy who es → Replied f s es → Settles n f who s es → P s → P (after f s es)
unfolding after
rounds_keep f who P one zero s es by replied h k = subst (λ (z : List Entry). P (after f s z)) (sym h) k
rounds_keep f who P one (suc n) s es by replied h k = elim (makes f who n s es by replied h) [
  | over e none ↦ subst (λ (z : List Entry). P (after f s z)) (sym none) k
  | round here rest parts leads by_ replied_ on ↦
      subst (λ (z : List Entry). P (after f s z)) (sym parts) (subst P (sym (after_append f s here rest))
      (rounds_keep f who P one n (after f s here) rest by_ replied_ on (one (length here) s (after f s here) leads k)))
]

-- it is settled, or so many rounds were made
data Ends (f : Fixed) (k : ℕ) (s : State) : Type 0 where
  settled : is_settled s ≡ true → KeptWell f s → Ends f k s
  last : Stage f k s → Ends f k s

rounds_end : (n k m : ℕ) (f : Fixed) (who : ℕ) (s : State) (es : List Entry) → k + n ≡ m → 1 ≤ f.threshold → AreBy who es → Replied f s es → Settles n f who s es → Stage f k s → Ends f m (after f s es)
unfolding after
rounds_end zero k m f who s es e some_ by replied h g =
    let same : k ≡ m = omega arith in
    subst (λ (z : List Entry). Ends f m (after f s z)) (sym h) (last (subst (λ (z : ℕ). Stage f z s) same g))
rounds_end (suc n) k m f who s es e some_ by replied h g = elim (makes f who n s es by replied h) [
  | over done none ↦ subst (λ (z : List Entry). Ends f m (after f s z)) (sym none) (settled done g.well)
  | round here rest parts leads by_ replied_ on ↦
      subst (λ (z : List Entry). Ends f m (after f s z)) (sym parts) (subst (Ends f m) (sym (after_append f s here rest))
      (rounds_end n (suc k) m f who (after f s here) rest (omega arith) some_ by_ replied_ on (stage_next f who k (length here) s (after f s here) some_ g leads)))
]

-- ---- settling behind a history

module _ (f : Fixed) (who : ℕ) (before made : List Entry) (a : SettlesAlone f who before made) where
  abbrev start : State
  start = state_after f before

  leads_on : state_after f (before ++ made) ≡ after f start made
  leads_on = after_append f (opening f) before made

  by : AreBy who made
  by = all_own who made a.alone

  replied : Replied f start made
  replied = replied_second f (opening f) before made (replayed_replied f (opening f) (before ++ made) a.legal)

  loses_nobody : (state_after f (before ++ made)).present ≡ start.present
  loses_nobody =
      ap (λ (z : State). z.present) leads_on
      ∙ rounds_keep f who (λ (z : State). z.present ≡ start.present) (λ n s t h e. round_present f who n s t h ∙ e) rounds start made by replied a.settles refl

  module _ (w : IsWhole f) (some_ : 1 ≤ f.threshold) where
    well : KeptWell f start
    well = state_grounds f before w

    rest : IsAtRest f start
    rest = histories_leave_rest f before some_

    first : Stage f 0 start
    first = record { well = well; rest = rest; ranked = λ i m opened. omega arith; within = λ l. absurd (omega arith); none = λ l. absurd (omega arith); owed = λ l. absurd (omega arith) }

    comes_to : Ends f 6 (state_after f (before ++ made))
    comes_to = subst (Ends f 6) (sym leads_on) (rounds_end rounds 0 6 f who start made refl some_ by replied a.settles first)

    within : Within Any f start (state_after f (before ++ made))
    within = subst (Within Any f start) (sym leads_on)
        (rounds_keep f who (Within Any f start) (λ n s t h w_. (round_in Any f start (any_fits start) who n s t (λ c. tt) h w_).within) rounds start made by replied a.settles (begins Any f start well.0 rest))

ended : (f : Fixed) (s : State) → IsWhole f → Ends f 6 s → NoneOpened s × (next_ready f s ≡ None)
ended f s w (settled e g) = (settled_unopened f s w g e, settled_unready f s e)
ended f s w (last g) = (stage_unopened f s g, g.none (omega arith))

answered : (f : Fixed) (s : State) → IsWhole f → CanSettle f s → Ends f 6 s → is_settled s ≡ true
answered f s w can (settled e g) = e
answered f s w can (last g) = comes_over f w s g can

-- ---- as laws

pub settling_loses_nobody : SettlingLosesNobody
settling_loses_nobody f who before made a = loses_nobody f who before made a

pub settling_ends : SettlingEnds
settling_ends f who before made w some_ a = ended f (state_after f (before ++ made)) w (comes_to f who before made a w some_)

pub settling_answers_then : SettlingAnswersThen
settling_answers_then f who before made w some_ a can = answered f (state_after f (before ++ made)) w can (comes_to f who before made a w some_)

pub settling_answers : SettlingAnswers
settling_answers f who before made w some_ a can =
    settling_answers_then f who before made w some_ a (can_later f (state_after f before) (state_after f (before ++ made)) (within f who before made a w some_) can)

serial_settles : (f : Fixed) (present : List ℕ) (lanes : List (List Line)) (es : List Entry) → IsLegal f es → (c : IsSerial f present lanes es) → SettlesAlone f 0 c.acts c.settling
serial_settles f present lanes es legal c = record {
  legal = subst (λ (z : List Entry). IsLegal f z) c.parts legal;
  alone = own_all 0 c.settling (by_second 0 c.acts c.settling (subst (AreBy 0) c.parts (all_own 0 es c.alone)));
  settles = c.settles;
}

pub serial_ends : SerialEnds
serial_ends f present lanes es w some_ legal c =
    subst (λ (z : List Entry). NoneOpened (state_after f z) × (next_ready f (state_after f z) ≡ None)) (sym c.parts)
    (settling_ends f 0 c.acts c.settling w some_ (serial_settles f present lanes es legal c))

pub serial_answers : SerialAnswers
serial_answers f present lanes es w some_ legal c can =
    subst (λ (z : List Entry). is_settled (state_after f z) ≡ true) (sym c.parts)
    (settling_answers f 0 c.acts c.settling w some_ (serial_settles f present lanes es legal c) can)

pub serial_answers_then : SerialAnswersThen
serial_answers_then f present lanes es w some_ legal c enough owners =
    let can : CanSettle f (state_after f es) = record { untaken = λ d who. (serial_took_none f present lanes es c who w legal).1 d; enough = enough; owners = owners } in
    subst (λ (z : List Entry). is_settled (state_after f z) ≡ true) (sym c.parts)
    (settling_answers_then f 0 c.acts c.settling w some_ (serial_settles f present lanes es legal c) (subst (λ (z : List Entry). CanSettle f (state_after f z)) c.parts can))
