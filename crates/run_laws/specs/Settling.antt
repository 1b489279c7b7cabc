-- What sending and settling bring about, done by one caller alone.
use Rattle.std.specs.Prelude.{◌≡◌, ℕ, ◌≤◌, true, ◌⊎◌, List, [], ◌∷◌, ◌++◌, length, None}
use Rattle.std.specs.List.{slice_index_or}
use Rattle.share_spec.specs.Sets.{has, count}
use Rattle.proto_names.specs.declared.signature.Signature.TheVariants.{Pk}
use Rattle.session_rules.specs.declared.call.Entry.{Entry}
use Rattle.session_rules.specs.declared.line.Line.{Line}
use Rattle.session_rules.specs.declared.fixed.Fixed.{Fixed}
use Rattle.session_rules.specs.States.{State, plan, is_given, has_done}
use Rattle.session_rules.specs.Steps.{is_input, next_ready}
use Rattle.session_rules.specs.Histories.{after, replayed, state_after, IsLegal}
use Rattle.session_rules.specs.Tasks.{own}
use Rattle.session_rules.specs.Courses.{Follows, sends, is_settled, Settles, rounds, IsSerial}
use Rattle.session_rules.specs.Facts.{Kept}
use Rattle.session_rules.specs.Grounds.{Grounded, IsWhole, NoneOpened, GaveAll, CanSettle}

-- ---- sending

-- from a state on, one caller alone does what it is for a party to send
pub record SendsAlone (f : Fixed) (who p : ℕ) (s : State) (es : List Entry) : Type 0 where
  pub alone : own who es ≡ es
  pub replies : replayed f s es ≡ es
  pub follows : Follows f.rows (sends p ∷ []) es

-- then a party that is present gives its share of each instance that was opened
abbrev pub SendingGives : Type 0
SendingGives = (f : Fixed) (who p : ℕ) (s : State) (es : List Entry) → Kept f s → Grounded f s
    → SendsAlone f who p s es → has s.present p ≡ true → GaveAll p (length s.instances) (after f s es)

-- and, once there is a public key, each of its inputs
abbrev pub SendingGivesInputs : Type 0
SendingGivesInputs = (f : Fixed) (who p : ℕ) (s : State) (es : List Entry) (c k : ℕ) → Kept f s → Grounded f s
    → SendsAlone f who p s es → has s.present p ≡ true → has_done Pk s.instances ≡ true
    → is_input f c k ≡ true → slice_index_or (plan f c).owners k 0 ≡ p → is_given (after f s es) c k ≡ true

-- ---- settling

-- behind a history, one caller alone settles the session
pub record SettlesAlone (f : Fixed) (who : ℕ) (before made : List Entry) : Type 0 where
  pub legal : IsLegal f (before ++ made)
  pub alone : own who made ≡ made
  pub settles : Settles rounds f who (state_after f before) made

-- nobody is lost by it
abbrev pub SettlingLosesNobody : Type 0
SettlingLosesNobody = (f : Fixed) (who : ℕ) (before made : List Entry) → SettlesAlone f who before made
    → (state_after f (before ++ made)).present ≡ (state_after f before).present

-- no instance is opened then, and no circuit is ready
abbrev pub SettlingEnds : Type 0
SettlingEnds = (f : Fixed) (who : ℕ) (before made : List Entry) → IsWhole f → 1 ≤ f.threshold → SettlesAlone f who before made
    → NoneOpened (state_after f (before ++ made)) × (next_ready f (state_after f (before ++ made)) ≡ None)

-- and where it could be settled, each admitted circuit is answered: so it is where it could be before, and where
-- it could be then
abbrev pub SettlingAnswers : Type 0
SettlingAnswers = (f : Fixed) (who : ℕ) (before made : List Entry) → IsWhole f → 1 ≤ f.threshold → SettlesAlone f who before made
    → CanSettle f (state_after f before) → is_settled (state_after f (before ++ made)) ≡ true

abbrev pub SettlingAnswersThen : Type 0
SettlingAnswersThen = (f : Fixed) (who : ℕ) (before made : List Entry) → IsWhole f → 1 ≤ f.threshold → SettlesAlone f who before made
    → CanSettle f (state_after f (before ++ made)) → is_settled (state_after f (before ++ made)) ≡ true

-- ---- so it is at the end of a history of the serial course

abbrev pub SerialEnds : Type 0
SerialEnds = (f : Fixed) (present : List ℕ) (lanes : List (List Line)) (es : List Entry) → IsWhole f → 1 ≤ f.threshold
    → IsLegal f es → IsSerial f present lanes es → NoneOpened (state_after f es) × (next_ready f (state_after f es) ≡ None)

abbrev pub SerialAnswers : Type 0
SerialAnswers = (f : Fixed) (present : List ℕ) (lanes : List (List Line)) (es : List Entry) → IsWhole f → 1 ≤ f.threshold
    → IsLegal f es → (c : IsSerial f present lanes es) → CanSettle f (state_after f c.acts) → is_settled (state_after f es) ≡ true

-- each input of an admitted circuit is given, or its owner is present
abbrev pub OwnersArePresent : Fixed → State → Type 0
OwnersArePresent f s = (c k : ℕ) → is_input f c k ≡ true → (is_given s c k ≡ true) ⊎ (has s.present (slice_index_or (plan f c).owners k 0) ≡ true)

-- by those that are present at the end, of whom nobody was lost; the course leaves no circuit taken
abbrev pub SerialAnswersThen : Type 0
SerialAnswersThen = (f : Fixed) (present : List ℕ) (lanes : List (List Line)) (es : List Entry) → IsWhole f → 1 ≤ f.threshold
    → IsLegal f es → IsSerial f present lanes es
    → f.threshold ≤ count (state_after f es).present → OwnersArePresent f (state_after f es) → is_settled (state_after f es) ≡ true
