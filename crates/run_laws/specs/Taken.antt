-- Who has taken a circuit, and what is left to do for it.
use Rattle.std.specs.Prelude.{◌≡◌, ◌≢◌, ℕ, Bool, true, false, ◌⊎◌, List, Some}
use Rattle.std.specs.List.{Contains, list_any}
use Rattle.session_rules.specs.declared.call.Call.{Call}
use Rattle.session_rules.specs.declared.call.Call.TheVariants as call
use Rattle.session_rules.specs.declared.call.Entry.{Entry}
use Rattle.session_rules.specs.declared.line.Line.{Line}
use Rattle.session_rules.specs.declared.state.CircuitState.TheVariants.{Taken}
use Rattle.session_rules.specs.declared.fixed.Fixed.{Fixed}
use Rattle.session_rules.specs.States.{State, circuit, opening}
use Rattle.session_rules.specs.Steps.{step}
use Rattle.session_rules.specs.Histories.{after, replayed, state_after, IsLegal}
use Rattle.session_rules.specs.Facts.{NoneBy}
use Rattle.session_rules.specs.Grounds.{IsWhole}
use Rattle.session_rules.specs.Tasks.{Task, finishes, returns, Left, next_call, left, own}
use Rattle.session_rules.specs.Courses.{IsSerial}
use Rattle.run_laws.specs.Alone.{Stops}

-- ---- what is done with a circuit that was taken

-- it is still to be evaluated, or given back
abbrev pub Ends : List Task → ℕ → Type 0
Ends ts c = Contains ts (finishes c) ⊎ Contains ts (returns c)

abbrev pub is_end : Task → Bool
is_end (finishes c) = true
is_end (returns c) = true
is_end other = false

-- nothing of the kind is to be done
abbrev pub HasNoEnd : List Task → Type 0
HasNoEnd ts = list_any is_end ts ≡ false

-- a caller has taken no circuit
abbrev pub TookNone : ℕ → State → Type 0
TookNone who s = (c : ℕ) → circuit s.circuits c ≢ Taken who

-- each that it has taken is still to be evaluated or given back
abbrev pub EndsTaken : ℕ → State → List Task → Type 0
EndsTaken who s ts = (c : ℕ) → circuit s.circuits c ≡ Taken who → Ends ts c

-- ---- laws: whoever else calls in between

-- so it stays
abbrev pub TakenIsEnded : Type 0
TakenIsEnded = (f : Fixed) (who : ℕ) (s : State) (todo rest : Left) (es : List Entry) → EndsTaken who s todo.tasks → replayed f s es ≡ es
    → left f.rows todo (own who es) ≡ Some rest → EndsTaken who (after f s es) rest.tasks

-- in a legal history: so where nothing is left to be done, nothing stays taken
abbrev pub NothingStaysTaken : Type 0
NothingStaysTaken = (f : Fixed) (who : ℕ) (todo rest : Left) (es : List Entry) → IsWhole f → IsLegal f es → left f.rows todo (own who es) ≡ Some rest
    → EndsTaken who (state_after f es) rest.tasks

-- where a caller that had taken none stops, the call that is next would end what it has taken
abbrev pub TakenIsNext : Type 0
TakenIsNext = (f : Fixed) (who c : ℕ) (s : State) (todo rest : Left) (es : List Entry) → TookNone who s → HasNoEnd todo.tasks → replayed f s es ≡ es
    → left f.rows todo (own who es) ≡ Some rest → circuit (after f s es).circuits c ≡ Taken who
    → (next_call rest ≡ Some (call.Finish c)) ⊎ (next_call rest ≡ Some (call.GiveBack c))

-- so nothing stays taken either where it gives that circuit back
abbrev pub StopsLeaveNone : Type 0
StopsLeaveNone = (f : Fixed) (who c : ℕ) (s : State) (todo rest : Left) (es : List Entry) → TookNone who s → HasNoEnd todo.tasks → replayed f s es ≡ es
    → left f.rows todo (own who es) ≡ Some rest → next_call rest ≡ Some (call.Finish c) → TookNone who (step f (after f s es) who (call.GiveBack c)).1

-- nobody has taken a circuit at first
abbrev pub NoneIsTaken : Type 0
NoneIsTaken = (f : Fixed) (who : ℕ) → IsWhole f → TookNone who (opening f)

-- without its calls a caller takes nothing
abbrev pub UntakenStays : Type 0
UntakenStays = (f : Fixed) (s : State) (es : List Entry) (who c : ℕ) → NoneBy who es → circuit s.circuits c ≢ Taken who → circuit (after f s es).circuits c ≢ Taken who

abbrev pub OthersTookNone : Type 0
OthersTookNone = (f : Fixed) (es : List Entry) (who : ℕ) → IsWhole f → NoneBy who es → TookNone who (state_after f es)

-- the serial course leaves nothing taken, before it is settled and after
abbrev pub SerialTookNone : Type 0
SerialTookNone = (f : Fixed) (present : List ℕ) (lanes : List (List Line)) (es : List Entry) (is : IsSerial f present lanes es) (who : ℕ) → IsWhole f → IsLegal f es
    → TookNone who (state_after f is.acts) × TookNone who (state_after f es)

-- and where it stops, it has taken the one that the next call would end, or none; so none once that is given back
abbrev pub SerialTakenIsNext : Type 0
SerialTakenIsNext = (f : Fixed) (present : List ℕ) (lanes : List (List Line)) (es : List Entry) (next : Call) (c : ℕ) → IsWhole f → IsLegal f es → own 0 es ≡ es
    → Stops f present lanes es next → circuit (state_after f es).circuits c ≡ Taken 0 → (next ≡ call.Finish c) ⊎ (next ≡ call.GiveBack c)

abbrev pub SerialStopsLeaveNone : Type 0
SerialStopsLeaveNone = (f : Fixed) (present : List ℕ) (lanes : List (List Line)) (es : List Entry) (c : ℕ) → IsWhole f → IsLegal f es → own 0 es ≡ es
    → Stops f present lanes es (call.Finish c) → TookNone 0 (step f (state_after f es) 0 (call.GiveBack c)).1
