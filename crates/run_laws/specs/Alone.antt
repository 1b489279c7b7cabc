-- What one caller does alone.
use Rattle.std.specs.Prelude.{◌≡◌, ℕ, ◌<◌, ◌≤◌, List, [], ◌++◌, length, Some}
use Rattle.session_rules.specs.declared.call.Call.{Call}
use Rattle.session_rules.specs.declared.call.Entry.{Entry}
use Rattle.session_rules.specs.declared.line.Line.{Line}
use Rattle.session_rules.specs.declared.fixed.Fixed.{Fixed}
use Rattle.session_rules.specs.States.{State}
use Rattle.session_rules.specs.Histories.{replayed, state_after, IsLegal}
use Rattle.session_rules.specs.Tasks.{Left, left, own, run}
use Rattle.session_rules.specs.Courses.{Follows, BreaksOff, serial_tasks, Unsettled, rounds, Settles, settling_run, IsSerial, serial_run}

-- ---- a run

-- the entries are by one caller, they have the replies that they have to have, and they are the first calls of
-- what is to be done, or all of them where they are fewer than n
pub record Runs (n : ℕ) (f : Fixed) (who : ℕ) (s : State) (todo : Left) (es : List Entry) : Type 0 where
  pub alone : own who es ≡ es
  pub legal : replayed f s es ≡ es
  pub rest : Left
  pub follows : left f.rows todo es ≡ Some rest
  pub ends : length es < n → rest.tasks ≡ []

-- so are those of a run
abbrev pub RunFollows : Type 0
RunFollows = (n : ℕ) (f : Fixed) (who : ℕ) (s : State) (todo : Left) → Runs n f who s todo (run n f who s todo)

-- and no others do all that is to be done
abbrev pub RunIsOnly : Type 0
RunIsOnly = (n : ℕ) (f : Fixed) (who : ℕ) (s : State) (todo rest : Left) (es : List Entry) → own who es ≡ es → replayed f s es ≡ es
    → left f.rows todo es ≡ Some rest → rest.tasks ≡ [] → length es ≤ n → es ≡ run n f who s todo

-- ---- settling, and the serial course

-- rounds that settle are those of its run, with at most so many calls
abbrev pub SettlingIsOnly : Type 0
SettlingIsOnly = (n most : ℕ) (f : Fixed) (who : ℕ) (s : State) (es : List Entry) → own who es ≡ es → replayed f s es ≡ es
    → Settles n f who s es → length es ≤ most → es ≡ settling_run n most f who s

-- a legal history of the serial course is its run
abbrev pub SerialIsOnly : Type 0
SerialIsOnly = (most : ℕ) (f : Fixed) (present : List ℕ) (lanes : List (List Line)) (es : List Entry) → IsLegal f es
    → IsSerial f present lanes es → length es ≤ most → es ≡ serial_run most f present lanes

-- that course stops in its lanes, or where it is settled: this call is next
pub data Stops (f : Fixed) (present : List ℕ) (lanes : List (List Line)) (es : List Entry) (next : Call) : Type 0 where
  in_lanes : BreaksOff f.rows (serial_tasks present lanes) es next → Stops f present lanes es next
  in_rounds : (acts settling : List Entry) → es ≡ acts ++ settling → Follows f.rows (serial_tasks present lanes) acts
      → Unsettled rounds f 0 (state_after f acts) settling next → Stops f present lanes es next
