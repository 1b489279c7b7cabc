-- How many calls a caller makes at most for its tasks, and the serial course.
use Rattle.std.specs.Prelude.{◌≡◌, ℕ, ◌+◌, ◌*◌, ◌<◌, ◌≤◌, Bool, true, false, List, ◌++◌, length, map, sum_by, Some}
use Rattle.std.specs.List.{range_with_len, list_any}
use Rattle.proto_names.specs.declared.signature.Signature.{Signature}
use Rattle.proto_names.specs.declared.signature.Signature.TheVariants.{Dec}
use Rattle.circuit_form.specs.declared.node.Node.{Node}
use Rattle.param_set.specs.Numbers.{Numbers}
use Rattle.session_rules.specs.declared.call.Call.{Call}
use Rattle.session_rules.specs.declared.call.Entry.{Entry}
use Rattle.session_rules.specs.declared.line.Line.{Line}
use Rattle.session_rules.specs.declared.line.Line.TheVariants as line
use Rattle.session_rules.specs.declared.fixed.Plan.{Plan}
use Rattle.session_rules.specs.declared.fixed.Fixed.{Fixed}
use Rattle.session_rules.specs.States.{State}
use Rattle.session_rules.specs.Issues.{keys}
use Rattle.session_rules.specs.Histories.{replayed, state_after, IsLegal}
use Rattle.session_rules.specs.Tasks.{Task, begin, does, shares, delivers, gives, finishes, returns, exhausts, Left, next_call, left, own}
use Rattle.session_rules.specs.Courses.{Follows, BreaksOff, round_tasks, Settles, Unsettled, IsSerial, serial_run}
use Rattle.session_rules.specs.Fixing.{fixed_of}
use Rattle.session_rules.specs.Grounds.{IsWhole}
use Rattle.run_laws.specs.Alone.{Stops}

-- ---- what there is to be sent

-- the signatures of all instances that are ever issued: the keys that are needed, and a decryption for
-- each circuit
unfoldable pub signatures : Fixed → List Signature
signatures f = keys f ++ map Dec (range_with_len 0 (length f.plans))

-- how many inputs a circuit has, and all circuits have
abbrev pub input_count : Plan → ℕ
input_count plan = length plan.owners

unfoldable pub inputs : Fixed → ℕ
inputs f = sum_by input_count f.plans

-- ---- the most calls

-- of a party that sends: it asks once; for each instance that lacks its share, which are opened ones and so
-- of different signatures, it has a brief and delivers; and each input is one call
unfoldable pub most_sent : Fixed → ℕ
most_sent f = 1 + 2 * length (signatures f) + inputs f

-- of a round: at most 32 parties send, each circuit is taken and finished, and one take finds none
unfoldable pub most_round : Fixed → ℕ
most_round f = 32 * most_sent f + 2 * length f.plans + 1

-- how many lines a lane has, and all lanes have
abbrev pub line_count : List Line → ℕ
line_count lane = length lane

unfoldable pub lines : List (List Line) → ℕ
lines lanes = sum_by line_count lanes

-- of a serial run: each party that joins makes one; each line makes those of a party that sends, or at most
-- two; and there are at most six rounds
unfoldable pub most_calls : Fixed → List ℕ → List (List Line) → ℕ
most_calls f present lanes = length present + lines lanes * (1 + most_sent f) + 6 * most_round f

-- ---- the most calls of tasks

abbrev pub most_line : Fixed → Line → ℕ
most_line f (line.Send p) = most_sent f
most_line f line.Work = 2
most_line f line.Quit = 2
most_line f other = 1

-- of a task: one call, where a line or a brief makes no more; circuits are taken until none is ready as often
-- as there are circuits, where nobody else calls
abbrev pub most_task : Fixed → Task → ℕ
most_task f begin = 0
most_task f (does l) = most_line f l
most_task f (shares p id) = 2
most_task f (delivers share) = 1
most_task f (gives c k) = 1
most_task f (finishes c) = 1
most_task f (returns c) = 1
most_task f exhausts = 2 * length f.plans + 1

unfoldable pub most_of : Fixed → List Task → ℕ
most_of f ts = sum_by (most_task f) ts

abbrev pub is_exhaust : Task → Bool
is_exhaust exhausts = true
is_exhaust other = false

-- ---- the laws, for fixed data like that of circuits, which begin idle or refused: `base` is the history before

-- whoever else calls in between, a caller makes no more calls than its tasks allow, those that are left among them
pub record Makes (f : Fixed) (who : ℕ) (base es : List Entry) (todo rest : Left) : Type 0 where
  pub bounded : list_any is_exhaust todo.tasks ≡ false
  pub legal : replayed f (state_after f base) es ≡ es
  pub follows : left f.rows todo (own who es) ≡ Some rest

abbrev pub CallsAreFew : Type 0
CallsAreFew = (f : Fixed) (who : ℕ) (base es : List Entry) (todo rest : Left) → IsWhole f → Makes f who base es todo rest
    → length (own who es) + most_of f rest.tasks ≤ most_of f todo.tasks

-- and one fewer where it stops
abbrev pub StopsAreShort : Type 0
StopsAreShort = (f : Fixed) (who : ℕ) (base es : List Entry) (todo rest : Left) (next : Call) → IsWhole f → Makes f who base es todo rest
    → next_call rest ≡ Some next → length (own who es) + 1 ≤ most_of f todo.tasks

-- calls that one caller makes alone
pub record IsAlone (f : Fixed) (who : ℕ) (base es : List Entry) : Type 0 where
  pub whole : IsWhole f
  pub alone : own who es ≡ es
  pub legal : replayed f (state_after f base) es ≡ es

-- a round of settling is short, and so is settling, also where it stops
abbrev pub RoundsAreShort : Type 0
RoundsAreShort = (f : Fixed) (who : ℕ) (base es : List Entry) (s : State) → IsAlone f who base es → Follows f.rows (round_tasks s) es → length es ≤ most_round f

abbrev pub RoundStopsAreShort : Type 0
RoundStopsAreShort = (f : Fixed) (who : ℕ) (base es : List Entry) (s : State) (next : Call) → IsAlone f who base es → BreaksOff f.rows (round_tasks s) es next → length es + 1 ≤ most_round f

abbrev pub SettlingIsShort : Type 0
SettlingIsShort = (n : ℕ) (f : Fixed) (who : ℕ) (base es : List Entry) → IsAlone f who base es → Settles n f who (state_after f base) es → length es ≤ n * most_round f

abbrev pub UnsettledIsShort : Type 0
UnsettledIsShort = (n : ℕ) (f : Fixed) (who : ℕ) (base es : List Entry) (next : Call) → IsAlone f who base es → Unsettled n f who (state_after f base) es next
    → length es + 1 ≤ n * most_round f

-- the serial course is short
abbrev pub CourseIsShort : Type 0
CourseIsShort = (f : Fixed) (present : List ℕ) (lanes : List (List Line)) (es : List Entry) → IsWhole f → IsLegal f es → IsSerial f present lanes es
    → length es ≤ most_calls f present lanes

-- also where it stops
abbrev pub CourseStopsShort : Type 0
CourseStopsShort = (f : Fixed) (present : List ℕ) (lanes : List (List Line)) (es : List Entry) (next : Call) → IsWhole f → IsLegal f es → own 0 es ≡ es
    → Stops f present lanes es next → length es + 1 ≤ most_calls f present lanes

-- so a run of that course that may make as many calls keeps it, and is legal
abbrev pub RunIsSerial : Type 0
RunIsSerial = (most : ℕ) (f : Fixed) (present : List ℕ) (lanes : List (List Line)) → IsWhole f → most_calls f present lanes ≤ most
    → IsSerial f present lanes (serial_run most f present lanes)

abbrev pub SerialRunIsLegal : Type 0
SerialRunIsLegal = (most : ℕ) (f : Fixed) (present : List ℕ) (lanes : List (List Line)) → IsLegal f (serial_run most f present lanes)

-- and no other history does
abbrev pub SerialIsItsRun : Type 0
SerialIsItsRun = (most : ℕ) (f : Fixed) (present : List ℕ) (lanes : List (List Line)) (es : List Entry) → IsWhole f → most_calls f present lanes ≤ most
    → IsLegal f es → IsSerial f present lanes es → es ≡ serial_run most f present lanes

-- ---- a script's

-- what a script can ask for at most
pub record IsSmall (f : Fixed) (present : List ℕ) (lanes : List (List Line)) : Type 0 where
  pub plans : length f.plans ≤ 64
  pub inputs : inputs f ≤ 1024
  pub turns : length f.turns ≤ 16
  pub lines : lines lanes ≤ 6144
  pub parties : length present ≤ 32

abbrev pub SmallOnesAreShort : Type 0
SmallOnesAreShort = (f : Fixed) (present : List ℕ) (lanes : List (List Line)) → IsSmall f present lanes → most_calls f present lanes < 8388608

-- ---- of circuits

-- no more is asked for than three keys, one for each different rotation, and a decryption of each circuit; and
-- circuits have no more inputs than nodes
abbrev pub FewAreSigned : Type 0
FewAreSigned = (f : Fixed) → length (signatures f) ≤ 3 + length f.turns + length f.plans

abbrev pub node_count : List Node → ℕ
node_count nodes = length nodes

abbrev pub FewAreInputs : Type 0
FewAreInputs = (p : Numbers) (circuits : List (List Node)) → inputs (fixed_of p circuits) ≤ sum_by node_count circuits
