-- How a session is settled, and whose entries a history has: its course.
use Rattle.std.specs.Prelude.{◌≡◌, ℕ, zero, suc, Bool, true, false, ◌||◌, ◌⊎◌, if◌then◌else◌, List, [], ◌∷◌, ◌++◌, map, Option, Some, None}
use Rattle.std.specs.List.{list_all, flat_map}
use Rattle.share_spec.specs.Sets.{members}
use Rattle.session_rules.specs.declared.call.Call.{Call}
use Rattle.session_rules.specs.declared.call.Entry.{Entry}
use Rattle.session_rules.specs.declared.line.Line.{Line}
use Rattle.session_rules.specs.declared.line.Line.TheVariants as line
use Rattle.session_rules.specs.declared.state.CircuitState.{CircuitState}
use Rattle.session_rules.specs.declared.fixed.Fixed.{Fixed}
use Rattle.session_rules.specs.States.{State, is_answered, is_refused, opening}
use Rattle.session_rules.specs.Histories.{after, state_after}
use Rattle.session_rules.specs.Tasks.{Task, begin, does, exhausts, Held, Left, left, next_call, own, run}

-- ---- to follow tasks

-- nothing is in hand, and these are to be done
abbrev pub to_do : List Task → Left
to_do ts = record { hand = None; tasks = ts }

-- the entries are exactly the calls of some tasks
pub record Follows (l : ℕ) (ts : List Task) (es : List Entry) : Type 0 where
  pub hand : Option Held
  pub follows : left l (to_do ts) es ≡ Some (record { hand = hand; tasks = [] })

-- they are the first ones of these calls, and not all: this one is next
pub record BreaksOff (l : ℕ) (ts : List Task) (es : List Entry) (next : Call) : Type 0 where
  pub rest : Left
  pub begins : left l (to_do ts) es ≡ Some rest
  pub more : next_call rest ≡ Some next

-- ---- lanes

abbrev pub lane_tasks : List Line → List Task
lane_tasks lane = begin ∷ map does lane

abbrev pub joins : ℕ → Task
joins p = does (line.Join p)

abbrev pub sends : ℕ → Task
sends p = does (line.Send p)

-- some parties join, and lanes are followed one after the other, each with a hand of its own
unfoldable pub serial_tasks : List ℕ → List (List Line) → List Task
serial_tasks present lanes = map joins present ++ flat_map lane_tasks lanes

-- ---- settling

abbrev pub is_over : CircuitState → Bool
is_over c = is_answered c || is_refused c

-- whether each admitted circuit is answered
unfoldable pub is_settled : State → Bool
is_settled s = list_all is_over s.circuits

-- a round: each party that is present at its start sends, and all circuits that are ready are evaluated
unfoldable pub round_tasks : State → List Task
round_tasks s = map sends (members s.present) ++ exhausts ∷ []

-- the entries are rounds, each by the state at its start, made while an admitted circuit isn't answered, and
-- at most n of them
abbrev pub Settles : ℕ → Fixed → ℕ → State → List Entry → Type 0
Settles zero f who s es = es ≡ []
Settles (suc n) f who s es = elim (is_settled s) [
  | true ↦ es ≡ []
  | false ↦ (here : List Entry) × (rest : List Entry) × (es ≡ here ++ rest) × Follows f.rows (round_tasks s) here × Settles n f who (after f s here) rest
]

-- they are the first ones of such rounds, and not all: this call is next
abbrev pub Unsettled : ℕ → Fixed → ℕ → State → List Entry → Call → Type 0
Unsettled zero f who s es next = ⊥
Unsettled (suc n) f who s es next = elim (is_settled s) [
  | true ↦ ⊥
  | false ↦ BreaksOff f.rows (round_tasks s) es next
      ⊎ ((here : List Entry) × (rest : List Entry) × (es ≡ here ++ rest) × Follows f.rows (round_tasks s) here × Unsettled n f who (after f s here) rest next)
]

-- a session is settled in six rounds at most
abbrev pub rounds : ℕ
rounds = 6

-- ---- the serial course: caller 0 alone

pub record IsSerial (f : Fixed) (present : List ℕ) (lanes : List (List Line)) (es : List Entry) : Type 0 where
  pub acts : List Entry
  pub settling : List Entry
  pub parts : es ≡ acts ++ settling
  pub alone : own 0 es ≡ es
  pub follows : Follows f.rows (serial_tasks present lanes) acts
  pub settles : Settles rounds f 0 (state_after f acts) settling

-- the history of that course: with at most so many calls before it is settled, and in each round
unfoldable pub settling_run : ℕ → ℕ → Fixed → ℕ → State → List Entry
settling_run zero most f who s = []
settling_run (suc n) most f who s =
    if is_settled s then []
    else run most f who s (to_do (round_tasks s)) ++ settling_run n most f who (after f s (run most f who s (to_do (round_tasks s))))

unfoldable pub serial_run : ℕ → Fixed → List ℕ → List (List Line) → List Entry
serial_run most f present lanes =
    run most f 0 (opening f) (to_do (serial_tasks present lanes))
    ++ settling_run rounds most f 0 (state_after f (run most f 0 (opening f) (to_do (serial_tasks present lanes))))
