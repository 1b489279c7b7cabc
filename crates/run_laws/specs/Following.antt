-- What follows some tasks.
use Rattle.std.specs.Prelude.{◌≡◌, ℕ, Bool, true, false, List, [], ◌∷◌, ◌++◌, Option, Some, None}
use Rattle.session_rules.specs.declared.call.Call.{Call}
use Rattle.session_rules.specs.declared.call.Entry.{Entry}
use Rattle.session_rules.specs.declared.line.Line.{Line}
use Rattle.session_rules.specs.declared.line.Line.TheVariants as line
use Rattle.session_rules.specs.Tasks.{Task, begin, does, Left, at_call, left}
use Rattle.session_rules.specs.Courses.{Follows, BreaksOff}

-- ---- what is in hand

-- whether a line looks at what is in hand, or takes something else into it
abbrev pub looks_line : Line → Bool → Bool
looks_line line.Give rest = true
looks_line (line.Hold p id) rest = false
looks_line other rest = rest

abbrev pub looks_task : Task → Bool → Bool
looks_task begin rest = false
looks_task (does l) rest = looks_line l rest
looks_task other rest = rest

-- whether some tasks look at what is in hand when the first of them begins
abbrev pub looks : List Task → Bool
looks [] = false
looks (t ∷ ts) = looks_task t (looks ts)

-- ---- entries, one after the other

-- what is left of what is left
abbrev pub left_of : ℕ → Option Left → List Entry → Option Left
left_of l None more = None
left_of l (Some rest) more = left l rest more

-- tasks, and more of them behind
abbrev pub and_then : Left → List Task → Left
and_then todo us = record { hand = todo.hand; tasks = todo.tasks ++ us }

-- ---- laws

-- tasks that call nothing are dropped without a trace
abbrev pub DroppedIsLeft : Type 0
DroppedIsLeft = (l : ℕ) (todo : Left) (es : List Entry) → left l (at_call todo) es ≡ left l todo es

-- after some entries and more is left what is left of the rest
abbrev pub EntriesAppend : Type 0
EntriesAppend = (l : ℕ) (todo : Left) (es more : List Entry) → left l todo (es ++ more) ≡ left_of l (left l todo es) more

-- entries that follow tasks, and entries that follow more of them
abbrev pub TasksAppend : Type 0
TasksAppend = (l : ℕ) (ts us : List Task) (a b : List Entry) → looks us ≡ false → Follows l ts a → Follows l us b → Follows l (ts ++ us) (a ++ b)

-- and so they split
pub record Parts (l : ℕ) (ts us : List Task) (es : List Entry) : Type 0 where
  pub first : List Entry
  pub second : List Entry
  pub both : es ≡ first ++ second
  pub firsts : Follows l ts first
  pub seconds : Follows l us second

abbrev pub TasksSplit : Type 0
TasksSplit = (l : ℕ) (ts us : List Task) (es : List Entry) → looks us ≡ false → Follows l (ts ++ us) es → Parts l ts us es

-- where they break off, it is at a call of the first tasks, or of those behind them
pub data BreaksAt (l : ℕ) (ts us : List Task) (es : List Entry) (next : Call) : Type 0 where
  early : BreaksOff l ts es next → BreaksAt l ts us es next
  late : (first second : List Entry) → es ≡ first ++ second → Follows l ts first → BreaksOff l us second next → BreaksAt l ts us es next

abbrev pub TasksBreak : Type 0
TasksBreak = (l : ℕ) (ts us : List Task) (es : List Entry) (next : Call) → looks us ≡ false → BreaksOff l (ts ++ us) es next → BreaksAt l ts us es next
