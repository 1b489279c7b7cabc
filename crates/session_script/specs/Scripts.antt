-- A script from its bytes: the lines one after the other, with what is known at each.
use Rattle.std.specs.Prelude.{◌≡◌, ℕ, ◌+◌, if◌then◌else◌, List, [], ◌∷◌, codes, Result, Ok, Err, ⊤}
use Rattle.session_script.specs.declared.reason.Reason.{Reason}
use Rattle.session_script.specs.declared.reason.Reason.TheVariants as reason
use Rattle.session_script.specs.declared.reason.Fault.{Fault}
use Rattle.session_script.specs.declared.reason.Fault.TheVariants as fault
use Rattle.session_script.specs.declared.reason.ScriptStop.{ScriptStop}
use Rattle.session_script.specs.declared.reason.ScriptStop.TheVariants as stop
use Rattle.session_script.specs.declared.place.Draft.{Draft}
use Rattle.session_script.specs.declared.place.Place.{Place}
use Rattle.session_script.specs.declared.place.Place.TheVariants as place
use Rattle.session_script.specs.declared.language.Script.{Script}
use Rattle.session_script.specs.Lines.{lines, words, leads, all_plain, is_skipped}
use Rattle.session_script.specs.Checks.{◌>>=◌, unless, is_statement}
use Rattle.session_script.specs.Asked.{Asked, numbers_of}
use Rattle.session_script.specs.Heads.{version_statement, params_statement, seed_statement, present_statement}
use Rattle.session_script.specs.CircuitLines.{circuit_statement, in_circuit}
use Rattle.session_script.specs.LaneLines.{lane_statement, in_lane, workers_statement}

-- `done`
unfoldable pub done_statement : Draft → List (List ℕ) → Result Place Reason
done_statement draft words = do
  _ ← unless (is_statement (codes "done") 1 words) reason.Word
  Ok (place.Finished draft)

-- a line between lanes
unfoldable pub between_lanes : Draft → List (List ℕ) → Result Place Reason
between_lanes draft words =
    if leads (codes "lane") words then lane_statement draft words
    else if leads (codes "workers") words then workers_statement draft words
    else done_statement draft words

-- a line between circuits: a circuit's first, or what stands behind the circuits
unfoldable pub between_circuits : Draft → List (List ℕ) → Result Place Reason
between_circuits draft words =
    if leads (codes "circuit") words then circuit_statement draft words else between_lanes draft words

-- a statement, by what may stand at its place
unfoldable pub statement : Place → List (List ℕ) → Result Place Reason
statement place.Start words = version_statement words
statement (place.Versioned version) words = params_statement version words
statement (place.Measured version numbers) words = seed_statement version numbers words
statement (place.Seeded version numbers master) words = present_statement version numbers master words
statement (place.Circuits draft) words = between_circuits draft words
statement (place.InCircuit draft begun) words = in_circuit draft begun words
statement (place.Lanes draft) words = between_lanes draft words
statement (place.InLane draft lane) words = in_lane draft lane words
statement (place.Closing draft) words = done_statement draft words
statement (place.Finished draft) words = Err reason.Word

-- a line of words: skipped, or a statement
unfoldable pub spoken : Place → List (List ℕ) → Result Place Reason
spoken at words = if is_skipped words then Ok at else statement at words

-- a line
unfoldable pub after_line : Place → List ℕ → Result Place Reason
after_line at line = if all_plain line then spoken at (words line) else Err reason.Byte

-- the first line that breaks a rule, counted from 1, and the first reason
pub record Refusal : Type 0 where
  pub line : ℕ
  pub reason : Reason

-- what a finished script asks for
abbrev pub asked_by : Draft → Asked
asked_by draft = record {
  version = draft.version;
  numbers = draft.frame;
  master = draft.master;
  present = draft.present;
  circuits = draft.circuits;
  lanes = draft.lanes;
}

-- the end of the text, before line n
unfoldable pub ended : Place → ℕ → Result Asked Refusal
ended (place.Finished draft) n = Ok (asked_by draft)
ended other n = Err (record { line = n; reason = reason.End })

-- what follows line n, if it broke no rule
abbrev pub past_line : ℕ → Result Place Reason → (Place → Result Asked Refusal) → Result Asked Refusal
past_line n (Ok next) rest = rest next
past_line n (Err r) rest = Err (record { line = n; reason = r })

-- the lines from line n on
unfoldable pub read_from : Place → ℕ → List (List ℕ) → Result Asked Refusal
read_from at n [] = ended at n
read_from at n (line ∷ rest) = past_line n (after_line at line) (λ next. read_from next (n + 1) rest)

-- the script that a text spells, or its refusal
unfoldable pub script : List ℕ → Result Asked Refusal
script text = read_from place.Start 1 (lines text)

-- what a script that was read asks for
abbrev pub asked : Script → Asked
asked s = record {
  version = s.version;
  numbers = numbers_of s.params;
  master = s.master;
  present = s.present;
  circuits = s.circuits;
  lanes = s.lanes;
}

-- what a fault of line n means for the text
abbrev pub IsFaultAt : ℕ → Fault → ScriptStop → Type 0
IsFaultAt n (fault.Refused r) s = s ≡ stop.Refused n r
IsFaultAt n fault.NoMemory s = s ≡ stop.NoMemory

-- a stop is the refusal of the text; want of memory alone is free
abbrev pub IsStopOf : Result Asked Refusal → ScriptStop → Type 0
IsStopOf said (stop.Refused line r) = said ≡ Err (record { line = line; reason = r })
IsStopOf said stop.NoMemory = ⊤
