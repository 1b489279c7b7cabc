-- The statements of lanes and workers.
use Rattle.std.specs.Prelude.{ℕ, ◌+◌, ◌^◌, ◌==◌, ◌&&◌, nat_lt, nat_le, Bool, if◌then◌else◌, List, [], ◌∷◌, ◌++◌, length, replicate, codes, Result, Ok, Err}
use Rattle.session_rules.specs.declared.line.Line.{Line}
use Rattle.session_rules.specs.declared.line.Line.TheVariants as line
use Rattle.session_script.specs.declared.reason.Reason.{Reason}
use Rattle.session_script.specs.declared.reason.Reason.TheVariants as reason
use Rattle.session_script.specs.declared.place.Draft.{Draft}
use Rattle.session_script.specs.declared.place.Place.{Place}
use Rattle.session_script.specs.declared.place.Place.TheVariants as place
use Rattle.session_script.specs.Lines.{leads}
use Rattle.session_script.specs.Checks.{◌>>=◌, unless, number_at, party}

-- `lane`
unfoldable pub lane_statement : Draft → List (List ℕ) → Result Place Reason
lane_statement draft words = do
  _ ← unless (length words == 1) reason.Word
  _ ← unless (nat_lt (length draft.lanes) 8) reason.Limit
  Ok (place.InLane draft [])

-- whether one more line of a lane may stand
abbrev pub has_line_left : Draft → Bool
has_line_left draft = nat_lt draft.lines 4096

-- a party that a line names: in each version one of the N parties
abbrev pub lane_party : Draft → ℕ → Result ℕ Reason
lane_party draft p = party draft.frame p

-- the party of `join p`, `lose p` and `send p`
unfoldable pub lone_party : Draft → List (List ℕ) → Result ℕ Reason
lone_party draft words = do
  _ ← unless (length words == 2) reason.Word
  p ← number_at words 1
  _ ← unless (has_line_left draft) reason.Limit
  lane_party draft p

-- `hold p i`
unfoldable pub hold_line : Draft → List (List ℕ) → Result Line Reason
hold_line draft words = do
  _ ← unless (length words == 3) reason.Word
  given ← number_at words 1
  id ← number_at words 2
  _ ← unless (has_line_left draft) reason.Limit
  p ← lane_party draft given
  _ ← unless (nat_le 1 id && nat_lt id (2 ^ 32)) reason.Id
  Ok (line.Hold p id)

-- `give`, `work` and `quit`
unfoldable pub lone_line : Draft → Line → List (List ℕ) → Result Line Reason
lone_line draft said words = do
  _ ← unless (length words == 1) reason.Word
  _ ← unless (has_line_left draft) reason.Limit
  Ok said

-- a line of a lane
unfoldable pub lane_line : Draft → List (List ℕ) → Result Line Reason
lane_line draft words =
    if leads (codes "join") words then lone_party draft words >>= (λ p. Ok (line.Join p))
    else if leads (codes "lose") words then lone_party draft words >>= (λ p. Ok (line.Lose p))
    else if leads (codes "send") words then lone_party draft words >>= (λ p. Ok (line.Send p))
    else if leads (codes "hold") words then hold_line draft words
    else if leads (codes "give") words then lone_line draft line.Give words
    else if leads (codes "work") words then lone_line draft line.Work words
    else if leads (codes "quit") words then lone_line draft line.Quit words
    else Err reason.Word

-- `end` behind the lines of a lane
unfoldable pub lane_end : Draft → List Line → List (List ℕ) → Result Place Reason
lane_end draft lane words = do
  _ ← unless (length words == 1) reason.Word
  Ok (place.Lanes (record draft { lanes = draft.lanes ++ lane ∷ [] }))

-- a line in a lane
unfoldable pub in_lane : Draft → List Line → List (List ℕ) → Result Place Reason
in_lane draft lane words =
    if leads (codes "end") words then lane_end draft lane words
    else lane_line draft words >>= (λ said. Ok (place.InLane (record draft { lines = draft.lines + 1 }) (lane ++ said ∷ [])))

-- `workers W K`: W lanes of K lines `work`, behind the others
unfoldable pub workers_statement : Draft → List (List ℕ) → Result Place Reason
workers_statement draft words = do
  _ ← unless (length words == 3) reason.Word
  workers ← number_at words 1
  jobs ← number_at words 2
  _ ← unless (nat_le workers 8 && nat_le jobs 256) reason.Limit
  Ok (place.Closing (record draft { lanes = draft.lanes ++ replicate workers (replicate jobs line.Work) }))
