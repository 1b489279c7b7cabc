-- What the program writes, and what each status means. Where a source or a sink doesn't tell its
-- bytes, nothing is said of them.
use Rattle.std.specs.Prelude.{◌≡◌, ℕ, ◌<◌, ◌≤◌, ◌⊎◌, ⊤, true, false, List, [], ◌∷◌, length, take, codes, Option, Some, None, Ok}
use Rattle.std.specs.Io.KnownBytes.{Appends}
use Rattle.edge_io.specs.Taking.{TakesAtMost, TakesMoreThan}
use Rattle.session_rules.specs.declared.call.Entry.{Entry}
use Rattle.session_script.specs.Asked.{Asked}
use Rattle.session_script.specs.Scripts.{script}
use Rattle.run_report.specs.Reports.{report}
use Rattle.headline.specs.Course.{serial}
use Rattle.headline.specs.Headline.{Headline}
use Rattle.helper_main.specs.declared.status.Status.{Status}
use Rattle.helper_main.specs.declared.status.Status.TheVariants.{Done, Usage, Script, Read, Write, Memory}
use Rattle.helper_main.specs.declared.work.Work.{Work}
use Rattle.helper_main.specs.declared.work.Work.TheVariants.{Run, Check}
use Rattle.helper_main.specs.Works.{owed, is_done}

-- the greatest number of bytes of a script
abbrev pub most_bytes : ℕ
most_bytes = 1048576

-- the words of a work
abbrev pub words_of : Work → List (List ℕ)
words_of Run = codes "run" ∷ codes "--serial" ∷ []
words_of Check = codes "check" ∷ []

abbrev pub usage_line : List ℕ
usage_line = codes "usage: helium run [--serial] [--json] | check | gen NUMBER\n"

abbrev pub refused_long : List ℕ
refused_long = codes "refused long\n"

-- the first bytes of a text were written, and not all of them
abbrev pub WritesPart : Option (List ℕ) → Option (List ℕ) → List ℕ → Type 0
WritesPart old new text = (count : ℕ) × (count < length text) × Appends old new (take count text)

-- all that the source had was read, and it was no more than a script may have
abbrev pub ReadsWhole : List ℕ → Option (List ℕ) → Type 0
ReadsWhole bytes left = (left ≡ Some []) × (length bytes ≤ most_bytes)

-- Done: the bytes spell a script that is taken, and the text for it was written
abbrev pub Reports : Work → Option (List ℕ) → Option (List ℕ) → Option (List ℕ) → Option (List ℕ) → Type 0
Reports work None left old new = ⊤
Reports work (Some bytes) left old new =
    ReadsWhole bytes left × (is_done (script bytes) ≡ true) × Appends old new (owed work (script bytes))

-- Script: more bytes were read than a script may have, or they spell none that is taken; the line that
-- says which, and where, was written
abbrev pub Refuses : Work → Option (List ℕ) → Option (List ℕ) → Option (List ℕ) → Option (List ℕ) → Type 0
Refuses work None left old new = ⊤
Refuses work (Some bytes) left old new =
    (TakesMoreThan bytes left most_bytes × Appends old new refused_long)
    ⊎ (ReadsWhole bytes left × (is_done (script bytes) ≡ false) × Appends old new (owed work (script bytes)))

-- Write: a first part of what is owed for the bytes was written, and not all of it
abbrev pub Breaks : Work → Option (List ℕ) → Option (List ℕ) → Option (List ℕ) → Option (List ℕ) → Type 0
Breaks work None left old new = ⊤
Breaks work (Some bytes) left old new =
    (TakesMoreThan bytes left most_bytes × WritesPart old new refused_long)
    ⊎ (ReadsWhole bytes left × WritesPart old new (owed work (script bytes)))

-- Read and Memory: nothing was written, and no more was read than a script may have
abbrev pub StopsBefore : Option (List ℕ) → Option (List ℕ) → Option (List ℕ) → Option (List ℕ) → Type 0
StopsBefore before left old new = TakesAtMost before left most_bytes × (new ≡ old)

-- what each status of a work says of the bytes that were left and are left, and that were taken and are
-- taken
abbrev pub Serves : Work → Status → Option (List ℕ) → Option (List ℕ) → Option (List ℕ) → Option (List ℕ) → Type 0
Serves work Done before left old new = Reports work before left old new
Serves work Usage before left old new = ⊥
Serves work Script before left old new = Refuses work before left old new
Serves work Read before left old new = StopsBefore before left old new
Serves work Write before left old new = Breaks work before left old new
Serves work Memory before left old new = StopsBefore before left old new

-- other words than those of a work: the usage line was written whole, or a first part of it
abbrev pub Declines : Status → Option (List ℕ) → Option (List ℕ) → Type 0
Declines Done old new = ⊥
Declines Usage old new = Appends old new usage_line
Declines Script old new = ⊥
Declines Read old new = ⊥
Declines Write old new = WritesPart old new usage_line
Declines Memory old new = ⊥

-- ---- what a run that is done promises

-- all bytes were read and spell a script, and what was written is the report of calls that keep the headline
pub record KeepsHeadline (bytes : List ℕ) (left old new : Option (List ℕ)) : Type 0 where
  pub asked : Asked
  pub entries : List Entry
  pub read : ReadsWhole bytes left
  pub spelled : script bytes ≡ Ok asked
  pub written : Appends old new (report asked entries)
  pub headline : Headline asked serial entries

abbrev pub HasHeadline : Option (List ℕ) → Option (List ℕ) → Option (List ℕ) → Option (List ℕ) → Type 0
HasHeadline None left old new = ⊤
HasHeadline (Some bytes) left old new = KeepsHeadline bytes left old new

-- ---- when a work is done

-- the source has a script that is taken, and no more
abbrev pub HoldsScript : Option (List ℕ) → Type 0
HoldsScript None = ⊥
HoldsScript (Some bytes) = (length bytes ≤ most_bytes) × (is_done (script bytes) ≡ true)

-- it is done, or memory was wanting
abbrev pub IsDoneOr : Status → Type 0
IsDoneOr status = (status ≡ Done) ⊎ (status ≡ Memory)
