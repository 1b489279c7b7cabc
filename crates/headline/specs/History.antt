-- The history of a script's serial run, and that it keeps the headline.
use Rattle.std.specs.Prelude.{◌≡◌, ℕ, Bool, true, List, Ok}
use Rattle.std.specs.List.{list_all}
use Rattle.cipher_spec.specs.Ciphers.{is_switch_free}
use Rattle.session_rules.specs.declared.call.Entry.{Entry}
use Rattle.session_rules.specs.Courses.{serial_run}
use Rattle.session_script.specs.Asked.{Named, Asked}
use Rattle.session_script.specs.Scripts.{script}
use Rattle.headline.specs.Asked.{rules_asked}
use Rattle.headline.specs.Course.{serial}
use Rattle.headline.specs.Headline.{Headline}

-- the most calls of a session, more than any run of a script makes
abbrev pub most_calls : ℕ
most_calls = 8388608

-- those that are present join, the lanes are followed one after the other, and the session is settled; each
-- call is answered by the rules
unfoldable pub history : Asked → List Entry
history a = serial_run most_calls (rules_asked a) a.present a.lanes

-- the evaluation of each circuit needs no key switch
abbrev pub is_free : Named → Bool
is_free circuit = is_switch_free circuit.nodes

abbrev pub are_free : List Named → Bool
are_free circuits = list_all is_free circuits

-- the serial history of whatever script a text spells keeps the headline, where no circuit needs a key switch
abbrev pub HistoriesKeepIt : Type 0
HistoriesKeepIt = (text : List ℕ) (a : Asked) → script text ≡ Ok a → are_free a.circuits ≡ true → Headline a serial (history a)
