-- The line that tells which line of a script was refused, and why.
use Rattle.std.specs.Prelude.{ℕ, List, ◌++◌, codes, decimal}
use Rattle.param_set.specs.declared.raw.Field.{Field}
use Rattle.param_set.specs.declared.raw.Field.TheVariants.{N, Q, T, Root, DigitBits, Err, Flood, Parties, Threshold}
use Rattle.session_script.specs.declared.reason.Reason.{Reason}
use Rattle.session_script.specs.declared.reason.Reason.TheVariants as reason

-- the name of a parameter
abbrev pub field_name : Field → List ℕ
field_name N = codes "n"
field_name Q = codes "q"
field_name T = codes "t"
field_name Root = codes "root"
field_name DigitBits = codes "b"
field_name Err = codes "B"
field_name Flood = codes "D"
field_name Parties = codes "N"
field_name Threshold = codes "T"

-- a reason: its word, with the parameter that broke its rule, and with the value that was at fault
unfoldable pub reason_text : Reason → List ℕ
reason_text reason.Byte = codes "byte"
reason_text reason.Word = codes "word"
reason_text reason.Number = codes "number"
reason_text reason.Version = codes "version"
reason_text reason.Limit = codes "limit"
reason_text (reason.Params field value) = codes "params " ++ field_name field ++ codes " " ++ decimal value
reason_text (reason.NoRoot value) = codes "noroot " ++ decimal value
reason_text reason.Seed = codes "seed"
reason_text reason.Name = codes "name"
reason_text reason.Party = codes "party"
reason_text reason.Id = codes "id"
reason_text reason.Node = codes "node"
reason_text reason.End = codes "end"

-- `refused line LINE REASON`
unfoldable pub refusal_line : ℕ → Reason → List ℕ
refusal_line line r = codes "refused line " ++ decimal line ++ codes " " ++ reason_text r ++ codes "\n"
