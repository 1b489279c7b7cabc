-- The lines of a report on a circuit that has an answer. A name is a list of bytes.
use Rattle.std.specs.Prelude.{ℕ, List, ◌++◌, codes}
use Rattle.ring_spec.specs.Pairs.{Cipher}
use Rattle.run_report.specs.Values.{value_text}
use Rattle.run_report.specs.Digests.{cipher_digest}

-- `circuit NAME = VALUE`
unfoldable pub circuit_line : List ℕ → List ℕ → List ℕ
circuit_line name value = codes "circuit " ++ name ++ codes " = " ++ value_text value ++ codes "\n"

-- `output NAME DIGEST`
unfoldable pub output_line : List ℕ → Cipher → List ℕ
output_line name output = codes "output " ++ name ++ codes " " ++ cipher_digest output ++ codes "\n"
