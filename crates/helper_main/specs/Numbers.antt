-- The number of each status.
use Rattle.std.specs.Prelude.{ℕ}
use Rattle.helper_main.specs.declared.status.Status.{Status}
use Rattle.helper_main.specs.declared.status.Status.TheVariants.{Done, Usage, Script, Read, Write, Memory}

abbrev pub number_of : Status → ℕ
number_of Done = 0
number_of Usage = 2
number_of Script = 3
number_of Read = 4
number_of Write = 5
number_of Memory = 6
