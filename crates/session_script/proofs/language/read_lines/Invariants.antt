-- What follows from this place on is the whole; lines are counted from 1.
use Rattle.std.proofs.Common.{◌≡◌, ◌+◌, drop}
use Rattle.session_script.specs.Words.{texts}
use Rattle.session_script.specs.declared.place.Place.TheVariants.{Start}
use Rattle.session_script.specs.Scripts.{read_from}
use Rattle.session_script.proofs.language.read_lines.Given as goal

abbrev pub invariant-lines : goal.invariant-lines
invariant-lines l = record {
  count : l.number ≡ l.line-index + 1;
  whole : read_from l.place l.number (texts (drop l.line-index l.lines)) ≡ read_from Start 1 (texts l.lines);
}
