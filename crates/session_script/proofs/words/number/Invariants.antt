-- What the digits behind the place spell behind the value so far is what all of them spell.
use Rattle.std.proofs.Common.{◌≡◌, drop}
use Rattle.session_script.specs.Words.{digits_behind}
use Rattle.session_script.proofs.words.number.Given as goal

abbrev pub invariant-digits : goal.invariant-digits
invariant-digits l = digits_behind l.value (drop l.b-index l.word) ≡ digits_behind 0 l.word
