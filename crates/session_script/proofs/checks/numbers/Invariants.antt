-- The numbers so far, with those of the words that are left, are those of all words.
use Rattle.std.proofs.Common.{◌≡◌, [], drop}
use Rattle.session_script.specs.Words.{texts}
use Rattle.session_script.specs.Checks.{numbers_behind}
use Rattle.session_script.proofs.checks.numbers.Given as goal

abbrev pub invariant-words : goal.invariant-words
invariant-words l = numbers_behind l.numbers.items (texts (drop l.word-index l.words)) ≡ numbers_behind [] (texts l.words)
