use Rattle.std.proofs.Common.{◌≡◌, ◌++◌, take}
use Rattle.event_lines.specs.Lists.{following}
use Rattle.event_lines.proofs.lists.push_words.Given as goal

abbrev pub invariant-numbers : goal.invariant-numbers
invariant-numbers l = l.text.items ≡ (l.fn.text.items ++ l.word) ++ following (take l.number-index l.numbers)
