use Rattle.std.proofs.Common.{◌≡◌, ◌++◌, map, take}
use Rattle.std.specs.Prelude.{decimal}
use Rattle.event_lines.specs.Lists.{by_commas}
use Rattle.event_lines.proofs.Rows.{separator_after}
use Rattle.event_lines.proofs.lists.push_by_commas.Given as goal

abbrev pub invariant-numbers : goal.invariant-numbers
invariant-numbers l =
    record {
      so_far : l.text.items ≡ l.fn.text.items ++ by_commas (map decimal (take l.number-index l.numbers));
      next : l.separator ≡ separator_after (take l.number-index l.numbers);
    }
