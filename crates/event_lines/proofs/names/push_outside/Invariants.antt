use Rattle.std.proofs.Common.{◌≡◌, ◌++◌}
use Rattle.event_lines.specs.Names.{parties_text, outside_to}
use Rattle.event_lines.proofs.Rows.{separator_after}
use Rattle.event_lines.proofs.names.push_outside.Given as goal

abbrev pub invariant-parties : goal.invariant-parties
invariant-parties l =
    record {
      so_far : l.text.items ≡ l.fn.text.items ++ parties_text (outside_to l.place l.set.bits l.other.bits);
      next : l.separator ≡ separator_after (outside_to l.place l.set.bits l.other.bits);
    }
