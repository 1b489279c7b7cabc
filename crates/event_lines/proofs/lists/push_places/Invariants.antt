use Rattle.std.proofs.Common.{◌≡◌, ◌++◌, map, take}
use Rattle.event_lines.specs.Lists.{by_commas}
use Rattle.event_lines.specs.Events.{place_text}
use Rattle.event_lines.proofs.Rows.{separator_after}
use Rattle.event_lines.proofs.lists.push_places.Given as goal

abbrev pub invariant-places : goal.invariant-places
invariant-places l =
    record {
      so_far : l.text.items ≡ l.fn.text.items ++ by_commas (map place_text (take l.place-index l.places));
      next : l.separator ≡ separator_after (take l.place-index l.places);
    }
