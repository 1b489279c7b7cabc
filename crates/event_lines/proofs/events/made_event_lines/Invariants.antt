use Rattle.std.proofs.Common.{◌≡◌, take}
use Rattle.std.specs.List.{flat_map}
use Rattle.event_lines.specs.Events.{event_line}
use Rattle.event_lines.proofs.events.made_event_lines.Given as goal

abbrev pub invariant-entries : goal.invariant-entries
invariant-entries l = l.lines.items ≡ flat_map event_line (take l.entry-index l.entries)
