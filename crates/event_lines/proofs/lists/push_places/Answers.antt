-- One place more.
use Rattle.std.proofs.Common.{◌≡◌, ◌++◌, ◌<◌, length, get_or, rules, arith}
use Rattle.event_lines.specs.Events.{place_text}
use Rattle.event_lines.proofs.Rows.{places_more, separator_more}
use Rattle.event_lines.proofs.lists.push_places.Goals as goal

pub places-preserved : goal.places-preserved
places-preserved c =
    let i = c.places.place-index in
    let xs = c.args.places.now in
    let here : i < length xs = omega arith in
    let put : c.push_place.new.text.items ≡ c.places.text.items ++ c.places.separator.now ++ place_text (get_or xs i (0, 0)) = search rules in
    record {
      so_far = rw (put, c.places.invariant.so_far, c.places.invariant.next) (places_more c.args.text.now.items xs i here);
      next = separator_more xs i (0, 0) here;
    }
