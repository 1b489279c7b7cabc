use Rattle.std.proofs.Common.{◌≡◌, replicate, None}
use Rattle.session_state.proofs.places.Places.empty.Given as goal

abbrev pub invariant-places : goal.invariant-places
invariant-places g l = l.items.items ≡ replicate l.counter None
