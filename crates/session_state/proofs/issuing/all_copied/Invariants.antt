use Rattle.std.proofs.Common.{◌≡◌, take}
use Rattle.session_state.proofs.issuing.all_copied.Given as goal

abbrev pub invariant-list : goal.invariant-list
invariant-list l = l.copies ≡ take l.place l.list
