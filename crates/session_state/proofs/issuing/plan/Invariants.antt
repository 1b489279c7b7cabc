use Rattle.std.proofs.Common.{◌≡◌, ◌+◌, length}
use Rattle.session_state.specs.Issuings.{store_of, issued}
use Rattle.session_state.proofs.Steps.{Made}
use Rattle.session_state.proofs.issuing.plan.Given as goal

abbrev pub invariant-moves : goal.invariant-moves
invariant-moves l = record {
  made : Made l.ring.params (store_of l.source) l.fn.count l.place l.moves.items l.steps.items;
  next : l.id ≡ l.fn.count + 1 + length (issued l.steps.items);
}
