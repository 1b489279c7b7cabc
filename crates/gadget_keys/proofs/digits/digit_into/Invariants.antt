use Rattle.std.proofs.Common.{◌≡◌, length}
use Rattle.mod_ring.proofs.Filled.{Filled}
use Rattle.gadget_keys.proofs.Written.{entry}
use Rattle.gadget_keys.proofs.digits.digit_into.Given as goal

abbrev pub invariant-loop-k : goal.invariant-loop-k
invariant-loop-k l = record {
  places : length l.out ≡ l.ring.params.n;
  written : Filled (entry l.ring.params l.f l.row) l.initial.out l.out l.k;
}
