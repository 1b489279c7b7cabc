use Rattle.std.proofs.Common.{◌≡◌, ◌+◌, ◌-◌, ◌*◌, ◌≤◌, All}
use Rattle.ring_spec.specs.Ring.{IsPoly}
use Rattle.share_spec.specs.Dealing.{dealing}
use Rattle.shamir_ring.proofs.dealing.Dealing.new.Given as goal

abbrev pub invariant-loop : goal.invariant-loop
invariant-loop l = record {
  some : 1 ≤ l.counter;
  few : l.counter ≤ l.ring.params.threshold;
  drawn : l.coefficients.items ≡ dealing l.ring.params.q l.ring.params.n l.counter l.fn.seed;
  fit : All (IsPoly l.ring.params.q l.ring.params.n) l.coefficients.items;
  seed : l.tape.seed ≡ l.fn.seed;
  stream : l.tape.stream ≡ 0;
  place : l.tape.next ≡ l.ring.params.n + 4 * l.ring.params.n * (l.counter - 1);
}
