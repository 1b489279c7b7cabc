use Rattle.std.proofs.Common.{◌≡◌, take}
use Rattle.ring_spec.specs.Ring.{IsPoly}
use Rattle.ring_spec.specs.Aggregate.{ring_total}
use Rattle.shamir_ring.proofs.parts.combine.Given as goal

abbrev pub invariant-loop-f : goal.invariant-loop-f
invariant-loop-f l = record {
  fits : IsPoly l.ring.params.q l.ring.params.n l.sum;
  sum : l.sum ≡ ring_total l.ring.params.q l.ring.params.n (take l.f-index l.dealt);
}
