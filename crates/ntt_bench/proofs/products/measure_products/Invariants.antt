use Rattle.ring_spec.specs.Ring.{IsPoly}
use Rattle.ntt_bench.proofs.products.measure_products.Given as goal

abbrev pub invariant-rounds : goal.invariant-rounds
invariant-rounds g l = IsPoly l.ring.params.q l.ring.params.n l.f
