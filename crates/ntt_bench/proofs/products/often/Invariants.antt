use Rattle.ring_spec.specs.Ring.{IsPoly}
use Rattle.ntt_bench.proofs.products.often.Given as goal

abbrev pub invariant-repeats : goal.invariant-repeats
invariant-repeats l = IsPoly l.ring.params.q l.ring.params.n l.product
