use Rattle.ring_spec.specs.Ring.{IsPoly}
use Rattle.ntt_bench.proofs.timing.measure.Given as goal

abbrev pub invariant-rounds : goal.invariant-rounds
invariant-rounds g l = IsPoly l.tables.modulus l.tables.length l.a.items
