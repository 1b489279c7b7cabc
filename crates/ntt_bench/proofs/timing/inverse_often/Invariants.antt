use Rattle.ring_spec.specs.Ring.{IsPoly}
use Rattle.ntt_bench.proofs.timing.inverse_often.Given as goal

abbrev pub invariant-repeats : goal.invariant-repeats
invariant-repeats l = IsPoly l.tables.modulus l.tables.length l.a
