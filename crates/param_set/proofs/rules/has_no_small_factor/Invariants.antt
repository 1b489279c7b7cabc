use Rattle.std.proofs.Common.{IsTrue}
use Rattle.param_set.specs.Moduli.{indivisible}
use Rattle.param_set.proofs.rules.has_no_small_factor.Given as goal

abbrev pub invariant-divisors : goal.invariant-divisors
invariant-divisors l = IsTrue (indivisible l.q l.k)
