use Rattle.std.proofs.Common.{◌≡◌}
use Rattle.mod_ring.specs.Evaluated.{EvaluatedFits}
use Rattle.number_tests.proofs.transformed.repeated.Given as goal

abbrev pub invariant-terms : goal.invariant-terms
invariant-terms l = record { fits : EvaluatedFits l.ring.params l.sum.value; terms : l.sum.terms ≡ l.i }
