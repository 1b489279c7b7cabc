-- The coefficients so far.
use Rattle.std.proofs.Common.{◌≡◌}
use Rattle.ring_spec.specs.Ring.{residues, coefficient, plus}
use Rattle.circuit_form.proofs.operations.sum.Given as goal

abbrev pub invariant-places : goal.invariant-places
invariant-places l = l.coeffs.items ≡ residues l.t l.k (plus (coefficient l.f) (coefficient l.g))
