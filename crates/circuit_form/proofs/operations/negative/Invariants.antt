-- The coefficients so far.
use Rattle.std.proofs.Common.{◌≡◌}
use Rattle.ring_spec.specs.Ring.{residues, coefficient, negated}
use Rattle.circuit_form.proofs.operations.negative.Given as goal

abbrev pub invariant-places : goal.invariant-places
invariant-places l = l.coeffs.items ≡ residues l.t l.k (negated (coefficient l.f))
