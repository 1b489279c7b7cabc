-- What polynomials a ring takes.
use Rattle.ring_spec.specs.Ring.{Coefficients, IsPoly}
use Rattle.mod_ring.specs.declared.ring.Ring.{Ring}

-- a polynomial fits a ring where it has n coefficients below q
abbrev pub Fits : Ring → Coefficients → Type 0
Fits ring f = IsPoly ring.params.q ring.params.n f
