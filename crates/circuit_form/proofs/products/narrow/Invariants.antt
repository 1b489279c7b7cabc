-- The coefficients below the place are narrowed, and the others are as they were.
use Rattle.std.proofs.Common.{◌≡◌, ℕ, ◌<◌, ◌≤◌, length, get_or}
use Rattle.ring_spec.specs.Ring.{residue, centre}
use Rattle.circuit_form.specs.Products.{wide_modulus}
use Rattle.circuit_form.proofs.products.narrow.Given as goal

abbrev pub invariant-places : goal.invariant-places
invariant-places l = record {
  count : length l.coeffs ≡ length l.initial.coeffs;
  done : (k : ℕ) → k < l.k → get_or l.coeffs k 0 ≡ residue l.t (centre wide_modulus (get_or l.initial.coeffs k 0));
  rest : (k : ℕ) → l.k ≤ k → get_or l.coeffs k 0 ≡ get_or l.initial.coeffs k 0;
}
