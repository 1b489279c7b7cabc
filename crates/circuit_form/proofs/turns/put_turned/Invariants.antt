-- Each place has the residue of what the coefficients so far give to it.
use Rattle.std.proofs.Common.{◌≡◌, ℕ, ◌<◌, length, get_or}
use Rattle.ring_spec.specs.Ring.{residue, total, moved, coefficient}
use Rattle.circuit_form.proofs.turns.put_turned.Given as goal

abbrev pub invariant-terms : goal.invariant-terms
invariant-terms l = record {
  count : length l.coeffs ≡ l.n;
  each : (k : ℕ) → k < l.n → get_or l.coeffs k 0 ≡ residue l.t (total l.i (moved l.n l.g (coefficient l.f) k));
}
