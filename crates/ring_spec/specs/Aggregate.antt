-- The sum of a list of polynomials of the ring.
use Rattle.std.specs.Prelude.{ℕ, pos, List, [], ◌∷◌}
use Rattle.ring_spec.specs.Ring.{Coefficients, residues, ring_sum}

-- f_1 + f_2 + .. modulo q, and the zero polynomial where there is none
unfoldable pub ring_total : ℕ → ℕ → List Coefficients → Coefficients
ring_total q n [] = residues q n (λ i. pos 0)
ring_total q n (f ∷ fs) = ring_sum q n f (ring_total q n fs)
