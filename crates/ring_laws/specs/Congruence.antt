-- Numbers and polynomials that agree modulo q.
use Rattle.std.specs.Prelude.{◌≡◌, ℕ, ◌<◌, ℤ, pos, ◌+ℤ◌, ◌*ℤ◌}

-- z and w differ by a multiple of q, here by q * k
pub record IsCongruent (q : ℕ) (z w : ℤ) : Type 0 where
  pub k : ℤ
  pub is : z ≡ w +ℤ pos q *ℤ k

-- each of the n coefficients of a and b agree modulo q
pub record Agree (q n : ℕ) (a b : ℕ → ℤ) : Type 0 where
  pub each : (i : ℕ) → i < n → IsCongruent q (a i) (b i)
