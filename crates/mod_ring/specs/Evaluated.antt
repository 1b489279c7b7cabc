-- Polynomials that are kept transformed, as contracts see them: by the polynomial that the values stand for,
-- and by what it was transformed with.
use Rattle.std.specs.Prelude.{◌≡◌, ℕ, ◌^◌, List}
use Rattle.ring_spec.specs.Ring.{IsPoly}
use Rattle.ring_ntt.specs.Transform.{inverse_transform}
use Rattle.param_set.specs.declared.params.Params.{Params}

-- a polynomial, and the modulus, the degree and the root of its transform
pub record Evaluated : Type 0 where
  pub modulus : ℕ
  pub degree : ℕ
  pub root : ℕ
  pub poly : List ℕ

-- what 2^d values stand for
abbrev pub evaluated : ℕ → ℕ → ℕ → List ℕ → Evaluated
evaluated q psi d values =
    record { modulus = q; degree = 2 ^ d; root = psi; poly = inverse_transform q psi d values }

-- a sum of products of such polynomials, and how many products it has
pub record Gathered : Type 0 where
  pub terms : ℕ
  pub value : Evaluated

-- it fits a ring that has this modulus, this degree and this root, and of which the polynomial is one
pub record EvaluatedFits (p : Params) (f : Evaluated) : Type 0 where
  pub modulus : f.modulus ≡ p.q
  pub degree : f.degree ≡ p.n
  pub root : f.root ≡ p.psi
  pub poly : IsPoly p.q p.n f.poly
