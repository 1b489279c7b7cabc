-- The sums of a key switch before they are reduced.
use Rattle.std.specs.Prelude.{◌≡◌, ℕ}
use Rattle.param_set.specs.declared.params.Params.{Params}
use Rattle.mod_ring.specs.Evaluated.{EvaluatedFits}
use Rattle.gadget_keys.specs.declared.row_sums.RowSums.{RowSums}

-- both have so many products, and fit the ring
pub record SumsFit (p : Params) (terms : ℕ) (s : RowSums) : Type 0 where
  pub b_terms : s.b.terms ≡ terms
  pub a_terms : s.a.terms ≡ terms
  pub b : EvaluatedFits p s.b.value
  pub a : EvaluatedFits p s.a.value
