-- Switch keys, as contracts see them.
use Rattle.std.specs.Prelude.{◌≡◌, ℕ, List, [], All, map, length, get_or}
use Rattle.std.specs.List.{range_with_len}
use Rattle.ring_spec.specs.Ring.{Coefficients}
use Rattle.gadget_spec.specs.Switching.{KeyRow}
use Rattle.param_set.specs.Moduli.{digit_rows}
use Rattle.param_set.specs.declared.params.Params.{Params}
use Rattle.mod_ring.specs.Evaluated.{EvaluatedFits}
use Rattle.gadget_keys.specs.declared.key_row.Row.{Row}

-- the rows of a switch key, and the parameters of the ring for which it was made
pub record RingKey : Type 0 where
  pub params : Params
  pub rows : List KeyRow

-- ---- what is kept

-- the row that two transformed polynomials stand for, and all rows
abbrev pub stands_for : Row → KeyRow
stands_for row = record { b = row.b.poly; a = row.a.poly }

unfoldable pub kept_rows : List Row → List KeyRow
kept_rows rows = map stands_for rows

-- both fit the ring
pub record RowFits (p : Params) (row : Row) : Type 0 where
  pub b : EvaluatedFits p row.b
  pub a : EvaluatedFits p row.a

-- there is a row for each digit of a residue, and each fits the ring
pub record RowsFit (p : Params) (rows : List Row) : Type 0 where
  pub count : length rows ≡ digit_rows p.q p.digit_bits
  pub each : All (RowFits p) rows

-- ---- what is handed in

-- row i of two lists of polynomials, and all rows
abbrev pub beside : List Coefficients → List Coefficients → ℕ → KeyRow
beside b a i = record { b = get_or b i []; a = get_or a i [] }

unfoldable pub key_rows : List Coefficients → List Coefficients → List KeyRow
key_rows b a = map (beside b a) (range_with_len 0 (length b))
