-- Rows as they are kept, one after the other.
use Rattle.std.proofs.Common.{◌≡◌, ℕ, zero, suc, ◌+◌, ◌<◌, List, [], ◌∷◌, ◌++◌, All, map, length, get_or, length-append, refl, sym, ap, ◌∙◌, subst, arith}
use Rattle.std.specs.List.{range_with_len}
use Rattle.std.proofs.lemmas.List.{get_or-map, length-map, map-append}
use Rattle.std.proofs.lemmas.List.Elements.{All-append}
use Rattle.std.proofs.lemmas.List.FromFn.{map-range_with_len_more, fill_by_all, get_or-map-range_with_len, length-map-range_with_len}
use Rattle.gadget_spec.specs.Switching.{KeyRow, row_at}
use Rattle.param_set.specs.declared.params.Params.{Params}
use Rattle.gadget_keys.specs.declared.key_row.Row.{Row}
use Rattle.gadget_keys.specs.Keys.{RowFits, stands_for, kept_rows, beside, key_rows}

-- the first i rows of two lists of polynomials, as they are kept
pub record Begun (p : Params) (b a : List (List ℕ)) (kept : List Row) (i : ℕ) : Type 0 where
  pub count : length kept ≡ i
  pub rows : kept_rows kept ≡ map (beside b a) (range_with_len 0 i)
  pub each : All (RowFits p) kept

pub Begun-start : (p : Params) (b a : List (List ℕ)) → Begun p b a [] 0
unfolding kept_rows
Begun-start p b a = record { count = refl; rows = refl; each = λ i d h. absurd (omega arith) }

all_one : (p : Params) (row : Row) → RowFits p row → All (RowFits p) (row ∷ [])
all_one p row h zero d l = h
all_one p row h (suc i) d l = absurd (omega arith)

pub Begun-next : (p : Params) (b a : List (List ℕ)) (rows now : List Row) (row : Row) (i : ℕ) → now ≡ rows ++ row ∷ [] →
    stands_for row ≡ beside b a i → RowFits p row → Begun p b a rows i → Begun p b a now (i + 1)
unfolding kept_rows
Begun-next p b a rows now row i e is fits begun = record {
  count = ap length e ∙ length-append rows (row ∷ []) ∙ ap (λ (x : ℕ). x + 1) begun.count;
  rows =
      ap (map stands_for) e ∙ map-append stands_for rows (row ∷ [])
      ∙ ap (λ (x : List KeyRow). x ++ stands_for row ∷ []) begun.rows
      ∙ ap (λ (x : KeyRow). map (beside b a) (range_with_len 0 i) ++ x ∷ []) is
      ∙ sym (map-range_with_len_more (beside b a) 0 i i (omega arith));
  each = subst (All (RowFits p)) (sym e) (All-append (RowFits p) rows (row ∷ []) begun.each (all_one p row fits));
}

-- row i of what is kept
pub kept_at : (rows : List Row) (i : ℕ) (row : Row) → i < length rows → row ≡ get_or rows i row → row_at (kept_rows rows) i ≡ stands_for row
unfolding kept_rows
kept_at rows i row h e = get_or-map stands_for rows i row (record { b = []; a = [] }) h ∙ ap stands_for (sym e)

pub kept_length : (rows : List Row) → length (kept_rows rows) ≡ length rows
unfolding kept_rows
kept_length rows = length-map rows stands_for

-- ---- for callers

-- the rows of two lists are those that are equal to them one by one
pub key_rows_are : (b a : List (List ℕ)) (row : ℕ → KeyRow) (l : ℕ) → length b ≡ l → ((i : ℕ) → i < l → beside b a i ≡ row i) →
    key_rows b a ≡ map row (range_with_len 0 l)
unfolding key_rows
key_rows_are b a row l e same =
    ap (λ (n : ℕ). map (beside b a) (range_with_len 0 n)) e
    ∙ fill_by_all row (map (beside b a) (range_with_len 0 l)) l (record { b = []; a = [] }) (length-map-range_with_len (beside b a) 0 l)
    (λ k h. get_or-map-range_with_len (beside b a) 0 l k k (record { b = []; a = [] }) h (omega arith) ∙ same k h)
