-- The order in which shares are counted.
use Rattle.std.specs.Prelude.{◌≡◌, ℕ, ◌<◌, List, [], slice_index_or, All, IsPermutation}
use Rattle.ring_spec.specs.Ring.{IsPoly}
use Rattle.ring_spec.specs.Aggregate.{ring_total}
use Rattle.param_set.specs.Moduli.{digit_rows}
use Rattle.param_set.specs.declared.params.Params.{Params}
use Rattle.proto_names.specs.Names.{rows_of}
use Rattle.proto_names.specs.declared.signature.Signature.{Signature}
use Rattle.instance_table.specs.Tables.{no_sums}
use Rattle.instance_table.specs.Totals.{added, rows_of_all}

-- sums to which the same shares are added in another order are the same
abbrev pub OrdersAreOne : Type 0
OrdersAreOne =
    (q n : ℕ) (shares others : List (List (List ℕ))) (sums : List (List ℕ)) → 0 < q → All (IsPoly q n) sums → IsPermutation shares others
    → added q n others sums ≡ added q n shares sums

-- from the beginning each row of them is the total of that row of all shares
abbrev pub RowsAreTotals : Type 0
RowsAreTotals =
    (p : Params) (σ : Signature) (shares : List (List (List ℕ))) (row : ℕ) → row < rows_of σ (digit_rows p.q p.digit_bits)
    → slice_index_or (added p.q p.n shares (no_sums p σ)) row [] ≡ ring_total p.q p.n (rows_of_all row shares)
