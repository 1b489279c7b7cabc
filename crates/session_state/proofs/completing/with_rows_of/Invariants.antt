use Rattle.std.proofs.Common.{◌≡◌, map, All}
use Rattle.std.specs.List.{range_with_len}
use Rattle.ring_spec.specs.Ring.{IsPoly}
use Rattle.instance_table.specs.Tables.{row_sum}
use Rattle.session_state.proofs.completing.with_rows_of.Given as goal

abbrev pub invariant-rows : goal.invariant-rows
invariant-rows l = record {
  sums_are : l.sums ≡ map (row_sum l.ring.params.q l.ring.params.n l.held l.fn.rows) (range_with_len 0 l.place);
  fit : All (IsPoly l.ring.params.q l.ring.params.n) l.sums;
}
