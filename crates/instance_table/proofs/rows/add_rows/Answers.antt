-- The loop has added each row.
use Rattle.std.proofs.Common.{arith}
use Rattle.instance_table.proofs.Added.{Added-end, rows_sum-fits}
use Rattle.instance_table.proofs.rows.add_rows.Goals as goal

pub returns-clause-value : goal.returns-clause-value
returns-clause-value c = Added-end _ _ _ _ _ _ c.loop-row.invariant (omega arith)

pub returns-clause-fits : goal.returns-clause-fits
returns-clause-fits c =
    rw (Added-end _ _ _ _ _ _ c.loop-row.invariant (omega arith))
    (rows_sum-fits _ _ c.args.sums.now c.args.rows.now (omega arith))
