use Rattle.instance_table.proofs.Added.{Added}
use Rattle.instance_table.proofs.rows.add_rows.Given as goal

abbrev pub invariant-loop-row : goal.invariant-loop-row
invariant-loop-row l = Added l.ring.params.q l.ring.params.n l.initial.sums l.rows l.sums l.row
