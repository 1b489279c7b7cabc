-- There are as many sums as instances.
use Rattle.std.proofs.Common.{arith}
use Rattle.instance_table.specs.Tables.{row_count, row_counts}
use Rattle.instance_table.proofs.Places.{awaits_issued, lengths_from_maps}
use Rattle.instance_table.proofs.table.Table.count.Goals as goal

pub add_rows_of-requires-clause-last : goal.add_rows_of-requires-clause-last
add_rows_of-requires-clause-last c =
    let t = c.args.self.now in
    let issued = awaits_issued t.instances.items c.args.share.now.id c.args.share.now.party c.requires.awaited in
    let many = lengths_from_maps row_count (row_counts t.params) t.sums.items t.instances.items t.rows in
    omega arith
