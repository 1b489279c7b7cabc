-- The sums are the entry of that instance: they have the rows of its signature, and fit.
use Rattle.std.proofs.Common.{◌≡◌, rules}
use Rattle.std.specs.Prelude.{All, option_copied}
use Rattle.ring_spec.specs.Ring.{IsPoly}
use Rattle.instance_table.specs.Tables.{row_count, row_counts, told}
use Rattle.instance_table.proofs.Places.{told_agrees, told_each}
use Rattle.instance_table.proofs.table.Table.sums.Goals as goal

pub returns-clause-rows : goal.returns-clause-rows
returns-clause-rows c =
    let t = c.args.self.now in
    let value : option_copied c.entry_of.result ≡ told t.instances.items t.sums.items c.args.id = search rules in
    told_agrees row_count (row_counts t.params) t.instances.items t.sums.items c.args.id c.entry_of.result t.rows value

pub returns-clause-fits : goal.returns-clause-fits
returns-clause-fits c =
    let t = c.args.self.now in
    let value : option_copied c.entry_of.result ≡ told t.instances.items t.sums.items c.args.id = search rules in
    told_each (All (IsPoly t.params.q t.params.n)) t.instances.items t.sums.items c.args.id c.entry_of.result t.fits value
