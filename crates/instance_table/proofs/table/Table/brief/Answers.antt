-- The brief is the entry of that instance, and briefs agree with instances.
use Rattle.std.proofs.Common.{◌≡◌, rules}
use Rattle.std.specs.Prelude.{option_copied}
use Rattle.proto_names.specs.Roles.{role_of}
use Rattle.instance_table.specs.Tables.{role_told, told}
use Rattle.instance_table.proofs.Places.{told_agrees}
use Rattle.instance_table.proofs.table.Table.brief.Goals as goal

pub returns-clause-role : goal.returns-clause-role
returns-clause-role c =
    let t = c.args.self.now in
    let value : option_copied c.entry_of.result ≡ told t.instances.items t.briefs.items c.args.id = search rules in
    told_agrees role_told role_of t.instances.items t.briefs.items c.args.id c.entry_of.result t.briefed value
