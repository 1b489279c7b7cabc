-- Void instances wait for nobody.
use Rattle.std.proofs.Common.{◌∙◌, ap, sym}
use Rattle.std.specs.List.{count_by}
use Rattle.proto_names.specs.Instances.{lacks}
use Rattle.participants.specs.Loads.{load}
use Rattle.participants.proofs.Live.{load_live}
use Rattle.instance_table.proofs.Lives.{load_in_is}
use Rattle.instance_table.proofs.table.Table.load.Goals as goal

pub returns : goal.returns
unfolding load
returns c =
    let t = c.args.self.now in let is = t.instances.items in let p = c.args.p in
    c.load.ensures ∙ ap (count_by (lacks p)) (c.as_slice.ensures.value ∙ t.alive)
    ∙ load_live is p ∙ sym (load_in_is is p c.requires.first c.requires.last)
