-- The instance stands at the place before its number.
use Rattle.std.proofs.Common.{◌≡◌, ◌+◌, ◌∙◌, ap, set, arith}
use Rattle.std.specs.Prelude.{Some}
use Rattle.instance_table.specs.Tables.{outcome}
use Rattle.instance_table.proofs.Places.{share_at, count_at, awaits_issued}
use Rattle.instance_table.proofs.numbered.mark.Goals as goal

pub returns-clause-items : goal.returns-clause-items
returns-clause-items c =
    let is = c.args.instances.now.items in let k = c.place_of-place.result in
    let issued = awaits_issued is c.args.id c.args.p c.requires.awaited in
    let at : k + 1 ≡ c.args.id = omega arith in
    ap (set is k) c.with_share-instance.ensures
    ∙ share_at is c.args.id c.args.p k c.index-2.result.now c.requires.numbered (omega arith) at c.index-2.ensures

pub returns-clause-count : goal.returns-clause-count
returns-clause-count c =
    let is = c.args.instances.now.items in let k = c.place_of-place.result in
    let issued = awaits_issued is c.args.id c.args.p c.requires.awaited in
    let at : k + 1 ≡ c.args.id = omega arith in
    ap Some (c.outcome.ensures ∙ ap outcome c.missing-missing.ensures)
    ∙ count_at is c.args.id c.args.p k c.index.result.now (omega arith) at c.index.ensures
