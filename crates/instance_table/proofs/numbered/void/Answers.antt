-- The instance stands at the place before its number.
use Rattle.std.proofs.Common.{◌≡◌, ◌+◌, ◌∙◌, ap, set, arith}
use Rattle.instance_table.proofs.Places.{void_at, stands_issued}
use Rattle.instance_table.proofs.numbered.void.Goals as goal

pub returns-clause-items : goal.returns-clause-items
returns-clause-items c =
    let is = c.args.instances.now.items in let k = c.place_of-place.result in
    let issued = stands_issued is c.args.id c.requires.stands in
    let at : k + 1 ≡ c.args.id = omega arith in
    ap (set is k) c.given_up-instance.ensures
    ∙ void_at is c.args.id c.args.by k c.index.result.now c.requires.numbered (omega arith) at c.index.ensures
