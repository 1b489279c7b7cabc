-- The centre of a number that has both residues.
use Rattle.std.proofs.Common.{◌∙◌, rules}
use Rattle.std.specs.Int.{w128}
use mir.Val.{SFits}
use Rattle.std.proofs.lemmas.Int.{to_z-of_z}
use Rattle.int_tensor.proofs.Garner.{is_joined}
use Rattle.int_tensor.proofs.joins.join.Goals as goal

pub returns : goal.returns
returns c =
    let fits : SFits w128 c.around_zero.result = search rules in
    is_joined c.args.a c.args.b c.least.result _ c.least.ensures.below c.least.ensures.first c.least.ensures.second
    (to_z-of_z w128 c.around_zero.result fits ∙ c.around_zero.ensures)
