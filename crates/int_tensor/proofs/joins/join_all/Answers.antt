-- Each turn joins one more entry.
use Rattle.std.proofs.Common.{rules, sym, subst, get_or}
use Rattle.std.specs.Int.{w128}
use mir.Val.{SFits}
use Rattle.std.proofs.lemmas.Int.{to_z-of_z}
use Rattle.int_tensor.specs.Joined.{IsJoined}
use Rattle.int_tensor.proofs.Garner.{joined_next}
use Rattle.int_tensor.proofs.joins.join_all.Goals as goal

pub loop-k-preserved : goal.loop-k-preserved
loop-k-preserved c =
    let k = c.loop-k.k in let f = c.args.f.now in let g = c.args.g.now in
    let fits : SFits w128 c.join.result = search rules in
    let here = subst (IsJoined (get_or f k 0) (get_or g k 0)) (sym (to_z-of_z w128 c.join.result fits)) c.join.ensures in
    rw c.in_ok-push.ensures.items (joined_next k f g c.loop-k.joined.items _ here c.loop-k.invariant)
