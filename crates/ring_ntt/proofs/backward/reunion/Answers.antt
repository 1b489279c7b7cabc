use Rattle.std.proofs.Common.{◌+◌, ◌-◌, ◌*◌, refl, ◌∙◌, arith}
use Rattle.ring_ntt.proofs.Congruence.{mul_same}
use Rattle.ring_ntt.proofs.WordLaws.{lifted_difference}
use Rattle.ring_ntt.proofs.backward.reunion.Goals as goal

pub returns-clause-difference : goal.returns-clause-difference
returns-clause-difference c =
    let q = c.args.q in
    let x = c.args.x in
    let y = c.args.y in
    let w = c.args.w.root in
    c.scaled-difference.ensures.same ∙ mul_same q w w (x + 2 * q - y) (x + (q - 1) * y) refl (lifted_difference q x y c.requires.positive (omega arith))
