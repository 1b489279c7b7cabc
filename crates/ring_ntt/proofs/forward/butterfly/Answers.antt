use Rattle.std.proofs.Common.{◌*◌, arith}
use Rattle.ring_ntt.proofs.Congruence.{add_same}
use Rattle.ring_ntt.proofs.WordLaws.{butterfly_difference}
use Rattle.ring_ntt.proofs.forward.butterfly.Goals as goal

pub returns-clause-sum : goal.returns-clause-sum
returns-clause-sum c =
    add_same c.args.q c.halved-even.result c.args.x c.scaled-odd.result (c.args.w.root * c.args.y) c.halved-even.ensures.same c.scaled-odd.ensures.same

pub returns-clause-difference : goal.returns-clause-difference
returns-clause-difference c =
    butterfly_difference c.args.q c.args.x c.args.y c.args.w.root c.halved-even.result c.scaled-odd.result c.requires.residue (omega arith) c.halved-even.ensures.same c.scaled-odd.ensures.same
