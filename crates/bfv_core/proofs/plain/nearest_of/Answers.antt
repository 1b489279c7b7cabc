-- The quotient of t * x by q, or one more.
use Rattle.std.proofs.Common.{arith}
use Rattle.bfv_core.proofs.Nearest.{raised, raised_within}
use Rattle.bfv_core.proofs.plain.nearest_of.Goals as goal

pub returns-else-rest-q-clause-nearest : goal.returns-else-rest-q-clause-nearest
returns-else-rest-q-clause-nearest c =
    let a = c.args in
    let d = c.divided-quotient in
    raised a.q a.t a.x d.result.0 d.result.1 (omega (arith, c.requires.residue)) (cc d.ensures.quotient) (cc d.ensures.rest)
    (omega (arith, c.if-rest-q.false))

pub returns-else-rest-q-clause-at_most_t : goal.returns-else-rest-q-clause-at_most_t
returns-else-rest-q-clause-at_most_t c =
    let a = c.args in
    raised_within a.q a.t a.x c.divided-quotient.result.0 c.requires.plain_modulus c.requires.residue (cc c.divided-quotient.ensures.quotient)
