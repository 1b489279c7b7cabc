use Rattle.std.proofs.Common.{◌*◌, ◌/◌, refl, arith}
use Rattle.ring_ntt.proofs.Shoup.{shoup, shoup_same}
use Rattle.ring_ntt.proofs.words.scaled.Goals as goal

pub overflow_sub-result : goal.overflow_sub-result
overflow_sub-result c = (shoup c.args.q c.args.w c.args.quotient c.args.x _ c.requires.positive c.requires.precomputed (omega arith) refl).0

pub overflow_cast-result-4 : goal.overflow_cast-result-4
overflow_cast-result-4 c =
    let h = c.args.quotient * c.args.x / 18446744073709551616 in
    let bounds = shoup c.args.q c.args.w c.args.quotient c.args.x h c.requires.positive c.requires.precomputed (omega arith) refl in
    omega (arith, bounds)

pub returns-clause-below : goal.returns-clause-below
returns-clause-below c =
    let h = c.args.quotient * c.args.x / 18446744073709551616 in
    let bounds = shoup c.args.q c.args.w c.args.quotient c.args.x h c.requires.positive c.requires.precomputed (omega arith) refl in
    omega (arith, bounds)

pub returns-clause-same : goal.returns-clause-same
returns-clause-same c =
    let h = c.args.quotient * c.args.x / 18446744073709551616 in
    let bounds = shoup c.args.q c.args.w c.args.quotient c.args.x h c.requires.positive c.requires.precomputed (omega arith) refl in
    shoup_same c.args.q c.args.w c.args.x h bounds.0
