-- The rest is below 2q, and is brought below q.
use Rattle.std.proofs.Common.{◌+◌, ◌-◌, ◌*◌, arith}
use Rattle.mod_word.proofs.Shoup.{quotient_is, rest_is}
use Rattle.mod_word.proofs.multiples.Factor.divided.Goals as goal

pub returns-then-rest-self-clause-rest : goal.returns-then-rest-self-clause-rest
returns-then-rest-self-clause-rest c =
    let f = c.args.self.now in
    let p = c.parted-times in
    rest_is f.modulus (f.residue * c.args.x) p.result.0 p.result.1 c.if-rest-self.true p.ensures.whole

pub returns-else-rest-self-clause-quotient : goal.returns-else-rest-self-clause-quotient
returns-else-rest-self-clause-quotient c =
    let f = c.args.self.now in
    let p = c.parted-times in
    quotient_is f.modulus (f.residue * c.args.x) (p.result.0 + 1) (p.result.1 - f.modulus)
    (omega (arith, p.ensures.below, c.if-rest-self.false)) (omega (arith, p.ensures.whole, c.if-rest-self.false))

pub returns-else-rest-self-clause-rest : goal.returns-else-rest-self-clause-rest
returns-else-rest-self-clause-rest c =
    let f = c.args.self.now in
    let p = c.parted-times in
    rest_is f.modulus (f.residue * c.args.x) (p.result.0 + 1) (p.result.1 - f.modulus)
    (omega (arith, p.ensures.below, c.if-rest-self.false)) (omega (arith, p.ensures.whole, c.if-rest-self.false))
