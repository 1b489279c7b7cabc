-- Shoup's bounds, with the high word of the product with the quotient.
use Rattle.std.proofs.Common.{◌*◌, ◌/◌, refl, arith}
use Rattle.mod_word.proofs.Shoup.{shoup}
use Rattle.mod_word.proofs.multiples.Factor.parted.Goals as goal

pub overflow_sub-rest : goal.overflow_sub-rest
overflow_sub-rest c =
    let f = c.args.self.now in
    (shoup f.modulus f.residue f.quotient c.args.x _ (omega (arith, f.reduced)) f.precomputed (omega arith) refl).0

pub overflow_cast-result-2 : goal.overflow_cast-result-2
overflow_cast-result-2 c =
    let f = c.args.self.now in
    let h = f.quotient * c.args.x / 18446744073709551616 in
    let bounds = shoup f.modulus f.residue f.quotient c.args.x h (omega (arith, f.reduced)) f.precomputed (omega arith) refl in
    omega (arith, bounds, f.few_bits)

pub returns-clause-below : goal.returns-clause-below
returns-clause-below c =
    let f = c.args.self.now in
    let h = f.quotient * c.args.x / 18446744073709551616 in
    let bounds = shoup f.modulus f.residue f.quotient c.args.x h (omega (arith, f.reduced)) f.precomputed (omega arith) refl in
    omega (arith, bounds)

pub returns-clause-whole : goal.returns-clause-whole
returns-clause-whole c =
    let f = c.args.self.now in
    let h = f.quotient * c.args.x / 18446744073709551616 in
    let bounds = shoup f.modulus f.residue f.quotient c.args.x h (omega (arith, f.reduced)) f.precomputed (omega arith) refl in
    omega (arith, bounds)
