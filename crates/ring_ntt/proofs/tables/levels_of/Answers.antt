use Rattle.std.proofs.Common.{◌^◌, sym, ◌∙◌, ap, arith, w64}
use Rattle.std.specs.Int.{trailing_zeros}
use Rattle.ring_ntt.proofs.Inverses.{trailing_power}
use Rattle.ring_ntt.proofs.PowersOfTwo.{levels_within}
use Rattle.ring_ntt.proofs.tables.levels_of.Goals as goal

pub returns-clause-whole : goal.returns-clause-whole
returns-clause-whole c =
    let r = levels_within c.args.n c.requires.0 c.requires.1 c.requires.2 in
    r.3 ∙ ap (λ z. 2 ^ z) (sym (ap (trailing_zeros w64) r.3 ∙ trailing_power r.0 r.2))

pub returns-clause-some : goal.returns-clause-some
returns-clause-some c =
    let r = levels_within c.args.n c.requires.0 c.requires.1 c.requires.2 in
    let e = ap (trailing_zeros w64) r.3 ∙ trailing_power r.0 r.2 in
    omega (arith, e, r.1)

pub returns-clause-few : goal.returns-clause-few
returns-clause-few c =
    let r = levels_within c.args.n c.requires.0 c.requires.1 c.requires.2 in
    let e = ap (trailing_zeros w64) r.3 ∙ trailing_power r.0 r.2 in
    omega (arith, e, r.2)
