-- The exponent of a power of two is the number of its zeros.
use Rattle.std.proofs.Common.{◌^◌, sym, ◌∙◌, ap, arith, w64}
use Rattle.std.specs.Int.{trailing_zeros}
use Rattle.ring_ntt.proofs.Inverses.{trailing_power}
use Rattle.ring_ntt.proofs.PowersOfTwo.{levels_within}
use Rattle.mod_ring.proofs.fixed_primes.levels_of.Goals as goal

pub returns-clause-whole : goal.returns-clause-whole
returns-clause-whole c =
    let r = levels_within c.args.n (omega (arith, c.requires.0)) c.requires.1 c.requires.2 in
    ap (λ z. 2 ^ z) (ap (trailing_zeros w64) r.3 ∙ trailing_power r.0 r.2) ∙ sym r.3

pub returns-clause-few : goal.returns-clause-few
returns-clause-few c =
    let r = levels_within c.args.n (omega (arith, c.requires.0)) c.requires.1 c.requires.2 in
    let e = ap (trailing_zeros w64) r.3 ∙ trailing_power r.0 r.2 in
    omega (arith, e, r.2)
