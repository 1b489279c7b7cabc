-- The entries are the drawn polynomial, which fits the ring.
use Rattle.std.proofs.Common.{arith}
use Rattle.std.proofs.lemmas.Grind.{common_steps}
use Rattle.ring_draws.proofs.Fits.{wide-fits}
use Rattle.ring_draws.proofs.sample.wide.Goals as goal

pub of_residues-requires : goal.of_residues-requires
of_residues-requires c =
    let p = c.params-params.result.now in
    let s = c.args.tape.now in
    wide-fits p.q p.n c.args.bound s.seed s.stream s.next _ (grind (arith, common_steps)) (omega arith)

pub returns-clause-fits : goal.returns-clause-fits
returns-clause-fits c =
    let p = c.args.ring.now.params in
    let s = c.args.tape.now in
    wide-fits p.q p.n c.args.bound s.seed s.stream s.next _ (grind (arith, common_steps)) (omega arith)
