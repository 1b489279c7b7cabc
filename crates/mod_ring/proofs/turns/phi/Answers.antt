-- The value is a list of residues.
use Rattle.std.proofs.Common.{arith}
use Rattle.std.proofs.lemmas.Grind.{common_steps}
use Rattle.mod_ring.proofs.Fits.{turned-fits}
use Rattle.mod_ring.proofs.turns.phi.Goals as goal

pub returns-clause-fits : goal.returns-clause-fits
returns-clause-fits c =
    let p = c.args.ring.now.params in
    turned-fits p.q p.n c.args.g c.args.f.now _ (grind (arith, common_steps)) (omega arith)
