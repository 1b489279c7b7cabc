use Rattle.std.proofs.Common.{arith}
use Rattle.ring_ntt.proofs.Inverses.{not_zero, root_inverse}
use Rattle.ring_ntt.proofs.tables.inverse_of.Goals as goal

pub returns-clause-residue : goal.returns-clause-residue
returns-clause-residue c =
    omega (arith, not_zero c.args.q c.args.n c.args.root c.power.result c.requires.above_one c.requires.some c.requires.is_root c.power.ensures)

pub returns-clause-inverse : goal.returns-clause-inverse
returns-clause-inverse c =
    root_inverse c.args.q c.args.n c.args.root c.power.result c.requires.above_one c.requires.some c.requires.is_root c.power.ensures
