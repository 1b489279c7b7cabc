-- Both factors go in by their residues.
use Rattle.std.proofs.Common.{arith}
use Rattle.int_tensor.proofs.Residues.{exact_modulo}
use Rattle.int_tensor.proofs.products.product_modulo.Goals as goal

pub returns : goal.returns
returns c =
    let t = c.args.tables.now in
    exact_modulo t.modulus t.length c.args.f.now c.args.g.now _ _ _ c.product_of_residues.ensures c.in_ok-values.ensures c.in_ok-others.ensures
    c.requires.lengths.0 c.requires.lengths.1 (omega (arith, c.requires.modulus))
