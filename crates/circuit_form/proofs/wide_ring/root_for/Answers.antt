-- Each turn squares the root and halves the degree.
use Rattle.std.proofs.Common.{arith}
use Rattle.circuit_form.specs.Products.{wide_modulus}
use Rattle.circuit_form.proofs.Roots.{psi_is_root, halvings, halved, root_squared}
use Rattle.circuit_form.proofs.wide_ring.root_for.Goals as goal

pub squarings-init : goal.squarings-init
squarings-init c = record {
  residue = omega arith;
  power = psi_is_root;
  whole = halvings c.args.n c.requires.0 c.requires.1 c.requires.2;
}

pub squarings-preserved : goal.squarings-preserved
squarings-preserved c =
    let n = c.args.n in
    let m = c.squarings.degree in
    record {
      residue = omega arith;
      power = root_squared wide_modulus c.squarings.root n m c.squarings-test.true c.squarings.invariant.whole c.squarings.invariant.power;
      whole = halved n m c.squarings-test.true c.squarings.invariant.whole;
    }
