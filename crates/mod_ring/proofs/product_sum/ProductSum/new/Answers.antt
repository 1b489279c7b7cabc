-- Zeros stand for the zero polynomial.
use Rattle.std.proofs.Common.{◌∙◌, sym, arith}
use Rattle.std.proofs.lemmas.Grind.{common_steps}
use Rattle.mod_ring.proofs.Evaluations.{IsOf, none_stands, none_fits}
use Rattle.mod_ring.proofs.product_sum.ProductSum.new.Goals as goal

by : (c : goal.In_ok-sums) → IsOf c.args.ring.now.params c.tables-tables.result.now.modulus c.tables-tables.result.now.root c.tables-tables.result.now.levels
by c = record {
  modulus = c.tables-tables.ensures.modulus;
  degree = sym c.tables-tables.result.now.whole ∙ c.tables-tables.ensures.degree;
  root = c.tables-tables.ensures.root;
}

pub returns-clause-value : goal.returns-clause-value
returns-clause-value c =
    let t = c.tables-tables.result.now in
    none_stands c.args.ring.now.params t.modulus t.root t.levels c.in_ok-sums.sums.items (by c) (grind (arith, common_steps))

pub returns-clause-fits : goal.returns-clause-fits
returns-clause-fits c =
    let t = c.tables-tables.result.now in
    none_fits c.args.ring.now.params t.modulus t.root t.levels c.in_ok-sums.sums.items (by c) (grind (arith, common_steps))
