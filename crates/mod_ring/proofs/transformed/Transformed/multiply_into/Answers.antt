-- Products of values stand for the product.
use Rattle.std.proofs.Common.{◌∙◌, sym, arith, rules}
use Rattle.std.proofs.lemmas.Grind.{common_steps}
use Rattle.mod_ring.proofs.Evaluations.{IsOf, product_stands, product_fits}
use Rattle.mod_ring.proofs.transformed.Transformed.multiply_into.Goals as goal

pub returns-clause-value : goal.returns-clause-value
returns-clause-value c =
    let p = c.args.ring.now.params in
    let s = c.self.inside in
    let o = c.other.inside in
    let t = c.tables.result.now in
    let by : IsOf p t.modulus t.root t.levels =
    record { modulus = c.tables.ensures.modulus; degree = sym t.whole ∙ c.tables.ensures.degree; root = c.tables.ensures.root } in
    product_stands p s.modulus s.root s.levels o.modulus o.root o.levels t.modulus t.root t.levels t.length _ c.multiply_into.new.a s.values.items o.values.items c.as_mut_slice.result.now c.as_slice.result.now
    c.args.self.now c.args.other.now c.self.view_is c.requires.left c.other.view_is c.requires.right by c.tables.ensures.degree
    (search rules) (search rules) (grind (arith, common_steps)) c.multiply_into.ensures.polynomial

pub returns-clause-fits : goal.returns-clause-fits
returns-clause-fits c =
    let p = c.args.ring.now.params in
    let s = c.self.inside in
    product_fits p s.modulus s.root s.levels s.values.items _ c.args.self.now c.args.other.now c.self.view_is c.requires.left (returns-clause-value c)
