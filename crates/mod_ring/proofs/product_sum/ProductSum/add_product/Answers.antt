-- The sums with the products of values added stand for the sum with the product added.
use Rattle.std.proofs.Common.{ap, arith}
use Rattle.std.proofs.lemmas.Grind.{common_steps}
use Rattle.mod_ring.specs.Evaluated.{Gathered}
use Rattle.mod_ring.specs.WideSums.{remainders}
use Rattle.mod_ring.proofs.Evaluations.{sum_stands, sum_fits}
use Rattle.mod_ring.proofs.product_sum.ProductSum.add_product.Goals as goal

pub returns-clause-value : goal.returns-clause-value
returns-clause-value c =
    let s = c.self.inside in
    let f = c.f.inside in
    let g = c.g.inside in
    sum_stands c.args._ring.now.params s.modulus s.root s.levels f.modulus f.root f.levels g.modulus g.root g.levels _ s.sums.items f.values.items g.values.items
    c.args.self.now.value c.args.f.now c.args.g.now (ap (λ (x : Gathered). x.value) c.self.view_is) c.requires.sum c.f.view_is c.requires.left c.g.view_is c.requires.right
    c.self.invariant.0 c.f.invariant c.g.invariant (grind (arith, common_steps))

pub returns-clause-fits : goal.returns-clause-fits
returns-clause-fits c =
    let s = c.self.inside in
    sum_fits c.args._ring.now.params s.modulus s.root s.levels (remainders s.modulus s.sums.items) _ _ c.args.self.now.value
    (ap (λ (x : Gathered). x.value) c.self.view_is) c.requires.sum (returns-clause-value c)
