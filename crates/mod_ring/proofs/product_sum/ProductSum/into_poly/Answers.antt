-- The remainders are values, and the way back gives the polynomial that they stand for.
use Rattle.std.proofs.Common.{◌∙◌, sym, ap, arith, rules}
use Rattle.std.proofs.lemmas.Grind.{common_steps}
use Rattle.mod_ring.specs.Evaluated.{Gathered}
use Rattle.mod_ring.specs.WideSums.{remainders}
use Rattle.mod_ring.proofs.Evaluations.{IsOf, taken_back, remainders_are_values}
use Rattle.mod_ring.proofs.product_sum.ProductSum.into_poly.Goals as goal

pub inverse-requires : goal.inverse-requires
inverse-requires c =
    let s = c.self.inside in
    let t = c.tables.result.now in
    remainders_are_values c.args.ring.now.params s.modulus s.root s.levels t.modulus t.length s.sums.items _ c.args.self.value
    (ap (λ (x : Gathered). x.value) c.self.view_is) c.requires c.self.invariant.0 c.tables.ensures.modulus c.tables.ensures.degree (search rules)

pub returns-clause-value : goal.returns-clause-value
returns-clause-value c =
    let s = c.self.inside in
    let t = c.tables.result.now in
    let by : IsOf c.args.ring.now.params t.modulus t.root t.levels =
    record { modulus = c.tables.ensures.modulus; degree = sym t.whole ∙ c.tables.ensures.degree; root = c.tables.ensures.root } in
    taken_back c.args.ring.now.params s.modulus s.root s.levels t.modulus t.root t.levels (remainders s.modulus s.sums.items) c.as_mut_slice.result.now _ c.args.self.value
    (ap (λ (x : Gathered). x.value) c.self.view_is) c.requires by (search rules) (grind (arith, common_steps))
