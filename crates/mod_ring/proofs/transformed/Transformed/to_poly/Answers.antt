-- The way back gives the polynomial that the values stand for.
use Rattle.std.proofs.Common.{◌∙◌, sym, arith, rules}
use Rattle.std.proofs.lemmas.Grind.{common_steps}
use Rattle.mod_ring.proofs.Evaluations.{IsOf, taken_back}
use Rattle.mod_ring.proofs.transformed.Transformed.to_poly.Goals as goal

pub returns-clause-value : goal.returns-clause-value
returns-clause-value c =
    let s = c.self.inside in
    let t = c.tables.result.now in
    let by : IsOf c.args.ring.now.params t.modulus t.root t.levels =
    record { modulus = c.tables.ensures.modulus; degree = sym t.whole ∙ c.tables.ensures.degree; root = c.tables.ensures.root } in
    taken_back c.args.ring.now.params s.modulus s.root s.levels t.modulus t.root t.levels s.values.items c.as_mut_slice.result.now _ c.args.self.now
    c.self.view_is c.requires by (search rules) (grind (arith, common_steps))
