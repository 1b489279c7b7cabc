use Rattle.std.proofs.Common.{◌≡◌, ◌^◌, ◌%◌, sym, ◌∙◌, ap, subst, arith}
use Rattle.ring_spec.specs.Ring.{IsPoly}
use Rattle.ring_ntt.specs.Transform.{transform, inverse_transform}
use Rattle.ring_ntt.proofs.Laws.{forward-values, transform-poly}
use Rattle.ring_ntt.proofs.Interpolation.{inverse_transform-transform}
use Rattle.ring_ntt.proofs.Ready.{has_root, levelled}
use Rattle.ring_ntt.proofs.tables.Tables.forward.Goals as goal

pub returns-clause-values : goal.returns-clause-values
returns-clause-values c =
    let t = c.args.self.now in
    let root = ap (λ z. t.root ^ z % t.modulus) (sym t.whole) ∙ t.is_root in
    forward-values t.modulus t.root t.levels t.onward.modulus t.onward.levels t.onward.base c.args.a.now c.whole.new.a
    t.onward_is.0 t.onward_is.1 t.onward_is.2 (omega (arith, t.at_least_three)) root t.some_level c.whole.ensures

pub returns-clause-residues : goal.returns-clause-residues
returns-clause-residues c =
    let t = c.args.self.now in
    let root = ap (λ z. t.root ^ z % t.modulus) (sym t.whole) ∙ t.is_root in
    let values : c.whole.new.a ≡ transform t.modulus t.root t.levels c.args.a.now =
    forward-values t.modulus t.root t.levels t.onward.modulus t.onward.levels t.onward.base c.args.a.now c.whole.new.a
    t.onward_is.0 t.onward_is.1 t.onward_is.2 (omega (arith, t.at_least_three)) root t.some_level c.whole.ensures in
    subst (λ z. IsPoly t.modulus z c.whole.new.a) (sym t.whole)
    (subst (λ z. IsPoly t.modulus (2 ^ t.levels) z) (sym values) (transform-poly t.modulus t.root t.levels c.args.a.now (omega (arith, t.at_least_three))))

pub returns-clause-polynomial : goal.returns-clause-polynomial
returns-clause-polynomial c =
    let t = c.args.self.now in
    let root = ap (λ z. t.root ^ z % t.modulus) (sym t.whole) ∙ t.is_root in
    let values : c.whole.new.a ≡ transform t.modulus t.root t.levels c.args.a.now =
    forward-values t.modulus t.root t.levels t.onward.modulus t.onward.levels t.onward.base c.args.a.now c.whole.new.a
    t.onward_is.0 t.onward_is.1 t.onward_is.2 (omega (arith, t.at_least_three)) root t.some_level c.whole.ensures in
    ap (inverse_transform t.modulus t.root t.levels) values
    ∙ inverse_transform-transform t.modulus t.levels t.root c.args.a.now (has_root t) (levelled t c.args.a.now c.requires)
