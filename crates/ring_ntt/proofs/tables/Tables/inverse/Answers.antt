use Rattle.std.proofs.Common.{◌%◌, ◌^◌, sym, ◌∙◌, ap, subst, arith}
use Rattle.ring_spec.specs.Ring.{IsPoly}
use Rattle.ring_ntt.proofs.Laws.{IsReady, IsBack, is_back, back-undoes, back-undone}
use Rattle.ring_ntt.proofs.Interpolation.{is-inverse_transform}
use Rattle.ring_ntt.proofs.Ready.{has_root, levelled}
use Rattle.ring_ntt.proofs.tables.Tables.inverse.Goals as goal

pub returns-clause-undoes : goal.returns-clause-undoes
returns-clause-undoes c = λ f p e.
    let t = c.args.self.now in
    let ready : IsReady t.modulus t.levels t.root t.back.base t.scale.root = record {
      above_one = omega (arith, t.at_least_three);
      some_level = t.some_level;
      root = ap (λ z. t.root ^ z % t.modulus) (sym t.whole) ∙ t.is_root;
      inverse = t.back_is.2;
      scaled = t.scale_is.0;
    } in
    let back : IsBack t.modulus t.levels t.root t.back.base t.scale.root c.args.a.now c.scale_down.new.a =
    is_back t.modulus t.levels t.root t.back.base t.scale.root t.back.modulus t.back.levels c.args.a.now c.whole.new.a c.scale_down.new.a
    (omega (arith, t.at_least_three)) t.back_is.0 t.back_is.1 c.whole.ensures.length c.scale_down.ensures.length c.whole.ensures.same c.scale_down.ensures.scaled in
    back-undoes t.modulus t.levels t.root t.back.base t.scale.root c.args.a.now c.scale_down.new.a f ready back (subst (λ z. IsPoly t.modulus z f) t.whole p) e

pub returns-clause-undone : goal.returns-clause-undone
returns-clause-undone c =
    let t = c.args.self.now in
    let ready : IsReady t.modulus t.levels t.root t.back.base t.scale.root = record {
      above_one = omega (arith, t.at_least_three);
      some_level = t.some_level;
      root = ap (λ z. t.root ^ z % t.modulus) (sym t.whole) ∙ t.is_root;
      inverse = t.back_is.2;
      scaled = t.scale_is.0;
    } in
    let back : IsBack t.modulus t.levels t.root t.back.base t.scale.root c.args.a.now c.scale_down.new.a =
    is_back t.modulus t.levels t.root t.back.base t.scale.root t.back.modulus t.back.levels c.args.a.now c.whole.new.a c.scale_down.new.a
    (omega (arith, t.at_least_three)) t.back_is.0 t.back_is.1 c.whole.ensures.length c.scale_down.ensures.length c.whole.ensures.same c.scale_down.ensures.scaled in
    back-undone t.modulus t.levels t.root t.back.base t.scale.root c.args.a.now c.scale_down.new.a ready back (subst (λ z. IsPoly t.modulus z c.args.a.now) t.whole c.requires)

pub returns-clause-residues : goal.returns-clause-residues
returns-clause-residues c =
    let t = c.args.self.now in
    let back : IsBack t.modulus t.levels t.root t.back.base t.scale.root c.args.a.now c.scale_down.new.a =
    is_back t.modulus t.levels t.root t.back.base t.scale.root t.back.modulus t.back.levels c.args.a.now c.whole.new.a c.scale_down.new.a
    (omega (arith, t.at_least_three)) t.back_is.0 t.back_is.1 c.whole.ensures.length c.scale_down.ensures.length c.whole.ensures.same c.scale_down.ensures.scaled in
    subst (λ z. IsPoly t.modulus z c.scale_down.new.a) (sym t.whole) back.poly

pub returns-clause-polynomial : goal.returns-clause-polynomial
returns-clause-polynomial c =
    let t = c.args.self.now in
    let ready : IsReady t.modulus t.levels t.root t.back.base t.scale.root = record {
      above_one = omega (arith, t.at_least_three);
      some_level = t.some_level;
      root = ap (λ z. t.root ^ z % t.modulus) (sym t.whole) ∙ t.is_root;
      inverse = t.back_is.2;
      scaled = t.scale_is.0;
    } in
    let back : IsBack t.modulus t.levels t.root t.back.base t.scale.root c.args.a.now c.scale_down.new.a =
    is_back t.modulus t.levels t.root t.back.base t.scale.root t.back.modulus t.back.levels c.args.a.now c.whole.new.a c.scale_down.new.a
    (omega (arith, t.at_least_three)) t.back_is.0 t.back_is.1 c.whole.ensures.length c.scale_down.ensures.length c.whole.ensures.same c.scale_down.ensures.scaled in
    is-inverse_transform t.modulus t.levels t.root c.args.a.now c.scale_down.new.a (has_root t) back.poly
    (back-undone t.modulus t.levels t.root t.back.base t.scale.root c.args.a.now c.scale_down.new.a ready back (levelled t c.args.a.now c.requires))
