use Rattle.std.proofs.Common.{◌≡◌, ◌*◌, ◌%◌, ◌^◌, ◌<◌, length, get_or, refl, sym, ◌∙◌, ap, subst, arith}
use Rattle.ring_spec.specs.Ring.{IsPoly, ring_product}
use Rattle.ring_ntt.specs.Transform.{transform, inverse_transform, entrywise}
use Rattle.ring_ntt.proofs.Slots.{set_done, set_rest}
use Rattle.ring_ntt.proofs.Laws.{entrywise-is, entrywise-poly, entrywise-transform, ring_product-poly}
use Rattle.ring_ntt.proofs.Sides.{inverse-product}
use Rattle.ring_ntt.proofs.Ready.{has_root, levelled}
use Rattle.ring_ntt.proofs.tables.Tables.multiply_into.Goals as goal

pub entries-init : goal.entries-init
entries-init c = record { done = λ k h. absurd (omega (arith, h)); rest = λ k h. refl }

pub entries-preserved : goal.entries-preserved
entries-preserved c =
    let q = c.args.self.now.modulus in
    let i = c.entries.i in
    let old = c.args.a.now in
    let b = c.args.b.now in
    let here : i < length c.entries.a = omega arith in
    record {
      done = set_done (λ k v. v ≡ get_or old k 0 * get_or b k 0 % q) c.entries.a i c.word_product.result here c.entries.invariant.done
          (c.word_product.ensures ∙ ap (λ z. z * get_or b i 0 % q) (c.entries.invariant.rest i (omega arith)));
      rest = set_rest c.entries.a old i c.word_product.result c.entries.invariant.rest;
    }

pub returns-clause-values : goal.returns-clause-values
returns-clause-values c =
    let t = c.args.self.now in
    let n = c.requires.left.entries in
    entrywise-is t.modulus t.length c.args.a.now c.args.b.now c.entries.a (omega (arith, n)) (λ k h. c.entries.invariant.done k (omega (arith, n)))

pub returns-clause-residues : goal.returns-clause-residues
returns-clause-residues c =
    let t = c.args.self.now in
    let n = c.requires.left.entries in
    let values : c.entries.a ≡ entrywise t.modulus t.length c.args.a.now c.args.b.now =
    entrywise-is t.modulus t.length c.args.a.now c.args.b.now c.entries.a (omega (arith, n)) (λ k h. c.entries.invariant.done k (omega (arith, n))) in
    subst (λ z. IsPoly t.modulus t.length z) (sym values) (entrywise-poly t.modulus t.length c.args.a.now c.args.b.now (omega (arith, t.at_least_three)))

pub returns-clause-product : goal.returns-clause-product
returns-clause-product c = λ f g pf pg ea eb.
    let t = c.args.self.now in
    let q = t.modulus in
    let n = c.requires.left.entries in
    let root = ap (λ z. t.root ^ z % q) (sym t.whole) ∙ t.is_root in
    let values : c.entries.a ≡ entrywise q t.length c.args.a.now c.args.b.now =
    entrywise-is q t.length c.args.a.now c.args.b.now c.entries.a (omega (arith, n)) (λ k h. c.entries.invariant.done k (omega (arith, n))) in (
      ring_product-poly q t.length f g (omega (arith, t.at_least_three)),
      values
          ∙ ap (λ z. entrywise q t.length z c.args.b.now) ea
          ∙ ap (λ z. entrywise q t.length (transform q t.root t.levels f) z) eb
          ∙ ap (λ z. entrywise q z (transform q t.root t.levels f) (transform q t.root t.levels g)) t.whole
          ∙ entrywise-transform q t.root t.levels f g (omega (arith, t.at_least_three)) root
          ∙ ap (λ z. transform q t.root t.levels (ring_product q z f g)) (sym t.whole),
    )

pub returns-clause-polynomial : goal.returns-clause-polynomial
returns-clause-polynomial c =
    let t = c.args.self.now in
    let q = t.modulus in
    let a = c.args.a.now in
    let b = c.args.b.now in
    let n = c.requires.left.entries in
    let values : c.entries.a ≡ entrywise q t.length a b =
    entrywise-is q t.length a b c.entries.a (omega (arith, n)) (λ k h. c.entries.invariant.done k (omega (arith, n))) in
    ap (inverse_transform q t.root t.levels) values
    ∙ ap (λ z. inverse_transform q t.root t.levels (entrywise q z a b)) t.whole
    ∙ inverse-product q t.levels t.root a b (has_root t) (levelled t a c.requires.left) (levelled t b c.requires.right)
    ∙ ap (λ z. ring_product q z (inverse_transform q t.root t.levels a) (inverse_transform q t.root t.levels b)) (sym t.whole)
