use Rattle.std.proofs.Common.{◌≡◌, ◌+◌, ◌%◌, ◌<◌, length, get_or, refl, sym, ◌∙◌, ap, subst, arith}
use Rattle.ring_spec.specs.Ring.{IsPoly, ring_sum}
use Rattle.ring_ntt.specs.Transform.{transform, inverse_transform}
use Rattle.ring_ntt.proofs.Slots.{set_done, set_rest}
use Rattle.ring_ntt.proofs.Sides.{ring_sum-is, ring_sum-poly, sum-transform, inverse-sum}
use Rattle.ring_ntt.proofs.Ready.{has_root, levelled}
use Rattle.ring_ntt.proofs.tables.Tables.add_into.Goals as goal

pub sums-init : goal.sums-init
sums-init c = record { done = λ k h. absurd (omega (arith, h)); rest = λ k h. refl }

pub sums-preserved : goal.sums-preserved
sums-preserved c =
    let q = c.args.self.now.modulus in
    let i = c.sums.i in
    let old = c.args.a.now in
    let b = c.args.b.now in
    let here : i < length c.sums.a = omega arith in
    record {
      done = set_done (λ k v. v ≡ (get_or old k 0 + get_or b k 0) % q) c.sums.a i c.lowered.result here c.sums.invariant.done
          (c.lowered.ensures ∙ ap (λ z. (z + get_or b i 0) % q) (c.sums.invariant.rest i (omega arith)));
      rest = set_rest c.sums.a old i c.lowered.result c.sums.invariant.rest;
    }

pub returns-clause-values : goal.returns-clause-values
returns-clause-values c =
    let t = c.args.self.now in
    let n = c.requires.left.entries in
    ring_sum-is t.modulus t.length c.args.a.now c.args.b.now c.sums.a (omega (arith, n)) (λ k h. c.sums.invariant.done k (omega (arith, n)))

pub returns-clause-residues : goal.returns-clause-residues
returns-clause-residues c =
    let t = c.args.self.now in
    let n = c.requires.left.entries in
    let values : c.sums.a ≡ ring_sum t.modulus t.length c.args.a.now c.args.b.now =
    ring_sum-is t.modulus t.length c.args.a.now c.args.b.now c.sums.a (omega (arith, n)) (λ k h. c.sums.invariant.done k (omega (arith, n))) in
    subst (λ z. IsPoly t.modulus t.length z) (sym values) (ring_sum-poly t.modulus t.length c.args.a.now c.args.b.now (omega (arith, t.at_least_three)))

pub returns-clause-sum : goal.returns-clause-sum
returns-clause-sum c = λ f g ea eb.
    let t = c.args.self.now in
    let q = t.modulus in
    let n = c.requires.left.entries in
    let values : c.sums.a ≡ ring_sum q t.length c.args.a.now c.args.b.now =
    ring_sum-is q t.length c.args.a.now c.args.b.now c.sums.a (omega (arith, n)) (λ k h. c.sums.invariant.done k (omega (arith, n))) in
    values
    ∙ ap (λ z. ring_sum q t.length z c.args.b.now) ea
    ∙ ap (λ z. ring_sum q t.length (transform q t.root t.levels f) z) eb
    ∙ ap (λ z. ring_sum q z (transform q t.root t.levels f) (transform q t.root t.levels g)) t.whole
    ∙ sum-transform q t.root t.levels f g
    ∙ ap (λ z. transform q t.root t.levels (ring_sum q z f g)) (sym t.whole)

pub returns-clause-polynomial : goal.returns-clause-polynomial
returns-clause-polynomial c =
    let t = c.args.self.now in
    let q = t.modulus in
    let a = c.args.a.now in
    let b = c.args.b.now in
    let n = c.requires.left.entries in
    let values : c.sums.a ≡ ring_sum q t.length a b =
    ring_sum-is q t.length a b c.sums.a (omega (arith, n)) (λ k h. c.sums.invariant.done k (omega (arith, n))) in
    ap (inverse_transform q t.root t.levels) values
    ∙ ap (λ z. inverse_transform q t.root t.levels (ring_sum q z a b)) t.whole
    ∙ inverse-sum q t.levels t.root a b (has_root t) (levelled t a c.requires.left) (levelled t b c.requires.right)
    ∙ ap (λ z. ring_sum q z (inverse_transform q t.root t.levels a) (inverse_transform q t.root t.levels b)) (sym t.whole)
