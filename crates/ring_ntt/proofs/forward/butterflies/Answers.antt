use Rattle.std.proofs.Common.{◌≡◌, ◌+◌, ◌-◌, ◌*◌, ◌%◌, ◌<◌, length, get_or, refl, sym, ◌∙◌, ap, subst, arith}
use Rattle.ring_ntt.proofs.Slots.{set_done, set_rest}
use Rattle.ring_ntt.proofs.forward.butterflies.Goals as goal

pub pairs-init : goal.pairs-init
pairs-init c = record {
  low_below = λ k h. absurd (omega (arith, h));
  high_below = λ k h. absurd (omega (arith, h));
  sums = λ k h. absurd (omega (arith, h));
  differences = λ k h. absurd (omega (arith, h));
  low_rest = λ k h. refl;
  high_rest = λ k h. refl;
}

pub butterfly-sum-requires-clause-within : goal.butterfly-sum-requires-clause-within
butterfly-sum-requires-clause-within c =
    subst (λ z. z < 4 * c.args.q) (sym (c.pairs.invariant.low_rest c.pairs.i (omega arith))) (c.requires.low_within c.pairs.i (omega arith))

pub pairs-preserved : goal.pairs-preserved
pairs-preserved c =
    let q = c.args.q in
    let i = c.pairs.i in
    let w = c.args.w.root in
    let old_low = c.args.low.now in
    let old_high = c.args.high.now in
    let inv = c.pairs.invariant in
    let made = c.butterfly-sum.ensures in
    let x = inv.low_rest i (omega arith) in
    let y = inv.high_rest i (omega arith) in
    let low_in : i < length c.pairs.low = omega arith in
    let high_in : i < length c.pairs.high = omega (arith, c.requires.halves) in
    record {
      low_below = set_done (λ k v. v < 4 * q) c.pairs.low i c.butterfly-sum.result.0 low_in inv.low_below made.sum_below;
      high_below = set_done (λ k v. v < 4 * q) c.pairs.high i c.butterfly-sum.result.1 high_in inv.high_below made.difference_below;
      sums = set_done (λ k v. v % q ≡ (get_or old_low k 0 + w * get_or old_high k 0) % q) c.pairs.low i c.butterfly-sum.result.0 low_in inv.sums
          (made.sum ∙ ap (λ z. (z + w * get_or c.pairs.high i 0) % q) x ∙ ap (λ z. (get_or old_low i 0 + w * z) % q) y);
      differences = set_done (λ k v. v % q ≡ (get_or old_low k 0 + (q - w) * get_or old_high k 0) % q) c.pairs.high i c.butterfly-sum.result.1 high_in inv.differences
          (made.difference ∙ ap (λ z. (z + (q - w) * get_or c.pairs.high i 0) % q) x ∙ ap (λ z. (get_or old_low i 0 + (q - w) * z) % q) y);
      low_rest = set_rest c.pairs.low old_low i c.butterfly-sum.result.0 inv.low_rest;
      high_rest = set_rest c.pairs.high old_high i c.butterfly-sum.result.1 inv.high_rest;
    }

pub returns-clause-low_below : goal.returns-clause-low_below
returns-clause-low_below c = λ k h. c.pairs.invariant.low_below k (omega arith)

pub returns-clause-high_below : goal.returns-clause-high_below
returns-clause-high_below c = λ k h. c.pairs.invariant.high_below k (omega arith)

pub returns-clause-sums : goal.returns-clause-sums
returns-clause-sums c = λ k h. c.pairs.invariant.sums k (omega arith)

pub returns-clause-differences : goal.returns-clause-differences
returns-clause-differences c = λ k h. c.pairs.invariant.differences k (omega arith)
