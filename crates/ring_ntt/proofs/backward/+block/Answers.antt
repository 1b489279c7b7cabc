use Rattle.std.proofs.Common.{◌≡◌, ◌+◌, ◌-◌, ◌*◌, ◌/◌, ◌%◌, ◌^◌, ◌<◌, length, get_or, take, drop, inl, inr, sym, ◌∙◌, ap, subst, arith}
use Rattle.std.proofs.lemmas.List.{get_or-take, get_or-drop, get_or_append_left, get_or-append_right}
use Rattle.std.proofs.lemmas.Bool.{cases_lt}
use Rattle.ring_ntt.specs.Nodes.{powers, undone}
use Rattle.ring_ntt.proofs.Places.{halves_of}
use Rattle.ring_ntt.proofs.Bases.{IsJoined, undone_halves}
use Rattle.ring_ntt.proofs.backward.+block.Goals as goal

pub block-requires : goal.block-requires
block-requires t c =
    let h = halves_of c.args.table.now.levels c.args.depth c.args.k (omega arith) c.requires.place in
    let q = c.args.table.now.modulus in
    let a = c.args.a.now in
    let middle : length a / 2 ≡ 2 ^ (c.args.depth - 1) = ap (λ z. z / 2) c.requires.count ∙ h.half in
    let low : length c.split_at_mut-low.result.0.now ≡ 2 ^ (c.args.depth - 1) = c.split_at_mut-low.ensures.front_len ∙ middle in (
      omega (arith, c.decreases),
      (
        omega arith,
        (
          low,
          (
            h.left,
            λ i l. subst (λ z. z < 2 * q) (sym (ap (λ z. get_or z i 0) c.split_at_mut-low.ensures.front ∙ get_or-take (length a / 2) a i 0 (omega (arith, middle))))
                (c.requires.within i (omega (arith, h.double))),
          ),
        ),
      ),
    )

pub block-requires-2 : goal.block-requires-2
block-requires-2 t c =
    let h = halves_of c.args.table.now.levels c.args.depth c.args.k (omega arith) c.requires.place in
    let q = c.args.table.now.modulus in
    let a = c.args.a.now in
    let middle : length a / 2 ≡ 2 ^ (c.args.depth - 1) = ap (λ z. z / 2) c.requires.count ∙ h.half in
    let high : length c.split_at_mut-low.result.1.now ≡ 2 ^ (c.args.depth - 1) = omega (arith, middle, h.double, c.requires.count, c.split_at_mut-low.ensures.back_len) in (
      omega (arith, c.decreases),
      (
        omega arith,
        (
          high,
          (
            h.right,
            λ i l. subst (λ z. z < 2 * q) (sym (ap (λ z. get_or z i 0) c.split_at_mut-low.ensures.back ∙ get_or-drop (length a / 2) a i 0))
                (c.requires.within (length a / 2 + i) (omega (arith, middle, h.double))),
          ),
        ),
      ),
    )

pub returns-clause-below : goal.returns-clause-below
returns-clause-below t c = λ i l.
    let h = halves_of c.args.table.now.levels c.args.depth c.args.k (omega arith) c.requires.place in
    let q = c.args.table.now.modulus in
    let m = 2 ^ (c.args.depth - 1) in
    let left = c.reunions.new.low in
    let right = c.reunions.new.high in
    let low : length c.block.new.a ≡ m = c.block.ensures.length in
    let n : length left ≡ m = c.reunions.ensures.low_length ∙ low in
    elim (cases_lt i m) [
      | inl first ↦ subst (λ z. z < 2 * q) (sym (get_or_append_left left right 0 i (omega (arith, n)))) (c.reunions.ensures.low_below i (omega (arith, low)))
      | inr second ↦ subst (λ z. z < 2 * q) (sym (get_or-append_right left right m i 0 n second)) (c.reunions.ensures.high_below (i - m) (omega (arith, low, h.double)))
    ]

pub returns-clause-same : goal.returns-clause-same
returns-clause-same t c = λ i l.
    let table = c.args.table.now in
    let q = table.modulus in
    let zs = powers q table.levels table.base in
    let k = c.args.k in
    let d = c.args.depth - 1 in
    let a = c.args.a.now in
    let h = halves_of table.levels c.args.depth k (omega arith) c.requires.place in
    let low : length c.block.new.a ≡ 2 ^ d = c.block.ensures.length in
    let n : length c.reunions.new.low ≡ 2 ^ d = c.reunions.ensures.low_length ∙ low in
    let middle : length a / 2 ≡ 2 ^ d = ap (λ z. z / 2) c.requires.count ∙ h.half in
    let front : c.split_at_mut-low.result.0.now ≡ take (2 ^ d) a = c.split_at_mut-low.ensures.front ∙ ap (λ z. take z a) middle in
    let back : c.split_at_mut-low.result.1.now ≡ drop (2 ^ d) a = c.split_at_mut-low.ensures.back ∙ ap (λ z. drop z a) middle in
    let joined_halves : IsJoined q (get_or zs k 0) (2 ^ d) (undone q zs d (2 * k) (take (2 ^ d) a)) (undone q zs d (2 * k + 1) (drop (2 ^ d) a)) c.block.new.a c.block-2.new.a c.reunions.new.low c.reunions.new.high = record {
      low_is = λ j m. c.block.ensures.same j m ∙ ap (λ z. undone q zs d (2 * k) z j % q) front;
      high_is = λ j m. c.block-2.ensures.same j m ∙ ap (λ z. undone q zs d (2 * k + 1) z j % q) back;
      sums = λ j m. c.reunions.ensures.sums j (omega (arith, low));
      differences = λ j m. c.reunions.ensures.differences j (omega (arith, low))
          ∙ ap (λ z. z * (get_or c.block.new.a j 0 + (q - 1) * get_or c.block-2.new.a j 0) % q) c.factor.ensures.root;
    } in
    undone_halves q zs d k a c.block.new.a c.block-2.new.a c.reunions.new.low c.reunions.new.high joined_halves n i (omega (arith, h.below, ap (λ z. 2 ^ z) h.below))
    ∙ ap (λ z. undone q zs z k a i % q) (sym h.below)
