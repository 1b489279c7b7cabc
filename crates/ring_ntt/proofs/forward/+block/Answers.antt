use Rattle.std.proofs.Common.{◌≡◌, ◌+◌, ◌-◌, ◌*◌, ◌/◌, ◌%◌, ◌^◌, ◌++◌, length, get_or, take, drop, sym, ◌∙◌, ap, arith}
use Rattle.ring_ntt.specs.Transform.{entry}
use Rattle.ring_ntt.specs.Nodes.{powers, node}
use Rattle.ring_ntt.proofs.Places.{halves_of}
use Rattle.ring_ntt.proofs.Bases.{IsFolded, node_halves}
use Rattle.ring_ntt.proofs.forward.+block.Goals as goal

pub factor-requires : goal.factor-requires
factor-requires t c = (halves_of c.args.table.now.levels c.args.depth c.args.k (omega arith) c.requires.place).place

pub butterflies-requires-clause-halves : goal.butterflies-requires-clause-halves
butterflies-requires-clause-halves t c =
    let h = halves_of c.args.table.now.levels c.args.depth c.args.k (omega arith) c.requires.place in
    omega (arith, h.half, h.double, c.requires.count, c.split_at_mut-low.ensures.front_len, c.split_at_mut-low.ensures.back_len)

pub block-requires : goal.block-requires
block-requires t c =
    let h = halves_of c.args.table.now.levels c.args.depth c.args.k (omega arith) c.requires.place in
    let low : length c.split_at_mut-low.result.0.now ≡ 2 ^ (c.args.depth - 1) = omega (arith, h.half, c.requires.count, c.split_at_mut-low.ensures.front_len) in (
      omega (arith, c.decreases),
      (
        omega arith,
        (
          c.butterflies.ensures.low_length ∙ low,
          (
            h.left,
            λ i l. c.butterflies.ensures.low_below i (omega (arith, low)),
          ),
        ),
      ),
    )

pub block-requires-2 : goal.block-requires-2
block-requires-2 t c =
    let h = halves_of c.args.table.now.levels c.args.depth c.args.k (omega arith) c.requires.place in
    let low : length c.split_at_mut-low.result.0.now ≡ 2 ^ (c.args.depth - 1) = omega (arith, h.half, c.requires.count, c.split_at_mut-low.ensures.front_len) in
    let high : length c.split_at_mut-low.result.1.now ≡ 2 ^ (c.args.depth - 1) = omega (arith, h.half, h.double, c.requires.count, c.split_at_mut-low.ensures.front_len, c.split_at_mut-low.ensures.back_len) in (
      omega (arith, c.decreases),
      (
        omega arith,
        (
          c.butterflies.ensures.high_length ∙ high,
          (
            h.right,
            λ i l. c.butterflies.ensures.high_below i (omega (arith, low)),
          ),
        ),
      ),
    )

pub returns : goal.returns
returns t c =
    let table = c.args.table.now in
    let q = table.modulus in
    let zs = powers q table.levels table.base in
    let k = c.args.k in
    let d = c.args.depth - 1 in
    let a = c.args.a.now in
    let h = halves_of table.levels c.args.depth k (omega arith) c.requires.place in
    let root = c.factor.ensures.root in
    let w = c.factor.result.root in
    let low : length c.split_at_mut-low.result.0.now ≡ 2 ^ d = omega (arith, h.half, c.requires.count, c.split_at_mut-low.ensures.front_len) in
    let middle : length a / 2 ≡ 2 ^ d = ap (λ z. z / 2) c.requires.count ∙ h.half in
    let front : c.split_at_mut-low.result.0.now ≡ take (2 ^ d) a = c.split_at_mut-low.ensures.front ∙ ap (λ z. take z a) middle in
    let back : c.split_at_mut-low.result.1.now ≡ drop (2 ^ d) a = c.split_at_mut-low.ensures.back ∙ ap (λ z. drop z a) middle in
    let folded_halves : IsFolded q (get_or zs k 0) (2 ^ d) a c.butterflies.new.low c.butterflies.new.high = record {
      sums = λ i l. c.butterflies.ensures.sums i (omega (arith, low))
          ∙ ap (λ z. (get_or z i 0 + w * get_or c.split_at_mut-low.result.1.now i 0) % q) front
          ∙ ap (λ z. (get_or (take (2 ^ d) a) i 0 + w * get_or z i 0) % q) back
          ∙ ap (λ z. (get_or (take (2 ^ d) a) i 0 + z * get_or (drop (2 ^ d) a) i 0) % q) root;
      differences = λ i l. c.butterflies.ensures.differences i (omega (arith, low))
          ∙ ap (λ z. (get_or z i 0 + (q - w) * get_or c.split_at_mut-low.result.1.now i 0) % q) front
          ∙ ap (λ z. (get_or (take (2 ^ d) a) i 0 + (q - w) * get_or z i 0) % q) back
          ∙ ap (λ z. (get_or (take (2 ^ d) a) i 0 + (q - z) * get_or (drop (2 ^ d) a) i 0) % q) root;
    } in
    ap (λ z. z ++ c.block-2.new.a) c.block.ensures
    ∙ ap (λ z. node q zs d (2 * k) (entry c.butterflies.new.low) ++ z) c.block-2.ensures
    ∙ node_halves q zs d k a c.butterflies.new.low c.butterflies.new.high folded_halves
    ∙ ap (λ z. node q zs z k (entry a)) (sym h.below)
