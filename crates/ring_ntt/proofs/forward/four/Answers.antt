use Rattle.std.proofs.Common.{◌+◌, ◌-◌, ◌*◌, ◌%◌, [], ◌∷◌, get_or, sym, ◌∙◌, ap, arith}
use Rattle.ring_ntt.specs.Transform.{entry}
use Rattle.ring_ntt.specs.Nodes.{powers}
use Rattle.ring_ntt.proofs.Places.{few_places}
use Rattle.ring_ntt.proofs.Slots.{four_written}
use Rattle.ring_ntt.proofs.Bases.{node_four, step_same}
use Rattle.ring_ntt.proofs.forward.four.Goals as goal

pub overflow_mul-k : goal.overflow_mul-k
overflow_mul-k c = omega (arith, c.requires.place, few_places c.args.table.now.levels c.args.table.now.few_levels)

pub overflow_mul-k-2 : goal.overflow_mul-k-2
overflow_mul-k-2 c = omega (arith, c.requires.place, few_places c.args.table.now.levels c.args.table.now.few_levels)

pub overflow_add-k : goal.overflow_add-k
overflow_add-k c = omega (arith, c.requires.place, few_places c.args.table.now.levels c.args.table.now.few_levels)

pub returns : goal.returns
returns c =
    let t = c.args.table.now in
    let q = t.modulus in
    let a = c.args.a.now in
    let k = c.args.k in
    let zs = powers q t.levels t.base in
    let w = get_or zs k 0 in
    let w2 = get_or zs (2 * k) 0 in
    let w3 = get_or zs (2 * k + 1) 0 in
    let e1 = c.factor-upper.ensures.root in
    let x0 = c.butterfly-x0.ensures.sum ∙ ap (λ z. (get_or a 0 0 + z * get_or a 2 0) % q) e1 in
    let x2 = c.butterfly-x0.ensures.difference ∙ ap (λ z. (get_or a 0 0 + (q - z) * get_or a 2 0) % q) e1 in
    let x1 = c.butterfly-x1.ensures.sum ∙ ap (λ z. (get_or a 1 0 + z * get_or a 3 0) % q) e1 in
    let x3 = c.butterfly-x1.ensures.difference ∙ ap (λ z. (get_or a 1 0 + (q - z) * get_or a 3 0) % q) e1 in
    let v0 = get_or a 0 0 + w * get_or a 2 0 in
    let v1 = get_or a 1 0 + w * get_or a 3 0 in
    let v2 = get_or a 0 0 + (q - w) * get_or a 2 0 in
    let v3 = get_or a 1 0 + (q - w) * get_or a 3 0 in
    let r0 = c.reduced.ensures ∙ c.butterfly-y0.ensures.sum ∙ ap (λ z. (c.butterfly-x0.result.0 + z * c.butterfly-x1.result.0) % q) c.factor.ensures.root
    ∙ step_same q w2 c.butterfly-x0.result.0 c.butterfly-x1.result.0 v0 v1 x0 x1 in
    let r1 = c.reduced-2.ensures ∙ c.butterfly-y0.ensures.difference ∙ ap (λ z. (c.butterfly-x0.result.0 + (q - z) * c.butterfly-x1.result.0) % q) c.factor.ensures.root
    ∙ step_same q (q - w2) c.butterfly-x0.result.0 c.butterfly-x1.result.0 v0 v1 x0 x1 in
    let r2 = c.reduced-3.ensures ∙ c.butterfly-y2.ensures.sum ∙ ap (λ z. (c.butterfly-x0.result.1 + z * c.butterfly-x1.result.1) % q) c.factor-2.ensures.root
    ∙ step_same q w3 c.butterfly-x0.result.1 c.butterfly-x1.result.1 v2 v3 x2 x3 in
    let r3 = c.reduced-4.ensures ∙ c.butterfly-y2.ensures.difference ∙ ap (λ z. (c.butterfly-x0.result.1 + (q - z) * c.butterfly-x1.result.1) % q) c.factor-2.ensures.root
    ∙ step_same q (q - w3) c.butterfly-x0.result.1 c.butterfly-x1.result.1 v2 v3 x2 x3 in
    four_written a c.reduced.result c.reduced-2.result c.reduced-3.result c.reduced-4.result c.requires.count
    ∙ ap (λ z. z ∷ c.reduced-2.result ∷ c.reduced-3.result ∷ c.reduced-4.result ∷ []) r0
    ∙ ap (λ z. (v0 + w2 * v1) % q ∷ z ∷ c.reduced-3.result ∷ c.reduced-4.result ∷ []) r1
    ∙ ap (λ z. (v0 + w2 * v1) % q ∷ (v0 + (q - w2) * v1) % q ∷ z ∷ c.reduced-4.result ∷ []) r2
    ∙ ap (λ z. (v0 + w2 * v1) % q ∷ (v0 + (q - w2) * v1) % q ∷ (v2 + w3 * v3) % q ∷ z ∷ []) r3
    ∙ sym (node_four q zs k (entry a))
