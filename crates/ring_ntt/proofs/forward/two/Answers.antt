use Rattle.std.proofs.Common.{◌+◌, ◌-◌, ◌*◌, ◌%◌, [], ◌∷◌, get_or, sym, ◌∙◌, ap}
use Rattle.ring_ntt.specs.Transform.{entry}
use Rattle.ring_ntt.specs.Nodes.{powers}
use Rattle.ring_ntt.proofs.Slots.{two_written}
use Rattle.ring_ntt.proofs.Bases.{node_two}
use Rattle.ring_ntt.proofs.forward.two.Goals as goal

pub returns : goal.returns
returns c =
    let t = c.args.table.now in
    let q = t.modulus in
    let a = c.args.a.now in
    let zs = powers q t.levels t.base in
    let w = c.factor.ensures.root in
    two_written a c.reduced.result c.reduced-2.result c.requires.count
    ∙ ap (λ z. z ∷ c.reduced-2.result ∷ []) (c.reduced.ensures ∙ c.butterfly-x.ensures.sum ∙ ap (λ z. (get_or a 0 0 + z * get_or a 1 0) % q) w)
    ∙ ap (λ z. (get_or a 0 0 + get_or zs c.args.k 0 * get_or a 1 0) % q ∷ z ∷ [])
    (c.reduced-2.ensures ∙ c.butterfly-x.ensures.difference ∙ ap (λ z. (get_or a 0 0 + (q - z) * get_or a 1 0) % q) w)
    ∙ sym (node_two q zs c.args.k (entry a))
