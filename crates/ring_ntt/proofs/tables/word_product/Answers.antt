use Rattle.std.proofs.Common.{◌*◌, ◌%◌, refl, ◌∙◌, ap}
use Rattle.ring_ntt.proofs.WordLaws.{word_halves}
use Rattle.ring_ntt.proofs.tables.word_product.Goals as goal

pub returns : goal.returns
returns c =
    let q = c.args.q in
    let low = c.args.x * c.args.y % 18446744073709551616 in
    c.reduced.ensures
    ∙ word_halves q c.args.x c.args.y c.scaled.result c.scaled-2.result c.args.carry.root _ c.requires.carry.0 c.scaled.ensures.same
    (c.scaled-2.ensures.same ∙ ap (λ z. z * low % q) c.requires.unit.0) refl
