use Rattle.std.proofs.Common.{◌+◌, ◌/◌, ◌%◌, ◌^◌, ◌∙◌, ap}
use Rattle.ring_ntt.proofs.Inverses.{half_power}
use Rattle.ring_ntt.proofs.tables.inverse_of_length.Goals as goal

pub returns-clause-inverse : goal.returns-clause-inverse
returns-clause-inverse c =
    let q = c.args.q in
    half_power q c.args.levels c.power.result c.requires.above_one c.requires.odd (c.power.ensures ∙ ap (λ z. (q / 2 + 1) ^ z % q) c.from.ensures)
