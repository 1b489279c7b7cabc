-- 1 times a number is that number.
use Rattle.std.proofs.Common.{ℕ, ◌∙◌, ◌*◌, ◌%◌, ap}
use Rattle.mod_word.proofs.Halves.{word_is}
use Rattle.mod_word.proofs.residues.Modulus.word.Goals as goal

pub returns : goal.returns
returns c =
    let m = c.args.self.now in
    c.times.ensures
    ∙ ap (λ (z : ℕ). m.unit.residue * c.args.x % z) m.unit_is.0
    ∙ word_is m.q m.unit.residue c.args.x m.unit_is.1
