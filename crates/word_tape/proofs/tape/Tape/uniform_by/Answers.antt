-- The four words come as two pairs.
use Rattle.std.proofs.Common.{◌∙◌}
use Rattle.word_tape.proofs.Places.{uniform-by-pairs}
use Rattle.word_tape.proofs.tape.Tape.uniform_by.Goals as goal

pub returns-clause-value : goal.returns-clause-value
returns-clause-value c =
    c.wide.ensures
    ∙ uniform-by-pairs c.args.self.now c.pair-low.new.self c.args.modulus.now.q c.pair-low.result c.pair-high.result c.pair-low.ensures.place c.pair-low.ensures.value c.pair-high.ensures.value
