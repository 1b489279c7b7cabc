-- There are at most as many lines as bytes.
use Rattle.session_script.proofs.PieceLemmas.{few_slices}
use Rattle.session_script.specs.Lines.{lines}
use Rattle.std.proofs.Common.{refl, ◌∙◌}
use Rattle.session_script.proofs.lines.lines.Goals as goal

pub returns-clause-few : goal.returns-clause-few
unfolding lines
returns-clause-few c = few_slices c.args.text.now c.without_end.result.items (c.without_end.ensures ∙ rw c.in_ok-pieces.ensures refl)
