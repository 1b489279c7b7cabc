-- The pieces between spaces, as `split` gives them, without those that are no word.
use Rattle.std.proofs.Common.{rules, tests}
use Rattle.std.proofs.lemmas.Iterator.Consumers.{map_from_collect, YieldsList-at, YieldsList-from_filter}
use Rattle.std.proofs.lemmas.Iterator.Splits.{YieldsList-from_slice_split}
use Rattle.session_script.specs.Words.{parts_at}
use Rattle.session_script.specs.Lines.{words, is_word}
use Rattle.session_script.proofs.lines.words.Goals as goal

pub returns : goal.returns
unfolding parts_at words
returns c =
    map_from_collect _ c.collect.ensures.ran
    (YieldsList-from_filter _ is_word
    (YieldsList-at c.filter.ensures.source
    (YieldsList-from_slice_split _ _ c.args.line.now c.split.ensures.rest c.split.ensures.done c.split.ensures.closure (λ x r q k. search (rules, tests))))
    c.filter.ensures.closure (λ x r q k. search (rules, tests)))
