-- The usage line is for words of no work.
use Rattle.helper_main.specs.declared.work.Work.TheVariants.{Run, Check}
use Rattle.helper_main.proofs.words.run_words.Goals as goal

pub returns-then-are_of_run-clause-usage : goal.returns-then-are_of_run-clause-usage
returns-then-are_of_run-clause-usage g c = λ none. absurd (none Run (c.are_of_run.ensures.0 c.if-are_of_run.true))

pub returns-then-are_of_check-clause-usage : goal.returns-then-are_of_check-clause-usage
returns-then-are_of_check-clause-usage g c = λ none. absurd (none Check (c.are_of_check.ensures.0 c.if-are_of_check.true))
