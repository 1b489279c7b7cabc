-- What each accepted script keeps, and the order in which its statements stand.
use Rattle.std.proofs.Common.{ap, ◌∙◌}
use Rattle.std.proofs.lemmas.Result.{IfOk-weaker}
use Rattle.session_script.specs.Words.{texts}
use Rattle.session_script.specs.Scripts.{asked}
use Rattle.session_script.proofs.KeptLemmas.{accepted}
use Rattle.session_script.proofs.SectionLaws.{sections}
use Rattle.session_script.proofs.language.read_script.Goals as goal

pub returns-clause-accepted : goal.returns-clause-accepted
returns-clause-accepted c = IfOk-weaker c.read_lines.result _ _ (λ s spelled. accepted _ (asked s) spelled) c.read_lines.ensures.ok

pub returns-clause-sections : goal.returns-clause-sections
returns-clause-sections c =
    let cut = ap texts c.deref.ensures.value ∙ c.in_ok-lines.ensures.lines in
    IfOk-weaker c.read_lines.result _ _ (λ s spelled. sections _ _ (asked s) cut spelled) c.read_lines.ensures.ok
