-- One circuit more is one output more.
use Rattle.std.proofs.Common.{◌≡◌, ◌∙◌, ap₂, ℕ, List, ◌++◌, rules}
use Rattle.session_script.specs.Scripts.{asked}
use Rattle.run_report.specs.Told.{told_output}
use Rattle.run_report.proofs.Sections.{outputs_more}
use Rattle.run_report.proofs.report.push_outputs.Goals as goal

pub outputs-preserved : goal.outputs-preserved
outputs-preserved c =
    let session = c.args.session.now in
    let st = session.standing in
    let master = session.roll.master in
    let number = c.outputs.number in
    let grown : c.push_output.new.text.items ≡ c.outputs.text.items ++ told_output c.name.result.now st master number = search rules in
    grown ∙ ap₂ (λ (bs name : List ℕ). bs ++ told_output name st master number) c.outputs.invariant c.name.ensures
    ∙ outputs_more (asked c.args.script.now) st master c.args.text.now.items number c.requires.setting c.requires.seeds
