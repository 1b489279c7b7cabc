-- The text is the report of the script's serial history.
use Rattle.std.proofs.Common.{◌≡◌, subst}
use Rattle.std.specs.Prelude.{IfOk}
use Rattle.session_script.specs.Scripts.{asked}
use Rattle.helper_main.proofs.Session.{report_is}
use Rattle.helper_main.proofs.report.report.Goals as goal

pub returns : goal.returns
returns c =
    let a = asked c.args.script.now in
    subst (λ x. IfOk c.text.result (λ text. text.items ≡ x)) (report_is a c.in_ok-session.session.log.items c.in_ok-session.ensures.log) c.text.ensures
