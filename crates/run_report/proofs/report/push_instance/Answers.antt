-- The digest is looked at where the instance is complete.
use Rattle.run_report.specs.Told.{told_digest, told_instance}
use Rattle.run_report.proofs.Sections.{line_same}
use Rattle.run_report.proofs.report.push_instance.Goals as goal

pub returns : goal.returns
unfolding told_instance
returns c =
    let st = c.args.session.now.standing in
    let i = c.args.instance.now in
    rw (← line_same i c.digest.result (told_digest st c.args.session.now.roll.master i) c.digest.ensures) c.instance_line.ensures.ok
