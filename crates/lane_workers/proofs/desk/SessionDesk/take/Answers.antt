use Rattle.session_state.specs.declared.handed.Taking.{Taking}
use Rattle.session_rules.specs.declared.call.Call.TheVariants as call
use Rattle.lane_workers.specs.Desks.{ShowsJob}
use Rattle.lane_workers.proofs.Desks.{turned, if_ok_weaker, shows_job}
use Rattle.lane_workers.proofs.desk.SessionDesk.take.Goals as goal

pub returns : goal.returns
returns g c = record { turned = turned c.args.self.now c.take.new.self c.take.result (λ (r : Taking). r.reply) call.Take _ ShowsJob c.take.ensures.called (if_ok_weaker c.take.result _ _ (shows_job _ _ _) c.take.ensures.job) }
