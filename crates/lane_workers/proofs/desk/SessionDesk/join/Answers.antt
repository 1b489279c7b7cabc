use Rattle.session_rules.specs.declared.reply.Reply.{Reply}
use Rattle.session_rules.specs.declared.call.Call.TheVariants as call
use Rattle.lane_workers.specs.Desks.{nothing_handed}
use Rattle.lane_workers.proofs.Desks.{turned, nothing}
use Rattle.lane_workers.proofs.desk.SessionDesk.join.Goals as goal

pub returns : goal.returns
returns g c = record { turned = turned c.args.self.now c.join.new.self c.join.result (λ (r : Reply). r) (call.Join c.args.p) _ nothing_handed c.join.ensures.called (nothing c.join.result) }
