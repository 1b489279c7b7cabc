use Rattle.session_rules.specs.declared.reply.Reply.{Reply}
use Rattle.session_rules.specs.declared.call.Call.TheVariants as call
use Rattle.lane_workers.specs.Desks.{nothing_handed}
use Rattle.lane_workers.proofs.Desks.{turned, nothing}
use Rattle.lane_workers.proofs.desk.SessionDesk.lose.Goals as goal

pub returns : goal.returns
returns g c = record { turned = turned c.args.self.now c.lose.new.self c.lose.result (λ (r : Reply). r) (call.Lose c.args.p) _ nothing_handed c.lose.ensures.called (nothing c.lose.result) }
