use Rattle.session_rules.specs.declared.reply.Reply.{Reply}
use Rattle.session_rules.specs.declared.call.Call.TheVariants as call
use Rattle.lane_workers.specs.Desks.{nothing_handed}
use Rattle.lane_workers.proofs.Desks.{turned, nothing}
use Rattle.lane_workers.proofs.desk.SessionDesk.give_back.Goals as goal

pub returns : goal.returns
returns g c = record { turned = turned c.args.self.now c.give_back.new.self c.give_back.result (λ (r : Reply). r) (call.GiveBack c.args.circuit) _ nothing_handed c.give_back.ensures.called (nothing c.give_back.result) }
