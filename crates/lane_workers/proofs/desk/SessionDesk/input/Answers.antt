use Rattle.session_rules.specs.declared.reply.Reply.{Reply}
use Rattle.session_rules.specs.declared.call.Call.TheVariants as call
use Rattle.lane_workers.specs.Desks.{nothing_handed}
use Rattle.lane_workers.proofs.Desks.{turned, nothing, may_give}
use Rattle.lane_workers.proofs.desk.SessionDesk.input.Goals as goal

pub input-requires : goal.input-requires
input-requires g c = record { ct = may_give c.args.self.now c.args.circuit c.args.input c.args.ct c.requires.ct }

pub returns : goal.returns
returns g c = record { turned = turned c.args.self.now c.input.new.self c.input.result (λ (r : Reply). r) (call.Input c.args.circuit c.args.input) _ nothing_handed c.input.ensures.called (nothing c.input.result) }
