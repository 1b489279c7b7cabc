use Rattle.session_rules.specs.declared.reply.Reply.{Reply}
use Rattle.session_rules.specs.declared.call.Call.TheVariants as call
use Rattle.lane_workers.specs.Desks.{nothing_handed}
use Rattle.lane_workers.proofs.Desks.{turned, nothing, may_finish}
use Rattle.lane_workers.proofs.desk.SessionDesk.finish.Goals as goal

pub finish-requires : goal.finish-requires
finish-requires g c = record { ct = may_finish c.args.self.now c.args.circuit c.args.ct c.requires.ct }

pub returns : goal.returns
returns g c = record { turned = turned c.args.self.now c.finish.new.self c.finish.result (λ (r : Reply). r) (call.Finish c.args.circuit) _ nothing_handed c.finish.ensures.called (nothing c.finish.result) }
