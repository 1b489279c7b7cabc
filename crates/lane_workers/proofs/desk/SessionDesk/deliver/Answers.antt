use Rattle.session_rules.specs.declared.reply.Reply.{Reply}
use Rattle.session_core.specs.Calls.{brings}
use Rattle.lane_workers.specs.Desks.{nothing_handed}
use Rattle.lane_workers.proofs.Desks.{turned, nothing, may_deliver}
use Rattle.lane_workers.proofs.desk.SessionDesk.deliver.Goals as goal

pub deliver-requires : goal.deliver-requires
deliver-requires g c = record { share = may_deliver c.args.self.now c.args.share.now c.requires.share }

pub returns : goal.returns
returns g c = record { turned = turned c.args.self.now c.deliver.new.self c.deliver.result (λ (r : Reply). r) (brings c.args.share.now) _ nothing_handed c.deliver.ensures.called (nothing c.deliver.result) }
