use Rattle.session_state.specs.declared.handed.Listing.{Listing}
use Rattle.session_rules.specs.declared.call.Call.TheVariants as call
use Rattle.lane_workers.specs.Desks.{ShowsKey}
use Rattle.lane_workers.proofs.Desks.{turned, if_ok_weaker, shows_key}
use Rattle.lane_workers.proofs.desk.SessionDesk.pending.Goals as goal

pub returns : goal.returns
returns g c = record { turned = turned c.args.self.now c.pending.new.self c.pending.result (λ (r : Listing). r.reply) (call.Pending c.args.p) _ ShowsKey c.pending.ensures.called (if_ok_weaker c.pending.result _ _ (shows_key _ _ _) c.pending.ensures.key) }
