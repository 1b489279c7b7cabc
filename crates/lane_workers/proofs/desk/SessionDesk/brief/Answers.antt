use Rattle.session_state.specs.declared.handed.Briefing.{Briefing}
use Rattle.session_rules.specs.declared.call.Call.TheVariants as call
use Rattle.lane_workers.specs.Desks.{ShowsBrief}
use Rattle.lane_workers.proofs.Desks.{turned, if_ok_weaker, shows_brief}
use Rattle.lane_workers.proofs.desk.SessionDesk.brief.Goals as goal

pub returns : goal.returns
returns g c = record { turned = turned c.args.self.now c.brief.new.self c.brief.result (λ (r : Briefing). r.reply) (call.Brief c.args.id) _ (ShowsBrief c.args.id) c.brief.ensures.called (if_ok_weaker c.brief.result _ _ (shows_brief c.args.id _ _ _) c.brief.ensures.brief) }
