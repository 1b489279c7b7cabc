use Rattle.std.proofs.Common.{◌≡◌, ◌∙◌, sym, ap, refl, [], ◌∷◌, Some, None}
use Rattle.circuit_runner.specs.declared.job.Job.{Job}
use Rattle.session_rules.specs.declared.call.Call.TheVariants as call
use Rattle.session_rules.specs.declared.reply.Reply.TheVariants as reply
use Rattle.session_rules.specs.Tasks.{finishes, exhausts, job}
use Rattle.lane_workers.specs.Desks.{Fixture, ShowsJob}
use Rattle.lane_workers.specs.Doing.{BrokeOff, works}
use Rattle.lane_workers.proofs.Going.{if_err, begins, does_on, does_rest, stops_on, stops_in, stops_rest}
use Rattle.lane_workers.proofs.Asking.{job_owed, no_job_owed, work_owed, no_work_owed}
use Rattle.lane_workers.proofs.Bringing.{at_some}
use Rattle.lane_workers.proofs.Finishing.{job_taken}
use Rattle.lane_workers.proofs.Idling.{alone_fewer}
use Rattle.lane_workers.proofs.working.work.Goals as goal

pub finish-requires-clause-ring : goal.finish-requires-clause-ring
finish-requires-clause-ring g c = c.requires.ring ∙ ap (λ (z : Fixture). z.known.params) (sym c.in_ok-job.ensures.turned.same)

pub finish-requires-clause-job : goal.finish-requires-clause-job
finish-requires-clause-job g c =
    let v = g.D.Desk.view c.args.desk.now in
    let u = g.D.Desk.view c.take.new.self in
    let t = c.in_ok-job.ensures.turned in
    let o = c.in_ok-job.field-0 in
    let j = c.in-Some.job in
    let e : o.job ≡ Some j = let x = c.in_ok-job.job-is in let y = c.in-Some.is in cc in
    job_taken v u o j t.same t.answered e

pub returns-in-None-clause-done : goal.returns-in-None-clause-done
returns-in-None-clause-done g c =
    let v = g.D.Desk.view c.args.desk.now in
    let u = g.D.Desk.view c.take.new.self in
    let o = c.in_ok-job.field-0 in
    let a = c.in_ok-job.ensures.turned.answered in
    let e : o.job ≡ None = let x = c.in_ok-job.job-is in let y = c.in-None.is in cc in
    let none = ap job (a.hands.none e) in
    record { does = no_job_owed o.reply ShowsJob o v u a none; line = no_work_owed o.reply ShowsJob o v u a none; fewer = λ alone never. cc }

pub returns-in_ok-finish-in-Some-clause-done : goal.returns-in_ok-finish-in-Some-clause-done
returns-in_ok-finish-in-Some-clause-done g c =
    let v = g.D.Desk.view c.args.desk.now in
    let u = g.D.Desk.view c.take.new.self in
    let w = g.D.Desk.view c.finish.new.desk in
    let t = c.in_ok-job.ensures.turned in
    let d = c.in_ok-finish-in-Some.ensures in
    let o = c.in_ok-job.field-0 in
    let j = c.in-Some.job in
    let n = j.number in
    let e : o.job ≡ Some j = let x = c.in_ok-job.job-is in let y = c.in-Some.is in cc in
    let it : job o.reply ≡ Some n = ap job (at_some (λ (z : Job). o.reply ≡ reply.Job z.number) o.job j e t.answered.hands.named) in
    record {
      does = does_on (exhausts ∷ []) (finishes n ∷ []) [] (exhausts ∷ []) v u w t.same (job_owed n o.reply ShowsJob o v u t.answered it) d.done;
      line = does_rest (works ∷ []) (finishes n ∷ []) v u w t.same (work_owed n o.reply ShowsJob o v u t.answered it) d.done;
      fewer = λ alone more. alone_fewer v u w n o alone t.same (d.same ∙ t.same) t.answered it d.done;
    }

pub returns-in_err-job-clause-stopped : goal.returns-in_err-job-clause-stopped
returns-in_err-job-clause-stopped g c =
    let v = g.D.Desk.view c.args.desk.now in
    let w = g.D.Desk.view c.take.new.self in
    if_err c.from_residual.result _ (BrokeOff (exhausts ∷ []) v w) c.from_residual.ensures.1
    (stops_on (exhausts ∷ []) [] exhausts call.Take _ v v w refl (begins (exhausts ∷ []) v) refl c.in_err-job.ensures.turned.unanswered)

pub returns-in_err-job-clause-line_stopped : goal.returns-in_err-job-clause-line_stopped
returns-in_err-job-clause-line_stopped g c =
    let v = g.D.Desk.view c.args.desk.now in
    let w = g.D.Desk.view c.take.new.self in
    if_err c.from_residual.result _ (BrokeOff (works ∷ []) v w) c.from_residual.ensures.1
    (stops_on (works ∷ []) [] works call.Take _ v v w refl (begins (works ∷ []) v) refl c.in_err-job.ensures.turned.unanswered)

pub returns-in_err-finish-in-Some-clause-stopped : goal.returns-in_err-finish-in-Some-clause-stopped
returns-in_err-finish-in-Some-clause-stopped g c =
    let v = g.D.Desk.view c.args.desk.now in
    let u = g.D.Desk.view c.take.new.self in
    let w = g.D.Desk.view c.finish.new.desk in
    let t = c.in_ok-job.ensures.turned in
    let o = c.in_ok-job.field-0 in
    let j = c.in-Some.job in
    let e : o.job ≡ Some j = let x = c.in_ok-job.job-is in let y = c.in-Some.is in cc in
    let it : job o.reply ≡ Some j.number = ap job (at_some (λ (z : Job). o.reply ≡ reply.Job z.number) o.job j e t.answered.hands.named) in
    if_err c.from_residual-in_err-finish-in-Some.result _ (BrokeOff (exhausts ∷ []) v w) c.from_residual-in_err-finish-in-Some.ensures.1
    (stops_in (exhausts ∷ []) (finishes j.number ∷ []) (exhausts ∷ []) _ v u w t.same (job_owed j.number o.reply ShowsJob o v u t.answered it) c.in_err-finish-in-Some.ensures.stopped)

pub returns-in_err-finish-in-Some-clause-line_stopped : goal.returns-in_err-finish-in-Some-clause-line_stopped
returns-in_err-finish-in-Some-clause-line_stopped g c =
    let v = g.D.Desk.view c.args.desk.now in
    let u = g.D.Desk.view c.take.new.self in
    let w = g.D.Desk.view c.finish.new.desk in
    let t = c.in_ok-job.ensures.turned in
    let o = c.in_ok-job.field-0 in
    let j = c.in-Some.job in
    let e : o.job ≡ Some j = let x = c.in_ok-job.job-is in let y = c.in-Some.is in cc in
    let it : job o.reply ≡ Some j.number = ap job (at_some (λ (z : Job). o.reply ≡ reply.Job z.number) o.job j e t.answered.hands.named) in
    if_err c.from_residual-in_err-finish-in-Some.result _ (BrokeOff (works ∷ []) v w) c.from_residual-in_err-finish-in-Some.ensures.1
    (stops_rest (works ∷ []) (finishes j.number ∷ []) _ v u w t.same (work_owed j.number o.reply ShowsJob o v u t.answered it) c.in_err-finish-in-Some.ensures.stopped)
