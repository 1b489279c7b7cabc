use Rattle.std.proofs.Common.{◌≡◌, ap, refl, [], ◌∷◌, Some, None}
use Rattle.circuit_runner.specs.declared.job.Job.{Job}
use Rattle.session_rules.specs.declared.call.Call.TheVariants as call
use Rattle.session_rules.specs.declared.reply.Reply.TheVariants as reply
use Rattle.session_rules.specs.Tasks.{returns, job}
use Rattle.lane_workers.specs.Desks.{ShowsJob, nothing_handed}
use Rattle.lane_workers.specs.Doing.{BrokeOff, quits}
use Rattle.lane_workers.proofs.Going.{if_err, begins, calls_on, stops_on}
use Rattle.lane_workers.proofs.Asking.{return_owed, no_return_owed}
use Rattle.lane_workers.proofs.Bringing.{at_some}
use Rattle.lane_workers.proofs.serving.quit.Goals as goal

pub returns-in-None-clause-done : goal.returns-in-None-clause-done
returns-in-None-clause-done g c =
    let v = g.D.Desk.view c.args.desk.now in
    let w = g.D.Desk.view c.take.new.self in
    let o = c.in_ok-job.field-0 in
    let a = c.in_ok-job.ensures.turned.answered in
    let e : o.job ≡ None = let x = c.in_ok-job.job-is in let y = c.in-None.is in cc in
    no_return_owed o.reply ShowsJob o v w a (ap job (a.hands.none e))

pub returns-in_ok-give_back-in-Some-clause-done : goal.returns-in_ok-give_back-in-Some-clause-done
returns-in_ok-give_back-in-Some-clause-done g c =
    let v = g.D.Desk.view c.args.desk.now in
    let u = g.D.Desk.view c.take.new.self in
    let w = g.D.Desk.view c.give_back.new.self in
    let t = c.in_ok-job.ensures.turned in
    let o = c.in_ok-job.field-0 in
    let j = c.in-Some.job in
    let e : o.job ≡ Some j = let x = c.in_ok-job.job-is in let y = c.in-Some.is in cc in
    let it : job o.reply ≡ Some j.number = ap job (at_some (λ (z : Job). o.reply ≡ reply.Job z.number) o.job j e t.answered.hands.named) in
    calls_on (quits ∷ []) [] (returns j.number) (call.GiveBack j.number) _ nothing_handed _ v u w t.same (return_owed j.number o.reply ShowsJob o v u t.answered it) refl refl
    c.in_ok-give_back-in-Some.ensures.turned.answered

pub returns-in_err-job-clause-stopped : goal.returns-in_err-job-clause-stopped
returns-in_err-job-clause-stopped g c =
    let v = g.D.Desk.view c.args.desk.now in
    let w = g.D.Desk.view c.take.new.self in
    if_err c.from_residual.result _ (BrokeOff (quits ∷ []) v w) c.from_residual.ensures.1
    (stops_on (quits ∷ []) [] quits call.Take _ v v w refl (begins (quits ∷ []) v) refl c.in_err-job.ensures.turned.unanswered)

pub returns-in_err-give_back-in-Some-clause-stopped : goal.returns-in_err-give_back-in-Some-clause-stopped
returns-in_err-give_back-in-Some-clause-stopped g c =
    let v = g.D.Desk.view c.args.desk.now in
    let u = g.D.Desk.view c.take.new.self in
    let w = g.D.Desk.view c.give_back.new.self in
    let t = c.in_ok-job.ensures.turned in
    let o = c.in_ok-job.field-0 in
    let j = c.in-Some.job in
    let e : o.job ≡ Some j = let x = c.in_ok-job.job-is in let y = c.in-Some.is in cc in
    let it : job o.reply ≡ Some j.number = ap job (at_some (λ (z : Job). o.reply ≡ reply.Job z.number) o.job j e t.answered.hands.named) in
    if_err c.from_residual-in_err-give_back-in-Some.result _ (BrokeOff (quits ∷ []) v w) c.from_residual-in_err-give_back-in-Some.ensures.1
    (stops_on (quits ∷ []) [] (returns j.number) (call.GiveBack j.number) _ v u w t.same (return_owed j.number o.reply ShowsJob o v u t.answered it) refl
    c.in_err-give_back-in-Some.ensures.turned.unanswered)
