use Rattle.std.proofs.Common.{refl, [], ◌∷◌}
use Rattle.session_rules.specs.declared.call.Call.TheVariants as call
use Rattle.session_rules.specs.Tasks.{finishes}
use Rattle.lane_workers.specs.Desks.{nothing_handed}
use Rattle.lane_workers.proofs.Going.{begins, calls_on, stops_on}
use Rattle.lane_workers.proofs.Finishing.{may_finish_job, Waited, waited_none, waited_by, gives_back}
use Rattle.lane_workers.proofs.working.finish.Goals as goal
use Rattle.lane_workers.proofs.working.finish.Goals.{in-Err, in-Ok+in-Err-finish}

pub finish-requires : goal.finish-requires
finish-requires g c =
    let v = g.D.Desk.view c.args.desk.now in
    record { ct = may_finish_job v c.args.job.now c.in-Ok.ct c.args.ring.now.params (g.D.Desk.seen c.args.desk.now) c.requires.ring c.requires.job c.in-Ok.ensures.value c.in-Ok.ensures.fits }

pub returns-in-NoMemory-clause-stopped : goal.returns-in-NoMemory-clause-stopped
returns-in-NoMemory-clause-stopped g c =
    let v = g.D.Desk.view c.args.desk.now in
    let u = g.D.Desk.view c.match-evaluate.desk in
    let w = g.D.Desk.view c.give_back.new.self in
    let waited : Waited v u = elim c.match-evaluate.branch [
      | in-Err x ↦ rw x.desk-is (waited_none v)
      | in-Ok+in-Err-finish x ↦ rw x.desk-is (waited_by v (g.D.Desk.view x.finish.new.self) _ x.in-Err-finish.ensures.turned.same x.in-Err-finish.ensures.turned.unanswered)
    ] in
    rw c.in-NoMemory.is (gives_back c.args.job.now.number v u w c.give_back.result waited c.give_back.ensures.turned)

pub returns-in-Ok-finish-clause-done : goal.returns-in-Ok-finish-clause-done
returns-in-Ok-finish-clause-done g c =
    let v = g.D.Desk.view c.args.desk.now in
    let w = g.D.Desk.view c.finish.new.self in
    let n = c.args.job.now.number in
    let ts = finishes n ∷ [] in
    calls_on ts [] (finishes n) (call.Finish n) _ nothing_handed _ v v w refl (begins ts v) refl refl c.in-Ok-finish.ensures.turned.answered

pub returns-in_default-clause-stopped : goal.returns-in_default-clause-stopped
returns-in_default-clause-stopped g c =
    let v = g.D.Desk.view c.args.desk.now in
    let n = c.args.job.now.number in
    let ts = finishes n ∷ [] in
    elim c.match-evaluate.branch [
      | in-Err x ↦ absurd (c.in_default.not-NoMemory x.why-is)
      | in-Ok+in-Err-finish x ↦
          let w = g.D.Desk.view x.finish.new.self in
          rw (x.desk-is, x.why-is) (stops_on ts [] (finishes n) (call.Finish n) _ v v w refl (begins ts v) refl x.in-Err-finish.ensures.turned.unanswered)
    ]
