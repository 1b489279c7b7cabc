use Rattle.std.proofs.Common.{refl, [], ◌∷◌, map}
use Rattle.share_spec.specs.Sets.{members}
use Rattle.session_rules.specs.Tasks.{exhausts}
use Rattle.session_rules.specs.Courses.{sends, round_tasks}
use Rattle.session_core.specs.Calls.{state_of}
use Rattle.lane_workers.specs.Desks.{session_view}
use Rattle.lane_workers.specs.Doing.{BrokeOff}
use Rattle.lane_workers.proofs.Acts.{fixed_are}
use Rattle.lane_workers.proofs.Going.{if_err, begins, does_on, does_rest, told_so, stops_in, stops_rest}
use Rattle.run_laws.proofs.MoreRounds.{round_is}
use Rattle.lane_workers.proofs.settling.round.Goals as goal

pub returns-clause-done : goal.returns-clause-done
returns-clause-done g c =
    let first = c.args.session.now in
    let old = session_view first in
    let mid = session_view c.send_by_all.new.session in
    let new = session_view c.work_off.new.session in
    let s = state_of first in
    let ts = round_tasks s in
    let a = c.in_ok-send_by_all.ensures in
    let b = c.in_ok-work_off.ensures in
    let us = map sends (members s.present) in
    let start = told_so ts ts _ old old (round_is s) (begins ts old) in
    let sent = does_on ts us [] (exhausts ∷ []) old old mid refl start a.done in
    does_rest ts (exhausts ∷ []) old mid new (fixed_are first c.send_by_all.new.session a.same) sent b.done

pub returns-in_err-send_by_all-clause-stopped : goal.returns-in_err-send_by_all-clause-stopped
returns-in_err-send_by_all-clause-stopped g c =
    let first = c.args.session.now in
    let old = session_view first in
    let new = session_view c.send_by_all.new.session in
    let s = state_of first in
    let ts = round_tasks s in
    if_err c.from_residual.result _ (BrokeOff ts old new) c.from_residual.ensures.1
    (stops_in ts (map sends (members s.present)) (exhausts ∷ []) _ old old new refl (told_so ts ts _ old old (round_is s) (begins ts old)) c.in_err-send_by_all.ensures.stopped)

pub returns-in_err-work_off-clause-stopped : goal.returns-in_err-work_off-clause-stopped
returns-in_err-work_off-clause-stopped g c =
    let first = c.args.session.now in
    let old = session_view first in
    let mid = session_view c.send_by_all.new.session in
    let new = session_view c.work_off.new.session in
    let s = state_of first in
    let ts = round_tasks s in
    let a = c.in_ok-send_by_all.ensures in
    let sent = does_on ts (map sends (members s.present)) [] (exhausts ∷ []) old old mid refl (told_so ts ts _ old old (round_is s) (begins ts old)) a.done in
    if_err c.from_residual-in_err-work_off.result _ (BrokeOff ts old new) c.from_residual-in_err-work_off.ensures.1
    (stops_rest ts (exhausts ∷ []) _ old mid new (fixed_are first c.send_by_all.new.session a.same) sent c.in_err-work_off.ensures.stopped)
