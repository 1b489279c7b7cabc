use Rattle.std.proofs.Common.{subst, ℕ, [], ◌∷◌, Some}
use Rattle.session_rules.specs.Courses.{joins, sends}
use Rattle.lane_workers.specs.Desks.{known_of, rules_of, state_seen}
use Rattle.lane_workers.specs.Hands.{in_hand, HandFits}
use Rattle.lane_workers.specs.Doing.{Did, BrokeOff, StoppedLine, loses, works, quits}
use Rattle.lane_workers.proofs.Going.{if_err}
use Rattle.lane_workers.proofs.Lines.{quietly, quietly_stops, gives_nothing}
use Rattle.lane_workers.proofs.Stays.{hand_on}
use Rattle.lane_workers.proofs.serving.serve_line.Goals as goal

pub returns-in_ok-join-in-Join-clause-done : goal.returns-in_ok-join-in-Join-clause-done
returns-in_ok-join-in-Join-clause-done g c =
    let v = g.D.Desk.view c.args.desk.now in
    rw c.in-Join.is (quietly (in_hand (rules_of v) c.args.hand) (joins c.in-Join.p) v (g.D.Desk.view c.join.new.desk) tt c.in_ok-join-in-Join.ensures.done)

pub returns-in_ok-join-in-Join-clause-fits : goal.returns-in_ok-join-in-Join-clause-fits
returns-in_ok-join-in-Join-clause-fits g c =
    let e = c.in_ok-join-in-Join.ensures in
    hand_on (g.D.Desk.view c.args.desk.now) (g.D.Desk.view c.join.new.desk) _ c.args.hand e.same e.done.seen c.requires.hand

pub returns-in_err-join-in-Join-clause-stopped : goal.returns-in_err-join-in-Join-clause-stopped
returns-in_err-join-in-Join-clause-stopped g c =
    let v = g.D.Desk.view c.args.desk.now in
    let w = g.D.Desk.view c.join.new.desk in
    if_err c.from_residual.result _ (StoppedLine c.args.line c.args.hand v w) c.from_residual.ensures.1
    (rw c.in-Join.is (quietly_stops (in_hand (rules_of v) c.args.hand) (joins c.in-Join.p) _ v w tt c.in_err-join-in-Join.ensures.stopped))

pub returns-in_ok-lose-in-Lose-clause-done : goal.returns-in_ok-lose-in-Lose-clause-done
returns-in_ok-lose-in-Lose-clause-done g c =
    let v = g.D.Desk.view c.args.desk.now in
    rw c.in-Lose.is (quietly (in_hand (rules_of v) c.args.hand) (loses c.in-Lose.p) v (g.D.Desk.view c.lose.new.desk) tt c.in_ok-lose-in-Lose.ensures.done)

pub returns-in_ok-lose-in-Lose-clause-fits : goal.returns-in_ok-lose-in-Lose-clause-fits
returns-in_ok-lose-in-Lose-clause-fits g c =
    let e = c.in_ok-lose-in-Lose.ensures in
    hand_on (g.D.Desk.view c.args.desk.now) (g.D.Desk.view c.lose.new.desk) _ c.args.hand e.same e.done.seen c.requires.hand

pub returns-in_err-lose-in-Lose-clause-stopped : goal.returns-in_err-lose-in-Lose-clause-stopped
returns-in_err-lose-in-Lose-clause-stopped g c =
    let v = g.D.Desk.view c.args.desk.now in
    let w = g.D.Desk.view c.lose.new.desk in
    if_err c.from_residual-in_err-lose-in-Lose.result _ (StoppedLine c.args.line c.args.hand v w) c.from_residual-in_err-lose-in-Lose.ensures.1
    (rw c.in-Lose.is (quietly_stops (in_hand (rules_of v) c.args.hand) (loses c.in-Lose.p) _ v w tt c.in_err-lose-in-Lose.ensures.stopped))

pub returns-in_ok-work-in-Work-clause-done : goal.returns-in_ok-work-in-Work-clause-done
returns-in_ok-work-in-Work-clause-done g c =
    let v = g.D.Desk.view c.args.desk.now in
    rw c.in-Work.is (quietly (in_hand (rules_of v) c.args.hand) (works) v (g.D.Desk.view c.work.new.desk) tt c.in_ok-work-in-Work.ensures.done.line)

pub returns-in_ok-work-in-Work-clause-fits : goal.returns-in_ok-work-in-Work-clause-fits
returns-in_ok-work-in-Work-clause-fits g c =
    let e = c.in_ok-work-in-Work.ensures in
    hand_on (g.D.Desk.view c.args.desk.now) (g.D.Desk.view c.work.new.desk) _ c.args.hand e.same e.done.line.seen c.requires.hand

pub returns-in_err-work-in-Work-clause-stopped : goal.returns-in_err-work-in-Work-clause-stopped
returns-in_err-work-in-Work-clause-stopped g c =
    let v = g.D.Desk.view c.args.desk.now in
    let w = g.D.Desk.view c.work.new.desk in
    if_err c.from_residual-in_err-work-in-Work.result _ (StoppedLine c.args.line c.args.hand v w) c.from_residual-in_err-work-in-Work.ensures.1
    (rw c.in-Work.is (quietly_stops (in_hand (rules_of v) c.args.hand) (works) _ v w tt c.in_err-work-in-Work.ensures.line_stopped))

pub returns-in_ok-quit-in-Quit-clause-done : goal.returns-in_ok-quit-in-Quit-clause-done
returns-in_ok-quit-in-Quit-clause-done g c =
    let v = g.D.Desk.view c.args.desk.now in
    rw c.in-Quit.is (quietly (in_hand (rules_of v) c.args.hand) (quits) v (g.D.Desk.view c.quit.new.desk) tt c.in_ok-quit-in-Quit.ensures.done)

pub returns-in_ok-quit-in-Quit-clause-fits : goal.returns-in_ok-quit-in-Quit-clause-fits
returns-in_ok-quit-in-Quit-clause-fits g c =
    let e = c.in_ok-quit-in-Quit.ensures in
    hand_on (g.D.Desk.view c.args.desk.now) (g.D.Desk.view c.quit.new.desk) _ c.args.hand e.same e.done.seen c.requires.hand

pub returns-in_err-quit-in-Quit-clause-stopped : goal.returns-in_err-quit-in-Quit-clause-stopped
returns-in_err-quit-in-Quit-clause-stopped g c =
    let v = g.D.Desk.view c.args.desk.now in
    let w = g.D.Desk.view c.quit.new.desk in
    if_err c.from_residual-in_err-quit-in-Quit.result _ (StoppedLine c.args.line c.args.hand v w) c.from_residual-in_err-quit-in-Quit.ensures.1
    (rw c.in-Quit.is (quietly_stops (in_hand (rules_of v) c.args.hand) (quits) _ v w tt c.in_err-quit-in-Quit.ensures.stopped))

pub returns-in_ok-send-in-Send-clause-done : goal.returns-in_ok-send-in-Send-clause-done
returns-in_ok-send-in-Send-clause-done g c =
    let v = g.D.Desk.view c.args.desk.now in
    let w = g.D.Desk.view c.send.new.desk in
    rw c.in-Send.is (quietly (in_hand (rules_of v) c.args.hand) (sends c.in-Send.p) v w tt
    (subst (λ (z : ℕ). Did (sends z ∷ []) v w) c.party_of-party.ensures.number c.in_ok-send-in-Send.ensures.done))

pub returns-in_ok-send-in-Send-clause-fits : goal.returns-in_ok-send-in-Send-clause-fits
returns-in_ok-send-in-Send-clause-fits g c =
    let e = c.in_ok-send-in-Send.ensures in
    hand_on (g.D.Desk.view c.args.desk.now) (g.D.Desk.view c.send.new.desk) _ c.args.hand e.same e.done.seen c.requires.hand

pub returns-in_err-send-in-Send-clause-stopped : goal.returns-in_err-send-in-Send-clause-stopped
returns-in_err-send-in-Send-clause-stopped g c =
    let v = g.D.Desk.view c.args.desk.now in
    let w = g.D.Desk.view c.send.new.desk in
    if_err c.from_residual-in_err-send-in-Send.result _ (StoppedLine c.args.line c.args.hand v w) c.from_residual-in_err-send-in-Send.ensures.1
    (rw c.in-Send.is (quietly_stops (in_hand (rules_of v) c.args.hand) (sends c.in-Send.p) _ v w tt
    (subst (λ (z : ℕ). BrokeOff (sends z ∷ []) v w c.in_err-send-in-Send.field-0.0) c.party_of-party.ensures.number c.in_err-send-in-Send.ensures.stopped)))

pub returns-in-None-clause-done : goal.returns-in-None-clause-done
returns-in-None-clause-done g c = rw (c.in-Give.is, c.in-None.is) (gives_nothing (g.D.Desk.view c.args.desk.now))

pub returns-in_ok-give-in-Some-clause-fits : goal.returns-in_ok-give-in-Some-clause-fits
returns-in_ok-give-in-Some-clause-fits g c =
    let v = g.D.Desk.view c.args.desk.now in
    let e = c.in_ok-give-in-Some.ensures in
    hand_on v (g.D.Desk.view c.give.new.desk) _ (Some c.in-Some.holding) e.same e.done.seen (subst (HandFits (known_of v) (state_seen v)) c.in-Some.is c.requires.hand)
