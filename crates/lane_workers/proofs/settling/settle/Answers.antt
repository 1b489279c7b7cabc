use Rattle.std.proofs.Common.{◌≡◌, ◌∙◌, sym, ap, subst, refl, ◌+◌, ◌-◌, true, false, arith}
use Rattle.std.specs.List.{list_all}
use Rattle.session_rules.specs.Courses.{is_over, is_settled, rounds}
use Rattle.session_core.specs.Sessions.{Known}
use Rattle.session_core.specs.Calls.{state_of}
use Rattle.lane_workers.specs.Acting.{AreParties}
use Rattle.lane_workers.specs.Doing.{StoppedSettling, rules_for, state_behind}
use Rattle.lane_workers.proofs.Logs.{acted_none}
use Rattle.lane_workers.proofs.Going.{if_err}
use Rattle.lane_workers.proofs.Settled.{round_on, round_off, rounds_over, rounds_done, rests}
use Rattle.run_laws.proofs.MoreRounds.{SoFar, none_yet, over_is}
use Rattle.lane_workers.proofs.settling.settle.Goals as goal

pub rounds-init : goal.rounds-init
rounds-init g c =
    let old = c.args.session.now in
    record { same = refl; made = acted_none (SoFar rounds (rules_for old) (state_behind old)) old.log.items (none_yet (rules_for old) (state_behind old)) }

pub round-requires-clause-parties : goal.round-requires-clause-parties
round-requires-clause-parties g c κs within =
    subst (λ (z : Known). AreParties g.P.Party z c.args.parties.now) (sym c.rounds.invariant.same) c.requires.parties

pub returns-then-is_settled-clause-done : goal.returns-then-is_settled-clause-done
returns-then-is_settled-clause-done g c =
    let i = c.rounds.invariant in
    let old = c.args.session.now in
    let mid = c.rounds.session in
    let over : is_settled (state_of mid) ≡ true = sym (over_is (state_of mid)) ∙ ap (list_all is_over) (sym c.circuit_states.ensures) ∙ sym c.if-is_settled.ensures in
    rounds_over (6 - c.rounds.counter) old mid i.same mid.state_is over i.made

pub rounds-preserved : goal.rounds-preserved
rounds-preserved g c =
    let i = c.rounds.invariant in
    let e = c.in_ok-round.ensures in
    let old = c.args.session.now in
    let mid = c.rounds.session in
    let tested : list_all is_over c.circuit_states.result.now ≡ false = sym c.is_settled.ensures ∙ c.if-is_settled.false in
    let undone : is_settled (state_of mid) ≡ false = sym (over_is (state_of mid)) ∙ ap (list_all is_over) (sym c.circuit_states.ensures) ∙ tested in
    record {
      same = e.same ∙ i.same;
      made = round_on (6 - c.rounds.counter) (6 - (c.rounds.counter + 1)) old mid c.round.new.session (let x = c.rounds-test.true in omega (arith, x)) i.same mid.state_is undone i.made e.done;
    }

pub returns-clause-done : goal.returns-clause-done
returns-clause-done g c =
    rounds_done (6 - c.rounds.counter) c.args.session.now c.rounds.session (let x = c.rounds-test.false in omega (arith, x)) c.rounds.invariant.made

pub returns-then-is_settled-clause-none_opened : goal.returns-then-is_settled-clause-none_opened
returns-then-is_settled-clause-none_opened g c =
    let old = c.args.session.now in
    let mid = c.rounds.session in
    (rests old mid c.rounds.invariant.same old.state_is mid.state_is mid.legal old.standing.params.group.0 (returns-then-is_settled-clause-done g c)).none_opened

pub returns-then-is_settled-clause-none_ready : goal.returns-then-is_settled-clause-none_ready
returns-then-is_settled-clause-none_ready g c =
    let old = c.args.session.now in
    let mid = c.rounds.session in
    (rests old mid c.rounds.invariant.same old.state_is mid.state_is mid.legal old.standing.params.group.0 (returns-then-is_settled-clause-done g c)).none_ready

pub returns-then-is_settled-clause-answered : goal.returns-then-is_settled-clause-answered
returns-then-is_settled-clause-answered g c =
    let old = c.args.session.now in
    let mid = c.rounds.session in
    (rests old mid c.rounds.invariant.same old.state_is mid.state_is mid.legal old.standing.params.group.0 (returns-then-is_settled-clause-done g c)).answered

pub returns-clause-none_opened : goal.returns-clause-none_opened
returns-clause-none_opened g c =
    let old = c.args.session.now in
    let mid = c.rounds.session in
    (rests old mid c.rounds.invariant.same old.state_is mid.state_is mid.legal old.standing.params.group.0 (returns-clause-done g c)).none_opened

pub returns-clause-none_ready : goal.returns-clause-none_ready
returns-clause-none_ready g c =
    let old = c.args.session.now in
    let mid = c.rounds.session in
    (rests old mid c.rounds.invariant.same old.state_is mid.state_is mid.legal old.standing.params.group.0 (returns-clause-done g c)).none_ready

pub returns-clause-answered : goal.returns-clause-answered
returns-clause-answered g c =
    let old = c.args.session.now in
    let mid = c.rounds.session in
    (rests old mid c.rounds.invariant.same old.state_is mid.state_is mid.legal old.standing.params.group.0 (returns-clause-done g c)).answered

pub returns-in_err-round-clause-stopped : goal.returns-in_err-round-clause-stopped
returns-in_err-round-clause-stopped g c =
    let i = c.rounds.invariant in
    let old = c.args.session.now in
    let mid = c.rounds.session in
    let new = c.round.new.session in
    let tested : list_all is_over c.circuit_states.result.now ≡ false = sym c.is_settled.ensures ∙ c.if-is_settled.false in
    let undone : is_settled (state_of mid) ≡ false = sym (over_is (state_of mid)) ∙ ap (list_all is_over) (sym c.circuit_states.ensures) ∙ tested in
    if_err c.from_residual.result _ (StoppedSettling old new) c.from_residual.ensures.1
    (round_off (6 - c.rounds.counter) (6 - (c.rounds.counter + 1)) _ old mid new (let x = c.rounds-test.true in omega (arith, x)) i.same mid.state_is undone i.made c.in_err-round.ensures.stopped)
