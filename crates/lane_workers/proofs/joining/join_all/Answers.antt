use Rattle.std.proofs.Common.{◌∙◌, sym, ap, subst, refl, ◌+◌, map, drop, get_or, arith}
use Rattle.std.proofs.lemmas.List.Elements.{All-get_or}
use Rattle.session_rules.specs.declared.call.Call.TheVariants as call
use Rattle.session_rules.specs.Courses.{joins}
use Rattle.session_core.specs.Sessions.{Known, IsParty}
use Rattle.session_core.specs.Calls.{known}
use Rattle.lane_workers.specs.Desks.{Fixture, nothing_handed, session_view}
use Rattle.lane_workers.specs.Doing.{BrokeOff}
use Rattle.lane_workers.proofs.Acts.{fixed_are}
use Rattle.lane_workers.proofs.Desks.{turned}
use Rattle.lane_workers.proofs.Going.{if_err, begins, calls_on, stops_on, one_there, none_there}
use Rattle.lane_workers.proofs.joining.join_all.Goals as goal

pub parties-init : goal.parties-init
parties-init g c = record { same = refl; doing = begins (map joins c.args.present.now) (session_view c.args.session.now) }

pub join-requires : goal.join-requires
join-requires g c =
    let n = (known c.args.session.now).params.parties in
    let p = get_or c.args.present.now c.parties.p-index 0 in
    let is_one : IsParty n p = All-get_or (IsParty n) c.args.present.now c.parties.p-index 0 c.parties-test.true c.requires.present in
    record { party = subst (λ (z : Known). IsParty z.params.parties p) (sym c.parties.invariant.same) is_one }

pub parties-preserved : goal.parties-preserved
parties-preserved g c =
    let i = c.parties.invariant in
    let e = c.in_ok-join.ensures in
    let old = c.args.session.now in
    let mid = c.parties.session in
    let new = c.join.new.self in
    let ps = c.args.present.now in
    let k = c.parties.p-index in
    let p = get_or ps k 0 in
    let u = session_view old in
    let v = session_view mid in
    let w = session_view new in
    let there = one_there (map joins ps) joins ps k 0 u v c.parties-test.true i.doing in
    let t = turned mid new _ _ (call.Join p) _ nothing_handed e.called tt in
    record {
      same = ap (λ (z : Fixture). z.known) t.same ∙ i.same;
      doing = calls_on (map joins ps) (map joins (drop (k + 1) ps)) (joins p) (call.Join p) _ nothing_handed _ u v w (fixed_are old mid i.same) there refl refl t.answered;
    }

pub returns-clause-done : goal.returns-clause-done
returns-clause-done g c =
    let ps = c.args.present.now in
    none_there (map joins ps) joins ps c.parties.p-index (session_view c.args.session.now) (session_view c.parties.session) (omega arith) c.parties.invariant.doing

pub returns-in_err-join-clause-stopped : goal.returns-in_err-join-clause-stopped
returns-in_err-join-clause-stopped g c =
    let i = c.parties.invariant in
    let old = c.args.session.now in
    let mid = c.parties.session in
    let new = c.join.new.self in
    let ps = c.args.present.now in
    let k = c.parties.p-index in
    let p = get_or ps k 0 in
    let u = session_view old in
    let v = session_view mid in
    let w = session_view new in
    let there = one_there (map joins ps) joins ps k 0 u v c.parties-test.true i.doing in
    let t = turned mid new _ _ (call.Join p) _ nothing_handed c.in_err-join.ensures.called tt in
    if_err c.from_residual.result _ (BrokeOff (map joins ps) u w) c.from_residual.ensures.1
    (stops_on (map joins ps) (map joins (drop (k + 1) ps)) (joins p) (call.Join p) _ u v w (fixed_are old mid i.same) there refl t.unanswered)
