use Rattle.std.proofs.Common.{◌∙◌, sym, subst, refl, ◌+◌, [], ◌∷◌, map, drop, get_or, arith}
use Rattle.session_rules.specs.Tasks.{gives_at}
use Rattle.lane_workers.specs.Acting.{Acts, Owns}
use Rattle.lane_workers.specs.Desks.{Fixture}
use Rattle.lane_workers.specs.Doing.{BrokeOff}
use Rattle.lane_workers.proofs.Going.{if_err, begins, does_on, stops_in, one_there, none_there}
use Rattle.lane_workers.proofs.Owing.{key_on}
use Rattle.lane_workers.proofs.sending.give_all.Goals as goal

pub places-init : goal.places-init
places-init g c = record { same = refl; doing = begins (map gives_at c.args.places.now) (g.D.Desk.view c.args.desk.now) }

pub bring_input-requires-clause-party : goal.bring_input-requires-clause-party
bring_input-requires-clause-party g c κs within = subst (λ (z : Fixture). Acts g.P.Party z.known c.args.party.now) (sym c.places.invariant.same) c.requires.party

pub bring_input-requires-clause-key : goal.bring_input-requires-clause-key
bring_input-requires-clause-key g c κs within =
    let i = c.places.invariant in
    key_on (g.D.Desk.view c.args.desk.now) (g.D.Desk.view c.places.desk) i.doing.more c.args.key.now i.same i.doing.seen c.requires.key

pub bring_input-requires-clause-own : goal.bring_input-requires-clause-own
bring_input-requires-clause-own g c κs within =
    let number = g.P.Party.number c.args.party.now in
    let place = get_or c.args.places.now c.places.place-index (0, 0) in
    subst (λ (z : Fixture). Owns z.known.setting number place.0 place.1) (sym c.places.invariant.same) (c.requires.own c.places.place-index (0, 0) c.places-test.true)

pub places-preserved : goal.places-preserved
places-preserved g c =
    let i = c.places.invariant in
    let e = c.in_ok-bring_input.ensures in
    let old = g.D.Desk.view c.args.desk.now in
    let mid = g.D.Desk.view c.places.desk in
    let places = c.args.places.now in
    let k = c.places.place-index in
    record {
      same = e.same ∙ i.same;
      doing = does_on (map gives_at places) (gives_at (get_or places k (0, 0)) ∷ []) [] (map gives_at (drop (k + 1) places)) old mid (g.D.Desk.view c.bring_input.new.desk) i.same
          (one_there (map gives_at places) gives_at places k (0, 0) old mid c.places-test.true i.doing) e.done;
    }

pub returns-clause-done : goal.returns-clause-done
returns-clause-done g c =
    none_there (map gives_at c.args.places.now) gives_at c.args.places.now c.places.place-index (g.D.Desk.view c.args.desk.now) (g.D.Desk.view c.places.desk) (omega arith) c.places.invariant.doing

pub returns-in_err-bring_input-clause-stopped : goal.returns-in_err-bring_input-clause-stopped
returns-in_err-bring_input-clause-stopped g c =
    let i = c.places.invariant in
    let old = g.D.Desk.view c.args.desk.now in
    let mid = g.D.Desk.view c.places.desk in
    let new = g.D.Desk.view c.bring_input.new.desk in
    let places = c.args.places.now in
    let k = c.places.place-index in
    if_err c.from_residual.result _ (BrokeOff (map gives_at places) old new) c.from_residual.ensures.1
    (stops_in (map gives_at places) (gives_at (get_or places k (0, 0)) ∷ []) (map gives_at (drop (k + 1) places)) _ old mid new i.same
    (one_there (map gives_at places) gives_at places k (0, 0) old mid c.places-test.true i.doing) c.in_err-bring_input.ensures.stopped)
