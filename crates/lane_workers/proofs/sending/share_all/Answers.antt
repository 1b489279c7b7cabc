use Rattle.std.proofs.Common.{◌∙◌, sym, subst, refl, ◌+◌, [], ◌∷◌, map, drop, get_or, arith}
use Rattle.session_rules.specs.Tasks.{shares}
use Rattle.lane_workers.specs.Acting.{Acts}
use Rattle.lane_workers.specs.Desks.{Fixture}
use Rattle.lane_workers.specs.Doing.{BrokeOff}
use Rattle.lane_workers.proofs.Going.{if_err, begins, does_on, stops_in, one_there, none_there}
use Rattle.lane_workers.proofs.sending.share_all.Goals as goal

pub ids-init : goal.ids-init
ids-init g c = record { same = refl; doing = begins (map (shares (g.P.Party.number c.args.party.now)) c.args.ids.now) (g.D.Desk.view c.args.desk.now) }

pub share-requires-clause-party : goal.share-requires-clause-party
share-requires-clause-party g c κs within = subst (λ (z : Fixture). Acts g.P.Party z.known c.args.party.now) (sym c.ids.invariant.same) c.requires.party

pub ids-preserved : goal.ids-preserved
ids-preserved g c =
    let i = c.ids.invariant in
    let e = c.in_ok-share.ensures in
    let old = g.D.Desk.view c.args.desk.now in
    let mid = g.D.Desk.view c.ids.desk in
    let f = shares (g.P.Party.number c.args.party.now) in
    let ids = c.args.ids.now in
    let k = c.ids.id-index in
    record {
      same = e.same ∙ i.same;
      doing = does_on (map f ids) (f (get_or ids k 0) ∷ []) [] (map f (drop (k + 1) ids)) old mid (g.D.Desk.view c.share.new.desk) i.same
          (one_there (map f ids) f ids k 0 old mid c.ids-test.true i.doing) e.done;
    }

pub returns-clause-done : goal.returns-clause-done
returns-clause-done g c =
    let f = shares (g.P.Party.number c.args.party.now) in
    none_there (map f c.args.ids.now) f c.args.ids.now c.ids.id-index (g.D.Desk.view c.args.desk.now) (g.D.Desk.view c.ids.desk) (omega arith) c.ids.invariant.doing

pub returns-in_err-share-clause-stopped : goal.returns-in_err-share-clause-stopped
returns-in_err-share-clause-stopped g c =
    let i = c.ids.invariant in
    let old = g.D.Desk.view c.args.desk.now in
    let mid = g.D.Desk.view c.ids.desk in
    let new = g.D.Desk.view c.share.new.desk in
    let f = shares (g.P.Party.number c.args.party.now) in
    let ids = c.args.ids.now in
    let k = c.ids.id-index in
    if_err c.from_residual.result _ (BrokeOff (map f ids) old new) c.from_residual.ensures.1
    (stops_in (map f ids) (f (get_or ids k 0) ∷ []) (map f (drop (k + 1) ids)) _ old mid new i.same (one_there (map f ids) f ids k 0 old mid c.ids-test.true i.doing) c.in_err-share.ensures.stopped)
