use Rattle.std.proofs.Common.{◌∙◌, sym, subst, ℕ, List, [], ◌∷◌, All, map, refl}
use Rattle.session_rules.specs.declared.call.Call.TheVariants as call
use Rattle.session_rules.specs.Tasks.{shares, gives_at}
use Rattle.session_rules.specs.Courses.{sends}
use Rattle.lane_workers.specs.Acting.{Acts, OwnsPlace}
use Rattle.lane_workers.specs.Desks.{Fixture, ShowsKey, known_of}
use Rattle.lane_workers.specs.Doing.{Doing, Did, BrokeOff}
use Rattle.lane_workers.proofs.Going.{if_err, does_on, does_rest, stops, stops_in, stops_rest}
use Rattle.lane_workers.proofs.Asking.{lists_owed, no_lists_owed}
use Rattle.lane_workers.proofs.Owing.{own_listed, none_listed, key_handed, key_on}
use Rattle.lane_workers.proofs.sending.send.Goals as goal
use Rattle.lane_workers.proofs.sending.send.Goals.{in-List+in_ok-share_all+in-None, in-List+in_ok-share_all+in-Some+in_ok-give_all-in-Some, in_default}

pub share_all-requires-clause-party : goal.share_all-requires-clause-party
share_all-requires-clause-party g c κs within =
    subst (λ (z : Fixture). Acts g.P.Party z.known c.args.party.now) (sym c.in_ok-listing.ensures.turned.same) c.requires.party

pub give_all-requires-clause-party : goal.give_all-requires-clause-party
give_all-requires-clause-party g c κs within =
    subst (λ (z : Fixture). Acts g.P.Party z.known c.args.party.now) (sym (c.in_ok-share_all.ensures.same ∙ c.in_ok-listing.ensures.turned.same)) c.requires.party

pub give_all-requires-clause-own : goal.give_all-requires-clause-own
give_all-requires-clause-own g c κs within =
    let t = c.in_ok-listing.ensures.turned in
    let v = g.D.Desk.view c.args.desk.now in
    let u = g.D.Desk.view c.pending.new.self in
    let w = (known_of v).setting in
    let own = own_listed v u c.number.result c.in_ok-listing.listing c.in-List.ids c.in-List.inputs t.answered c.in-List.is in
    subst (λ (z : Fixture). All (OwnsPlace z.known.setting (g.P.Party.number c.args.party.now)) c.as_slice-in-Some.result.now) (sym (c.in_ok-share_all.ensures.same ∙ t.same))
    (subst (λ (z : ℕ). All (OwnsPlace w z) c.as_slice-in-Some.result.now) c.number.ensures
    (subst (λ (z : List (ℕ × ℕ)). All (OwnsPlace w c.number.result) z) (sym c.as_slice-in-Some.ensures) own))

pub give_all-requires-clause-key : goal.give_all-requires-clause-key
give_all-requires-clause-key g c κs within =
    let t = c.in_ok-listing.ensures.turned in
    let e = c.in_ok-share_all.ensures in
    let u = g.D.Desk.view c.pending.new.self in
    let key = c.deref.result.now in
    let handed = key_handed (g.D.Desk.view c.args.desk.now) u (call.Pending c.number.result) c.in_ok-listing.listing c.in-Some.key key t.same t.answered c.in-Some.is c.deref.ensures in
    key_on u (g.D.Desk.view c.share_all.new.desk) e.done.more key e.same e.done.seen handed

pub returns-clause-done : goal.returns-clause-done
returns-clause-done g c =
    let t = c.in_ok-listing.ensures.turned in
    let a = t.answered in
    let v = g.D.Desk.view c.args.desk.now in
    let u = g.D.Desk.view c.pending.new.self in
    let n = c.number.result in
    let p = g.P.Party.number c.args.party.now in
    let ts = sends p ∷ [] in
    let x = c.in_ok-listing.listing in
    let r = x.reply in
    elim c.match-listing.branch [
      | in-List+in_ok-share_all+in-None w ↦
          let e = w.in_ok-share_all.ensures in
          let sh = g.D.Desk.view w.share_all.new.desk in
          let ids = w.in-List.ids in
          let inputs = w.in-List.inputs in
          let none = none_listed v u n x ids inputs a w.in-List.is w.in-None.is in
          let shared = does_on ts (map (shares p) ids) [] (map gives_at inputs) v u sh t.same (lists_owed n p r ids inputs ShowsKey x v u c.number.ensures a w.in-List.is)
          (subst (λ (z : List ℕ). Did (map (shares p) z) u sh) w.as_slice.ensures e.done) in
          rw w.desk-is (subst (λ (z : List (ℕ × ℕ)). Doing ts (map gives_at z) v sh) none shared)
      | in-List+in_ok-share_all+in-Some+in_ok-give_all-in-Some w ↦
          let e = w.in_ok-share_all.ensures in
          let sh = g.D.Desk.view w.share_all.new.desk in
          let new = g.D.Desk.view w.give_all.new.desk in
          let ids = w.in-List.ids in
          let inputs = w.in-List.inputs in
          let shared = does_on ts (map (shares p) ids) [] (map gives_at inputs) v u sh t.same (lists_owed n p r ids inputs ShowsKey x v u c.number.ensures a w.in-List.is)
          (subst (λ (z : List ℕ). Did (map (shares p) z) u sh) w.as_slice.ensures e.done) in
          rw w.desk-is (does_rest ts (map gives_at inputs) v sh new (e.same ∙ t.same) shared
          (subst (λ (z : List (ℕ × ℕ)). Did (map gives_at z) sh new) w.as_slice-in-Some.ensures w.in_ok-give_all-in-Some.ensures.done))
      | in_default w ↦ rw w.desk-is (no_lists_owed n p r ShowsKey x v u c.number.ensures a w.in_default.not-List)
    ]

pub returns-in_err-listing-clause-stopped : goal.returns-in_err-listing-clause-stopped
returns-in_err-listing-clause-stopped g c =
    let v = g.D.Desk.view c.args.desk.now in
    let w = g.D.Desk.view c.pending.new.self in
    let p = g.P.Party.number c.args.party.now in
    if_err c.from_residual.result _ (BrokeOff (sends p ∷ []) v w) c.from_residual.ensures.1
    (stops (sends p) (call.Pending p) _ v w refl c.in_err-listing.ensures.turned.unanswered)

pub returns-in_err-share_all-clause-stopped : goal.returns-in_err-share_all-clause-stopped
returns-in_err-share_all-clause-stopped g c =
    let t = c.in_ok-listing.ensures.turned in
    let v = g.D.Desk.view c.args.desk.now in
    let u = g.D.Desk.view c.pending.new.self in
    let w = g.D.Desk.view c.share_all.new.desk in
    let p = g.P.Party.number c.args.party.now in
    let x = c.in_ok-listing.listing in
    let ids = c.in-List.ids in
    let inputs = c.in-List.inputs in
    let owed = lists_owed c.number.result p x.reply ids inputs ShowsKey x v u c.number.ensures t.answered c.in-List.is in
    if_err c.from_residual-in_err-share_all.result _ (BrokeOff (sends p ∷ []) v w) c.from_residual-in_err-share_all.ensures.1
    (stops_in (sends p ∷ []) (map (shares p) ids) (map gives_at inputs) _ v u w t.same owed
    (subst (λ (z : List ℕ). BrokeOff (map (shares p) z) u w c.in_err-share_all.field-0.0) c.as_slice.ensures c.in_err-share_all.ensures.stopped))

pub returns-in_err-give_all-in-Some-clause-stopped : goal.returns-in_err-give_all-in-Some-clause-stopped
returns-in_err-give_all-in-Some-clause-stopped g c =
    let t = c.in_ok-listing.ensures.turned in
    let e = c.in_ok-share_all.ensures in
    let v = g.D.Desk.view c.args.desk.now in
    let u = g.D.Desk.view c.pending.new.self in
    let sh = g.D.Desk.view c.share_all.new.desk in
    let new = g.D.Desk.view c.give_all.new.desk in
    let p = g.P.Party.number c.args.party.now in
    let ts = sends p ∷ [] in
    let x = c.in_ok-listing.listing in
    let ids = c.in-List.ids in
    let inputs = c.in-List.inputs in
    let owed = lists_owed c.number.result p x.reply ids inputs ShowsKey x v u c.number.ensures t.answered c.in-List.is in
    let shared = does_on ts (map (shares p) ids) [] (map gives_at inputs) v u sh t.same owed (subst (λ (z : List ℕ). Did (map (shares p) z) u sh) c.as_slice.ensures e.done) in
    if_err c.from_residual-in_err-give_all-in-Some.result _ (BrokeOff ts v new) c.from_residual-in_err-give_all-in-Some.ensures.1
    (stops_rest ts (map gives_at inputs) _ v sh new (e.same ∙ t.same) shared
    (subst (λ (z : List (ℕ × ℕ)). BrokeOff (map gives_at z) sh new c.in_err-give_all-in-Some.field-0.0) c.as_slice-in-Some.ensures c.in_err-give_all-in-Some.ensures.stopped))
