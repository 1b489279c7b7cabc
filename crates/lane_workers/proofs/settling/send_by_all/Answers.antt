use Rattle.std.proofs.Common.{◌≡◌, ◌∙◌, sym, ap, subst, refl, ℕ, ◌≤◌, true, [], ◌∷◌, ◌+◌, ◌-◌, false, map, filter, drop, arith}
use Rattle.std.specs.List.{range_with_len}
use Rattle.std.proofs.lemmas.List.{drop_all, drop_more}
use Rattle.share_spec.specs.Sets.{has, members, members_to}
use Rattle.proto_names.proofs.Members.{members_all}
use Rattle.session_rules.specs.Courses.{sends}
use Rattle.session_core.specs.Sessions.{Known}
use Rattle.session_core.specs.Calls.{known, state_of}
use Rattle.lane_workers.specs.Acting.{Acts}
use Rattle.lane_workers.specs.Desks.{Fixture, session_view}
use Rattle.lane_workers.specs.Doing.{Doing, BrokeOff}
use Rattle.lane_workers.proofs.Acts.{fixed_are}
use Rattle.lane_workers.proofs.Going.{if_err, begins, does_on, told_so, stops_in}
use Rattle.lane_workers.proofs.Present.{members_up_to, here_on, away_on}
use Rattle.lane_workers.proofs.settling.send_by_all.Goals as goal
use Rattle.lane_workers.proofs.settling.send_by_all.Goals.{then-has+in_ok-send, else-has}

in_range : (set n : ℕ) → filter (has set) (range_with_len 1 n) ≡ members_to n set
unfolding members_to
in_range set n = refl

pub parties-init : goal.parties-init
parties-init g c =
    let old = c.args.session.now in
    let set = (state_of old).present in
    let n = (known old).params.parties in
    let most : n ≤ 32 = old.standing.params.group.2 in
    let all : n + (32 - n) ≡ 32 = omega (arith, most) in
    let here : filter (has c.present-present.result.bits) (map g.P.Party.number c.args.parties.now) ≡ members set =
    ap (λ (z : ℕ). filter (has z) (map g.P.Party.number c.args.parties.now)) c.present-present.ensures ∙ ap (filter (has set)) c.requires.parties.numbers
    ∙ in_range set n ∙ sym (members_up_to set n (32 - n) old.sound.parties) ∙ ap (λ (z : ℕ). members_to z set) all ∙ sym (members_all set) in
    record { same = refl; doing = told_so (map sends (members set)) (map sends (members set)) _ (session_view old) (session_view old) (ap (map sends) (sym here)) (begins (map sends (members set)) (session_view old)) }

pub send-requires-clause-party : goal.send-requires-clause-party
send-requires-clause-party g c κs within =
    let k = known c.args.session.now in
    subst (λ (z : Known). Acts g.P.Party z c.party-item.result) (sym c.parties.invariant.same)
    (subst (λ z. Acts g.P.Party k z) (sym c.party-item.is) (c.requires.parties.each c.parties.party-index c.party-item.result c.parties-test.true))

pub parties-preserved : goal.parties-preserved
parties-preserved g c =
    let i = c.parties.invariant in
    let old = c.args.session.now in
    let mid = c.parties.session in
    let ps = c.args.parties.now in
    let k = c.parties.party-index in
    let x = c.party-item.result in
    let bits = c.present-present.result.bits in
    let number = g.P.Party.number in
    let ts = map sends (members (state_of old).present) in
    let rest = map sends (filter (has bits) (map number (drop (k + 1) ps))) in
    let n = number x in
    let next : drop k ps ≡ x ∷ drop (k + 1) ps = drop_more ps k x c.parties-test.true ∙ ap (λ z. z ∷ drop (k + 1) ps) (sym c.party-item.is) in
    let doing = subst (λ z. Doing ts (map sends (filter (has bits) (map number z))) (session_view old) (session_view mid)) next i.doing in
    elim c.if-has.branch [
      | then-has+in_ok-send w ↦
          let e = w.in_ok-send.ensures in
          let new = w.send.new.desk in
          let here : has bits n ≡ true = ap (has bits) (sym c.number.ensures) ∙ sym w.if-has.ensures in
          record {
            same = rw w.session-is (ap (λ (z : Fixture). z.known) e.same ∙ i.same);
            doing = rw w.session-is (does_on ts (sends n ∷ []) [] rest (session_view old) (session_view mid) (session_view new) (fixed_are old mid i.same)
                (told_so ts _ (sends n ∷ rest) (session_view old) (session_view mid) (here_on bits n (map number (drop (k + 1) ps)) here) doing) e.done);
          }
      | else-has w ↦
          let away : has bits n ≡ false = ap (has bits) (sym c.number.ensures) ∙ sym w.if-has.ensures in
          record {
            same = rw w.session-is i.same;
            doing = rw w.session-is (told_so ts _ rest (session_view old) (session_view mid) (away_on bits n (map number (drop (k + 1) ps)) away) doing);
          }
    ]

pub returns-clause-done : goal.returns-clause-done
returns-clause-done g c =
    let old = c.args.session.now in
    let mid = c.parties.session in
    let ts = map sends (members (state_of old).present) in
    let none : drop c.parties.party-index c.args.parties.now ≡ [] = drop_all c.parties.party-index c.args.parties.now (omega arith) in
    subst (λ z. Doing ts (map sends (filter (has c.present-present.result.bits) (map g.P.Party.number z))) (session_view old) (session_view mid)) none c.parties.invariant.doing

pub returns-in_err-send-clause-stopped : goal.returns-in_err-send-clause-stopped
returns-in_err-send-clause-stopped g c =
    let i = c.parties.invariant in
    let old = c.args.session.now in
    let mid = c.parties.session in
    let new = c.send.new.desk in
    let ps = c.args.parties.now in
    let k = c.parties.party-index in
    let x = c.party-item.result in
    let bits = c.present-present.result.bits in
    let number = g.P.Party.number in
    let ts = map sends (members (state_of old).present) in
    let rest = map number (drop (k + 1) ps) in
    let next : drop k ps ≡ x ∷ drop (k + 1) ps = drop_more ps k x c.parties-test.true ∙ ap (λ z. z ∷ drop (k + 1) ps) (sym c.party-item.is) in
    let doing = subst (λ z. Doing ts (map sends (filter (has bits) (map number z))) (session_view old) (session_view mid)) next i.doing in
    let here : has bits (number x) ≡ true = ap (has bits) (sym c.number.ensures) ∙ sym c.if-has.ensures in
    if_err c.from_residual.result _ (BrokeOff ts (session_view old) (session_view new)) c.from_residual.ensures.1
    (stops_in ts (sends (number x) ∷ []) (map sends (filter (has bits) rest)) _ (session_view old) (session_view mid) (session_view new) (fixed_are old mid i.same) (told_so ts _ (sends (number x) ∷ map sends (filter (has bits) rest)) (session_view old) (session_view mid) (here_on bits (number x) rest here) doing)
    c.in_err-send.ensures.stopped)
