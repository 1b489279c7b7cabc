use Rattle.std.proofs.Common.{◌≡◌, ◌∙◌, sym, ap, subst, refl, ℕ, List, [], ◌∷◌}
use Rattle.ring_spec.specs.Pairs.{CipherFits}
use Rattle.draw_spec.specs.Streams.{input_stream}
use Rattle.bfv_spec.specs.Drawn.{drawn_encryption}
use Rattle.param_set.specs.Numbers.{numbers_of}
use Rattle.param_set.specs.declared.params.Params.{Params}
use Rattle.session_rules.specs.declared.call.Call.TheVariants as call
use Rattle.session_rules.specs.Tasks.{gives}
use Rattle.share_spec.specs.Seeds.{seed_in}
use Rattle.session_spec.specs.Settings.{value_at}
use Rattle.session_core.specs.declared.stop.Stop.TheVariants.{NoMemory}
use Rattle.lane_workers.specs.Desks.{nothing_handed, known_of, state_seen}
use Rattle.lane_workers.specs.Doing.{BrokeOff}
use Rattle.lane_workers.proofs.Going.{if_err, calls, stops, lacks}
use Rattle.lane_workers.proofs.Bringing.{input_brought}
use Rattle.lane_workers.proofs.sending.bring_input.Goals as goal

pub returns-in_err-ct-clause-stopped : goal.returns-in_err-ct-clause-stopped
returns-in_err-ct-clause-stopped g c =
    let v = g.D.Desk.view c.args.desk.now in
    let t = gives c.args.circuit c.args.input in
    if_err c.from_residual.result NoMemory (BrokeOff (t ∷ []) v v) c.from_residual.ensures.1
    (lacks t (call.Input c.args.circuit c.args.input) NoMemory v refl refl refl)

pub input-requires-2 : goal.input-requires-2
input-requires-2 g c =
    let v = g.D.Desk.view c.args.desk.now in
    let k = known_of v in
    let p = c.args.ring.now.params in
    let number = g.P.Party.number c.args.party.now in
    let at = c.args.circuit in
    let i = c.args.input in
    let e = c.in_ok-ct.ensures in
    let ct = c.in_ok-ct.ct in
    let seen = g.D.Desk.seen c.args.desk.now in
    let own = c.requires.own in
    record {
      ct = record {
        fits = subst (λ (z : Params). CipherFits z.q z.n ct) c.requires.ring e.fits;
        honest = λ t there.
            let h = c.requires.party.honest t in
            let made = subst (λ (z : List (List ℕ)). ct ≡ drawn_encryption p.q p.n p.t p.err c.args.key.now (value_at k.setting at i) (seed_in z number) (input_stream at i) 0) h.same
            (e.honest (value_at k.setting at i) (h.values at i own.there own.owner) h.tells) in
            record {
              complete = c.requires.key.complete;
              honest = input_brought k.setting k.seeds (state_seen v).instances c.args.key.now at i number ct p (seen.numbers ∙ ap numbers_of (sym c.requires.ring)) (c.requires.key.honest t) own made;
            };
      };
    }

pub returns-in_err-input-clause-stopped : goal.returns-in_err-input-clause-stopped
returns-in_err-input-clause-stopped g c =
    let v = g.D.Desk.view c.args.desk.now in
    let w = g.D.Desk.view c.input-2.new.self in
    let t = gives c.args.circuit c.args.input in
    if_err c.from_residual-in_err-input.result _ (BrokeOff (t ∷ []) v w) c.from_residual-in_err-input.ensures.1
    (stops t (call.Input c.args.circuit c.args.input) _ v w refl c.in_err-input.ensures.turned.unanswered)

pub returns-clause-done : goal.returns-clause-done
returns-clause-done g c =
    let v = g.D.Desk.view c.args.desk.now in
    let w = g.D.Desk.view c.input-2.new.self in
    let r = c.in_ok-input.field-0 in
    calls (gives c.args.circuit c.args.input) (call.Input c.args.circuit c.args.input) r nothing_handed r v w refl refl c.in_ok-input.ensures.turned.answered
