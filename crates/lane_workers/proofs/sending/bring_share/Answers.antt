use Rattle.std.proofs.Common.{◌≡◌, ◌∙◌, sym, ap, subst, refl, ℕ, List, [], ◌∷◌, All, length, Some, arith}
use Rattle.ring_spec.specs.Ring.{IsPoly}
use Rattle.param_set.specs.Moduli.{digit_rows}
use Rattle.param_set.specs.Numbers.{Numbers, numbers_of}
use Rattle.param_set.specs.declared.params.Params.{Params}
use Rattle.proto_names.specs.Names.{rows_of}
use Rattle.proto_names.specs.Instances.{instance}
use Rattle.instance_table.specs.Tables.{brief_role}
use Rattle.session_rules.specs.declared.call.Call.{Call}
use Rattle.session_rules.specs.Tasks.{delivers, delivery, share_for}
use Rattle.session_spec.specs.Shares.{share_rows}
use Rattle.session_spec.specs.Outputs.{keys_in, share_of}
use Rattle.session_laws.proofs.Plans.{rules_rows}
use Rattle.session_core.specs.Calls.{brings}
use Rattle.session_core.specs.declared.stop.Stop.TheVariants.{NoMemory}
use Rattle.lane_workers.specs.Desks.{Answered, nothing_handed, known_of, rules_of, state_seen}
use Rattle.lane_workers.specs.Doing.{BrokeOff}
use Rattle.lane_workers.proofs.Going.{if_err, calls, stops, lacks}
use Rattle.lane_workers.proofs.Bringing.{made_rows}
use Rattle.lane_workers.proofs.sending.bring_share.Goals as goal

pub returns-in_err-share-clause-stopped : goal.returns-in_err-share-clause-stopped
returns-in_err-share-clause-stopped g c =
    let v = g.D.Desk.view c.args.desk.now in
    let held = share_for (rules_of v).rows (g.P.Party.number c.args.party.now) c.args.brief.now.id c.args.brief.now.signature in
    if_err c.from_residual.result NoMemory (BrokeOff (delivers held ∷ []) v v) c.from_residual.ensures.1
    (lacks (delivers held) (delivery held) NoMemory v refl refl refl)

pub deliver-requires : goal.deliver-requires
deliver-requires g c =
    let v = g.D.Desk.view c.args.desk.now in
    let k = known_of v in
    let b = c.requires.brief in
    let brief = c.args.brief.now in
    let p = g.P.Party.number c.args.party.now in
    let e = c.in_ok-share.ensures in
    let share = c.in_ok-share.share in
    let seen = g.D.Desk.seen c.args.desk.now in
    record {
      share = record {
        fits = subst (λ (z : Params). All (IsPoly z.q z.n) share.rows) c.requires.ring e.fit;
        few = omega (arith, e.rows ∙ made_rows brief.signature _ b.made.made);
        honest = λ t.
            let h = c.requires.party.honest t in
            let made : share.rows ≡ share_rows k.setting k.seeds (brief_role brief) brief.polys p =
            subst (λ (z : List (List ℕ)). share.rows ≡ share_rows k.setting z (brief_role brief) brief.polys p) h.same
            (e.honest k.setting (seen.numbers ∙ ap numbers_of (sym c.requires.ring)) (sym h.public) h.tells) in
            record {
              item = b.item;
              issued = subst (λ (z : ℕ). instance (state_seen v).instances z ≡ Some b.item) (sym e.id) b.issued;
              honest = λ there long. subst (λ (z : ℕ). share.rows ≡ share_of k.setting k.seeds (keys_in k.setting k.seeds (state_seen v).instances) b.item z) (sym e.party) (made ∙ b.honest t);
            };
      };
    }

pub returns-in_err-deliver-clause-stopped : goal.returns-in_err-deliver-clause-stopped
returns-in_err-deliver-clause-stopped g c =
    let v = g.D.Desk.view c.args.desk.now in
    let w = g.D.Desk.view c.deliver.new.self in
    let held = share_for (rules_of v).rows (g.P.Party.number c.args.party.now) c.args.brief.now.id c.args.brief.now.signature in
    if_err c.from_residual-in_err-deliver.result _ (BrokeOff (delivers held ∷ []) v w) c.from_residual-in_err-deliver.ensures.1
    (stops (delivers held) (delivery held) _ v w refl c.in_err-deliver.ensures.turned.unanswered)

pub returns-clause-done : goal.returns-clause-done
returns-clause-done g c =
    let v = g.D.Desk.view c.args.desk.now in
    let w = g.D.Desk.view c.deliver.new.self in
    let k = known_of v in
    let brief = c.args.brief.now in
    let p = g.P.Party.number c.args.party.now in
    let e = c.in_ok-share.ensures in
    let share = c.in_ok-share.share in
    let seen = g.D.Desk.seen c.args.desk.now in
    let held = share_for (rules_of v).rows p brief.id brief.signature in
    let long : length share.rows ≡ rows_of brief.signature (rules_of v).rows = e.rows
    ∙ ap (λ (z : Numbers). rows_of brief.signature (digit_rows z.q z.digit_bits)) (sym (seen.numbers ∙ ap numbers_of (sym c.requires.ring)))
    ∙ ap (rows_of brief.signature) (sym (rules_rows k.setting)) in
    let it : brings share ≡ delivery held = rw (e.id, e.party, long) refl in
    let r = c.in_ok-deliver.field-0 in
    calls (delivers held) (delivery held) r nothing_handed r v w refl refl (subst (λ (z : Call). Answered v w z r nothing_handed r) it c.in_ok-deliver.ensures.turned.answered)
