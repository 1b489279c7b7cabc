-- What a share meets; that keys and first rounds stay; and who has sent to a complete instance.
use Rattle.std.proofs.Common.{◌≡◌, ◌≢◌, ◌∙◌, sym, ap, subst, refl, ℕ, ◌<◌, Bool, true, false, List, ◌∷◌, length, get_or, Contains, Some, arith}
use Rattle.std.specs.Prelude.{if◌then◌else◌, nat_eq}
use Rattle.std.proofs.lemmas.Bool.{eq-eqb, ne_eqb}
use Rattle.std.proofs.lemmas.List.Elements.{Contains-get_or}
use Rattle.share_spec.specs.Sets.{has, count}
use Rattle.proto_names.specs.Names.{rows_of, is_void}
use Rattle.proto_names.specs.Instances.{instance, is_done, missing, with_share, counted_at, after_share}
use Rattle.proto_names.specs.declared.sets.PartySet.{PartySet}
use Rattle.proto_names.specs.declared.instance.Instance.{Instance}
use Rattle.proto_names.specs.declared.instance.Stage.{Stage}
use Rattle.proto_names.specs.declared.instance.Stage.TheVariants.{Opened, Complete, Void}
use Rattle.session_rules.specs.declared.call.Call.{Call}
use Rattle.session_rules.specs.declared.call.Call.TheVariants as call
use Rattle.session_rules.specs.declared.call.Entry.{Entry}
use Rattle.session_rules.specs.declared.reply.Reply.{Reply}
use Rattle.session_rules.specs.declared.reply.Reply.TheVariants as reply
use Rattle.session_rules.specs.declared.deed.Deed.{Deed}
use Rattle.session_rules.specs.declared.deed.Deed.TheVariants.{Nothing, Joins, Loses, Counts, Gives, Turns}
use Rattle.session_rules.specs.declared.state.CircuitState.TheVariants.{Refused, Idle, Taken, Evaluated, Answered}
use Rattle.session_rules.specs.declared.fixed.Fixed.{Fixed}
use Rattle.session_rules.specs.States.{State, has_done}
use Rattle.session_rules.specs.Deeds.{is_last, changed, done}
use Rattle.session_rules.specs.Steps.{says, does, deliver, by_stage, accepted, counted, judge, step}
use Rattle.session_rules.specs.Histories.{after, replayed, state_after}
use Rattle.session_rules.specs.Facts.{IsSameLater, IsLater, Kept, TakesPart, SharesAreWanted, SharesAreCountedOnce, ShapesAreRefused, CompleteOnesLackNone, CompleteOnesHaveAll, KeysStay, FirstRoundsStay, HasAll, CompletedOnesHaveAll}
use Rattle.session_rules.specs.Allowed.{Allows}
use Rattle.session_rules.proofs.Judged.{judged}
use Rattle.session_rules.proofs.Contained.{contains_map, any_true, any_from}
use Rattle.session_rules.proofs.Marks.{IsDone, done_is, done_from, instance_within, instance_id, found, one_number, complete_lives}
use Rattle.session_rules.proofs.PartySets.{nobody_outside, same_sets}
use Rattle.session_rules.proofs.Shares.{lacking_opened}
use Rattle.session_rules.proofs.Later.{later_transitive}
use Rattle.session_rules.proofs.Keeps.{waits, deed_next, done_next, after_next, step_next, state_kept}
use Rattle.session_rules.proofs.Runs.{states_lead_on, ends_legal}

-- ---- a share

at_stage : (f : Fixed) (i : Instance) (p rows : ℕ) → (stage : Stage) → is_void stage ≡ false → by_stage f i p rows stage ≡ accepted f i p rows
unfolding by_stage
at_stage f i p rows Opened h = refl
at_stage f i p rows Complete h = refl
at_stage f i p rows (Void by) h = cc

delivered : (f : Fixed) (s : State) (id p rows : ℕ) (i : Instance) → TakesPart s id p i → deliver f s id p rows ≡ accepted f i p rows
unfolding deliver
delivered f s id p rows i t = rw (t.issued, deliver) (rw (t.member) (at_stage f i p rows i.stage t.lives))

right_length : (f : Fixed) (i : Instance) (p : ℕ) → has i.sent.bits p ≡ false → accepted f i p (rows_of i.signature f.rows) ≡ does (counted p i) (Counts i p)
unfolding accepted
right_length f i p unsent = rw (unsent, eq-eqb (rows_of i.signature f.rows) (rows_of i.signature f.rows) refl) refl

pub shares_are_wanted : SharesAreWanted
shares_are_wanted f s id p i k t unsent = (
  lacking_opened f s.present i p (k.sound i (instance_within s.instances id i t.issued)) t.lives t.member unsent,
  delivered f s id p (rows_of i.signature f.rows) i t ∙ right_length f i p unsent,
)

wrong_length : (f : Fixed) (i : Instance) (p rows : ℕ) → has i.sent.bits p ≡ false → rows_of i.signature f.rows ≢ rows → accepted f i p rows ≡ says (reply.Shape (rows_of i.signature f.rows) rows)
unfolding accepted
wrong_length f i p rows unsent other = rw (unsent, ne_eqb (rows_of i.signature f.rows) rows other) refl

pub shapes_are_refused : ShapesAreRefused
shapes_are_refused f s id p rows i t unsent other = delivered f s id p rows i t ∙ wrong_length f i p rows unsent other

repeated : (f : Fixed) (i : Instance) (p rows : ℕ) → has i.sent.bits p ≡ true → accepted f i p rows ≡ says reply.Repeat
unfolding accepted
repeated f i p rows sent = rw sent refl

pub shares_are_counted_once : SharesAreCountedOnce
shares_are_counted_once f s id p rows i t sent = delivered f s id p rows i t ∙ repeated f i p rows sent

pub complete_ones_lack_none : CompleteOnesLackNone
complete_ones_lack_none f s id p rows i k t complete =
    let sound = k.sound i (instance_within s.instances id i t.issued) in
    shares_are_counted_once f s id p rows i t (nobody_outside i.set.bits i.sent.bits p (sound.complete complete) t.member)

-- ---- a complete instance

pub complete_ones_have_all : CompleteOnesHaveAll
complete_ones_have_all f s i k m complete =
    let x = k.sound i m in
    ap (λ (z : ℕ). record { bits = z }) (same_sets i.sent.bits i.set.bits x.sent x.set x.senders (λ p. nobody_outside i.set.bits i.sent.bits p (x.complete complete)))

-- ---- what stays complete

pub keys_stay : KeysStay
unfolding has_done
keys_stay s t σ l other h =
    let x = any_true (is_done σ) s.instances h in
    let i = x.item in
    let d = done_is σ i x.passes in
    let place = x.within.0 in
    let below : place < length s.instances = x.within.1 in
    let longer = l.issued in
    let now = get_or t.instances place i in
    let same : IsSameLater i now = subst (λ (z : Instance). IsSameLater z now) x.within.2 (l.same place i below) in
    let done : IsDone σ now = record { signature = same.signature ∙ d.signature; complete = same.complete (λ e. other (sym d.signature ∙ e)) d.complete } in
    any_from (is_done σ) t.instances now (Contains-get_or t.instances place i (omega arith)) (done_from σ now done)

pub first_rounds_stay : FirstRoundsStay
first_rounds_stay f s es second first d k a =
    let both = after_next f s es k in
    let t = after f s es in
    let l = both.1 in
    let longer = l.issued in
    let w = a.within in
    let b = a.below in
    let now = get_or t.instances second d in
    let its = get_or t.instances first d in
    let m : Contains t.instances now = Contains-get_or t.instances second d (omega arith) in
    let n : Contains t.instances its = Contains-get_or t.instances first d (omega arith) in
    let x = l.same second d w in
    let y = l.same first d b in
    let complete : now.stage ≡ Complete = x.complete (λ e. let mark = a.signature in cc) a.complete in
    let h = both.0.rounds now m (x.signature ∙ a.signature) (complete_lives now complete) in
    let ids : h.first.id ≡ its.id = h.id ∙ x.round1 ∙ a.round1 ∙ sym y.id in
    let it : h.first ≡ its = one_number t.instances h.first its both.0.numbered h.issued n ids in
    subst (λ (z : Instance). z.stage ≡ Complete) it h.complete

-- ---- the entry that completes an instance

-- whoever has all has all later
all_later : (f : Fixed) (s t : State) (id : ℕ) (i : Instance) → Kept f s → Kept f t → IsLater s t → Contains s.instances i → i.id ≡ id → i.stage ≡ Complete → HasAll f t id
all_later f s t id i k kept later m e complete =
    let at = m.0 in
    let less = m.1 in
    let longer = later.issued in
    let now = get_or t.instances at i in
    let n : Contains t.instances now = Contains-get_or t.instances at i (omega arith) in
    let same : IsSameLater i now = subst (λ (z : Instance). IsSameLater z now) m.2 (later.same at i less) in
    record {
      item = now;
      issued = subst (λ (z : ℕ). instance t.instances z ≡ Some now) (same.id ∙ e) (found t.instances now kept.numbered n);
      sent = same.closed (λ opened. let c = complete in cc) ∙ complete_ones_have_all f s i k m complete ∙ sym same.set;
      parties = ap (λ (z : PartySet). count z.bits) same.set ∙ (k.sound i m).parties;
      answered = λ c its. later.answered c ((k.decrypts i m).complete c (sym same.signature ∙ its) complete);
    }

last_complete : (p : ℕ) (i : Instance) → is_last p i ≡ true → (with_share p i).stage ≡ Complete
unfolding with_share
last_complete p i h = rw h refl

share_id : (p : ℕ) (i : Instance) → (with_share p i).id ≡ i.id
unfolding with_share
share_id p i = refl

counted_here : (s : State) (i : Instance) (p : ℕ) → Contains s.instances i → Contains (changed (Counts i p) s).instances (with_share p i)
unfolding changed after_share
counted_here s i p m =
    let its : counted_at i.id p i ≡ with_share p i = rw (eq-eqb i.id i.id refl) refl in
    subst (λ (z : Instance). Contains (changed (Counts i p) s).instances z) its (contains_map (counted_at i.id p) s.instances i m)

-- the reply tells that it was the last share
last_reply : (p : ℕ) (i : Instance) → counted p i ≡ reply.Completed → is_last p i ≡ true
unfolding counted
last_reply p i e = at (nat_eq (missing p i) 0) refl e
  where
    at : (b : Bool) → nat_eq (missing p i) 0 ≡ b → (if b then reply.Completed else reply.Counted (missing p i)) ≡ reply.Completed → nat_eq (missing p i) 0 ≡ true
    at true h e = h
    at false h e = cc

completed_deed : (f : Fixed) (s : State) (caller : ℕ) (c : Call) (r : Reply) (d : Deed) (id p rows : ℕ) → Kept f s → Allows f s caller c r d → c ≡ call.Deliver id p rows → r ≡ reply.Completed → (t : State) → Kept f t → IsLater (done f d s) t → HasAll f t id
completed_deed f s caller c r Nothing id p rows k a at e t kept later = let h = a.0 in cc
completed_deed f s caller c r (Joins q) id p rows k a at e t kept later = let h = a.reply in cc
completed_deed f s caller c r (Loses q) id p rows k a at e t kept later = let h = a.reply in cc
completed_deed f s caller c r (Counts i q) id p rows k a at e t kept later =
    let w = waits f s c r i q k a in
    let last = last_reply q i (sym a.reply ∙ e) in
    let one = deed_next f s caller c r (Counts i q) k a in
    let on = done_next f (Counts i q) s one.0 in
    let call_ : call.Deliver a.id q (rows_of i.signature f.rows) ≡ call.Deliver id p rows = sym a.call ∙ at in
    let id_ : a.id ≡ id = cc in
    all_later f (changed (Counts i q) s) t id (with_share q i) one.0 kept (later_transitive (changed (Counts i q) s) (done f (Counts i q) s) t on.1 later) (counted_here s i q w.within)
    (share_id q i ∙ instance_id s.instances a.id i k.numbered a.part.issued ∙ id_) (last_complete q i last)
completed_deed f s caller c r (Gives d j) id p rows k a at e t kept later = let h = a.reply in cc
completed_deed f s caller c r (Turns d (Refused place bound limit)) id p rows k a at e t kept later = absurd a
completed_deed f s caller c r (Turns d Idle) id p rows k a at e t kept later = let h = a.reply in cc
completed_deed f s caller c r (Turns d (Taken who)) id p rows k a at e t kept later = let h = a.reply in cc
completed_deed f s caller c r (Turns d Evaluated) id p rows k a at e t kept later = let h = a.reply in cc
completed_deed f s caller c r (Turns d Answered) id p rows k a at e t kept later = absurd a

completed_step : (f : Fixed) (s t : State) (e : Entry) (id p rows : ℕ) → Kept f s → e.call ≡ call.Deliver id p rows → (step f s e.caller e.call).0 ≡ reply.Completed → Kept f t → IsLater (step f s e.caller e.call).1 t → HasAll f t id
unfolding step
completed_step f s t e id p rows k at says_ kept later =
    let v = judge f s e.caller e.call in
    completed_deed f s e.caller e.call v.reply v.deed id p rows k (judged f s e.caller e.call) at says_ t kept later

first_reply : (f : Fixed) (s : State) (e : Entry) (es : List Entry) → replayed f s (e ∷ es) ≡ e ∷ es → (step f s e.caller e.call).0 ≡ e.reply
unfolding replayed
first_reply f s e es h = let head : record e { reply = (step f s e.caller e.call).0 } ≡ e = cc in ap (λ (z : Entry). z.reply) head

first_state : (f : Fixed) (s : State) (e : Entry) (es : List Entry) → after f s (e ∷ es) ≡ after f (step f s e.caller e.call).1 es
unfolding after
first_state f s e es = refl

pub completed_ones_have_all : CompletedOnesHaveAll
completed_ones_have_all f es more e id p rows legal at says_ =
    let s = state_after f es in
    let k = state_kept f es in
    let one = step_next f s e.caller e.call k in
    let on = after_next f (step f s e.caller e.call).1 more one.0 in
    let there = states_lead_on f es (e ∷ more) ∙ first_state f s e more in
    subst (λ (z : State). HasAll f z id) (sym there)
    (completed_step f s (after f (step f s e.caller e.call).1 more) e id p rows k at (first_reply f s e more (ends_legal f es (e ∷ more) legal) ∙ says_) on.0 on.1)
