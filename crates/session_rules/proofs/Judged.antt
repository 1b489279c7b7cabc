-- What is done is allowed: the one walk through the replies of the nine calls.
use Rattle.std.proofs.Common.{◌≡◌, refl, ℕ, Bool, true, false, not, nat_eq, length, slice_index_or, Option, Some, None}
use Rattle.std.specs.Prelude.{if◌then◌else◌}
use Rattle.std.proofs.lemmas.Bool.{not-false, eqb-true}
use Rattle.share_spec.specs.Sets.{has}
use Rattle.proto_names.specs.Names.{rows_of}
use Rattle.proto_names.specs.Instances.{instance, missing, owed_shares}
use Rattle.proto_names.specs.declared.signature.Signature.TheVariants.{Pk}
use Rattle.proto_names.specs.declared.instance.Instance.{Instance}
use Rattle.proto_names.specs.declared.instance.Stage.{Stage}
use Rattle.proto_names.specs.declared.instance.Stage.TheVariants.{Opened, Complete, Void}
use Rattle.session_rules.specs.declared.call.Call.{Call}
use Rattle.session_rules.specs.declared.call.Call.TheVariants as call
use Rattle.session_rules.specs.declared.reply.Reply.{Reply}
use Rattle.session_rules.specs.declared.reply.Reply.TheVariants as reply
use Rattle.session_rules.specs.declared.deed.Deed.{Deed}
use Rattle.session_rules.specs.declared.deed.Deed.TheVariants.{Nothing, Joins, Loses, Counts, Gives, Turns}
use Rattle.session_rules.specs.declared.deed.Verdict.{Verdict}
use Rattle.session_rules.specs.declared.state.CircuitState.{CircuitState}
use Rattle.session_rules.specs.declared.state.CircuitState.TheVariants.{Refused, Idle, Taken, Evaluated, Answered}
use Rattle.session_rules.specs.declared.fixed.Fixed.{Fixed}
use Rattle.session_rules.specs.States.{State, circuit, is_taken_by, is_given, plan, has_done}
use Rattle.session_rules.specs.Deeds.{done, changed}
use Rattle.session_rules.specs.Steps.{says, does, join, lose, owed_inputs, pending, told, brief, counted, accepted, by_stage, deliver, is_input, input, next_ready, take, finish, give_back, judge}
use Rattle.session_rules.specs.Facts.{accepts, TakesPart, RefusalsDoNothing, NothingIsDone}
use Rattle.session_rules.specs.Allowed.{Allows, DeedsAreAllowed}

taken_is : (caller : ℕ) (now : CircuitState) → is_taken_by caller now ≡ true → now ≡ Taken caller
taken_is caller (Refused place bound limit) h = cc
taken_is caller Idle h = cc
taken_is caller (Taken who) h = let e : who ≡ caller = eqb-true who caller h in rw e refl
taken_is caller Evaluated h = cc
taken_is caller Answered h = cc

module _ (f : Fixed) (s : State) (caller : ℕ) (c : Call) where
  abbrev Fair : Verdict → Type 0
  Fair v = Allows f s caller c v.reply v.deed

  either : (b : Bool) (x y : Verdict) → (b ≡ true → Fair x) → (b ≡ false → Fair y) → Fair (if b then x else y)
  either true x y h k = h refl
  either false x y h k = k refl

  joined : (p : ℕ) → c ≡ call.Join p → Fair (join s p)
  unfolding join
  joined p e = either (has s.present p) _ _ (λ h. (refl, tt)) (λ h. record { call = e; reply = refl; absent = h })

  left : (p : ℕ) → c ≡ call.Lose p → Fair (lose s p)
  unfolding lose
  left p e = either (not (has s.present p)) _ _ (λ h. (refl, tt)) (λ h. record { call = e; reply = refl; there = not-false _ h })

  asked : (p : ℕ) → c ≡ call.Pending p → Fair (says (pending f s p))
  unfolding pending
  asked p e = at (has s.present p)
    where
      at : (b : Bool) → Fair (says (if b then reply.List (owed_shares p s.instances) (owed_inputs f s p) else reply.Absent))
      at true = (refl, (p, e))
      at false = (refl, tt)

  briefed : (id : ℕ) → c ≡ call.Brief id → Fair (says (brief s id))
  unfolding brief told
  briefed id e = at (instance s.instances id)
    where
      staged : (i : Instance) (stage : Stage) → Fair (says (told i stage))
      staged i (Void by) = (refl, tt)
      staged i Opened = (refl, (id, e))
      staged i Complete = (refl, (id, e))

      at : (o : Option Instance) → Fair (says (elim o [
        | None ↦ reply.Unknown (length s.instances)
        | Some i ↦ told i i.stage
      ]))
      at None = (refl, tt)
      at (Some i) = staged i i.stage

  taken_over : (id p rows : ℕ) (i : Instance) → c ≡ call.Deliver id p rows → TakesPart s id p i → Fair (accepted f i p rows)
  unfolding accepted
  taken_over id p rows i e part =
      either (has i.sent.bits p) _ _ (λ h. (refl, tt))
      (λ unsent. either (not (nat_eq (rows_of i.signature f.rows) rows)) _ _ (λ h. (refl, tt))
      (λ h. let long : rows_of i.signature f.rows ≡ rows = eqb-true _ _ (not-false _ h) in record { id = id; call = rw long e; reply = refl; part = part; unsent = unsent }))

  staged : (id p rows : ℕ) (i : Instance) (stage : Stage) → c ≡ call.Deliver id p rows → i.stage ≡ stage → instance s.instances id ≡ Some i → has i.set.bits p ≡ true → Fair (by_stage f i p rows stage)
  unfolding by_stage
  staged id p rows i (Void by) e at found member = (refl, tt)
  staged id p rows i Opened e at found member = taken_over id p rows i e (record { issued = found; member = member; lives = rw at refl })
  staged id p rows i Complete e at found member = taken_over id p rows i e (record { issued = found; member = member; lives = rw at refl })

  found_one : (id p rows : ℕ) → c ≡ call.Deliver id p rows → (o : Option Instance) → instance s.instances id ≡ o → Fair (elim o as (λ x. Verdict) [
    | None ↦ says (reply.Unknown (length s.instances))
    | Some i ↦ if has i.set.bits p then by_stage f i p rows i.stage else says reply.Stranger
  ])
  found_one id p rows e None found = (refl, tt)
  found_one id p rows e (Some i) found = either (has i.set.bits p) _ _ (λ member. staged id p rows i i.stage e refl found member) (λ h. (refl, tt))

  delivered : (id p rows : ℕ) → c ≡ call.Deliver id p rows → Fair (deliver f s id p rows)
  unfolding deliver
  delivered id p rows e = found_one id p rows e (instance s.instances id) refl

  brought : (d k : ℕ) → c ≡ call.Input d k → Fair (input f s d k)
  unfolding input
  brought d k e =
      either (not (is_input f d k)) _ _ (λ h. (refl, tt))
      (λ its. either (not (has_done Pk s.instances)) _ _ (λ h. (refl, tt))
      (λ done. either (not (has s.present (slice_index_or (plan f d).owners k 0))) _ _ (λ h. (refl, tt))
      (λ there. either (is_given s d k) _ _ (λ h. (refl, tt))
      (λ lacks. record { call = e; reply = refl; input = not-false _ its; key = not-false _ done; owner = not-false _ there; missing = lacks }))))

  ready_one : c ≡ call.Take → (o : Option ℕ) → next_ready f s ≡ o → Fair (elim o as (λ x. Verdict) [
    | None ↦ says reply.Nothing
    | Some d ↦ does (reply.Job d) (Turns d (Taken caller))
  ])
  ready_one e None h = (refl, tt)
  ready_one e (Some d) h = record { call = e; reply = refl; next = h; who = refl }

  taken : c ≡ call.Take → Fair (take f s caller)
  unfolding take
  taken e = ready_one e (next_ready f s) refl

  finished : (d : ℕ) → c ≡ call.Finish d → Fair (finish s caller d)
  unfolding finish
  finished d e = either (is_taken_by caller (circuit s.circuits d)) _ _ (λ h. record { call = e; reply = refl; taken = taken_is caller _ h }) (λ h. (refl, tt))

  given_back : (d : ℕ) → c ≡ call.GiveBack d → Fair (give_back s caller d)
  unfolding give_back
  given_back d e = either (is_taken_by caller (circuit s.circuits d)) _ _ (λ h. record { call = e; reply = refl; taken = taken_is caller _ h }) (λ h. (refl, tt))

pub judged : DeedsAreAllowed
unfolding judge
judged f s caller (call.Join p) = joined f s caller (call.Join p) p refl
judged f s caller (call.Lose p) = left f s caller (call.Lose p) p refl
judged f s caller (call.Pending p) = asked f s caller (call.Pending p) p refl
judged f s caller (call.Brief id) = briefed f s caller (call.Brief id) id refl
judged f s caller (call.Deliver id p rows) = delivered f s caller (call.Deliver id p rows) id p rows refl
judged f s caller (call.Input d k) = brought f s caller (call.Input d k) d k refl
judged f s caller call.Take = taken f s caller call.Take refl
judged f s caller (call.Finish d) = finished f s caller (call.Finish d) d refl
judged f s caller (call.GiveBack d) = given_back f s caller (call.GiveBack d) d refl

-- ---- a reply that refuses goes with nothing

pub nothing_is_done : NothingIsDone
unfolding done changed
nothing_is_done f s = refl

counted_accepts : (p : ℕ) (i : Instance) → accepts (counted p i) ≡ true
unfolding counted
counted_accepts p i = at (nat_eq (missing p i) 0)
  where
    at : (b : Bool) → accepts (if b then reply.Completed else reply.Counted (missing p i)) ≡ true
    at true = refl
    at false = refl

refused : (f : Fixed) (s : State) (caller : ℕ) (c : Call) (r : Reply) (d : Deed) → Allows f s caller c r d → accepts r ≡ false → d ≡ Nothing
refused f s caller c r Nothing a h = refl
refused f s caller c r (Joins p) a h = let e = a.reply in cc
refused f s caller c r (Loses p) a h = let e = a.reply in cc
refused f s caller c r (Counts i p) a h = let e = a.reply in let k = counted_accepts p i in cc
refused f s caller c r (Gives d k) a h = let e = a.reply in cc
refused f s caller c r (Turns d (Refused place bound limit)) a h = absurd a
refused f s caller c r (Turns d Idle) a h = let e = a.reply in cc
refused f s caller c r (Turns d (Taken who)) a h = let e = a.reply in cc
refused f s caller c r (Turns d Evaluated) a h = let e = a.reply in cc
refused f s caller c r (Turns d Answered) a h = absurd a

pub refusals_do_nothing : RefusalsDoNothing
refusals_do_nothing f s caller c h = refused f s caller c (judge f s caller c).reply (judge f s caller c).deed (judged f s caller c) h
