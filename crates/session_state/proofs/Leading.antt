-- What a call leads to: nothing is done, or a deed is done and what is due is issued.
use Rattle.std.proofs.Common.{◌≡◌, ◌∙◌, sym, ap, subst, refl, ℕ, Bool, true, false, nat_eq, List, Some, None}
use Rattle.std.specs.Prelude.{if◌then◌else◌}
use Rattle.share_spec.specs.Sets.{has}
use Rattle.proto_names.specs.Names.{rows_of}
use Rattle.proto_names.specs.Instances.{instance, missing}
use Rattle.proto_names.specs.declared.instance.Instance.{Instance}
use Rattle.session_rules.specs.declared.call.Call.{Call}
use Rattle.session_rules.specs.declared.call.Call.TheVariants as call
use Rattle.session_rules.specs.declared.reply.Reply.{Reply}
use Rattle.session_rules.specs.declared.reply.Reply.TheVariants as reply
use Rattle.session_rules.specs.declared.deed.Deed.{Deed}
use Rattle.session_rules.specs.declared.deed.Deed.TheVariants.{Nothing, Joins, Loses, Counts, Gives, Turns}
use Rattle.session_rules.specs.declared.deed.Verdict.{Verdict}
use Rattle.session_rules.specs.declared.state.CircuitState.TheVariants.{Refused, Idle, Taken, Evaluated, Answered}
use Rattle.session_rules.specs.declared.fixed.Fixed.{Fixed}
use Rattle.session_rules.specs.States.{State, circuit}
use Rattle.session_rules.specs.Issues.{issue}
use Rattle.session_rules.specs.Deeds.{is_nothing, counts_for, changed, leads_on, done}
use Rattle.session_rules.specs.Steps.{is_input, counted, join, lose, deliver, input, take, finish, give_back, judge}
use Rattle.session_rules.specs.Facts.{Kept}
use Rattle.session_rules.specs.Allowed.{Answers, Allows}
use Rattle.session_rules.proofs.Judged.{judged}
use Rattle.session_rules.proofs.Marks.{instance_id}
use Rattle.session_rules.proofs.Keeps.{waits}
use Rattle.session_spec.specs.Settings.{Setting, rules}
use Rattle.session_spec.specs.Stores.{Store, Brought, grown, with_deed, store_done}
use Rattle.session_state.specs.Handed.{is_list}
use Rattle.session_state.specs.Standings.{setting, rules_of, state, store, state_then, store_then}
use Rattle.session_state.specs.Wanted.{IsWanted}
use Rattle.session_state.specs.declared.standing.Standing.{Standing}

-- ---- nothing is done

nothing_is : (d : Deed) → is_nothing d ≡ true → d ≡ Nothing
nothing_is Nothing e = refl
nothing_is (Joins p) e = cc
nothing_is (Loses p) e = cc
nothing_is (Counts i p) e = cc
nothing_is (Gives c k) e = cc
nothing_is (Turns c now) e = cc

stays_by : (st : Standing) (r : Reply) (d : Deed) (b : Brought) → d ≡ Nothing → (state st ≡ state_then st (record { reply = r; deed = d })) × (store st ≡ store_then st (record { reply = r; deed = d }) b)
unfolding done changed store_done with_deed
stays_by st r d b e = rw e (refl, refl)

pub stays : (st : Standing) (v : Verdict) (b : Brought) → is_nothing v.deed ≡ true → (state st ≡ state_then st v) × (store st ≡ store_then st v b)
stays st v b e = stays_by st v.reply v.deed b (nothing_is v.deed e)

-- ---- a list is no reply but to one who asks what is pending

counted_plain : (p : ℕ) (i : Instance) → is_list (counted p i) ≡ false
unfolding counted
counted_plain p i = at (nat_eq (missing p i) 0)
  where
    at : (b : Bool) → is_list (if b then reply.Completed else reply.Counted (missing p i)) ≡ false
    at true = refl
    at false = refl

answers_plain : (r : Reply) (c : Call) → Answers r c → ((p : ℕ) → c ≡ call.Pending p → ⊥) → is_list r ≡ false
answers_plain (reply.List ids inputs) c a other = absurd (other a.0 a.1)
answers_plain other_ c a other = refl

pub plain : (f : Fixed) (s : State) (caller : ℕ) (c : Call) (r : Reply) (d : Deed) → Allows f s caller c r d → ((p : ℕ) → c ≡ call.Pending p → ⊥) → is_list r ≡ false
plain f s caller c r Nothing a other = answers_plain r c a.1 other
plain f s caller c r (Joins p) a other = rw (a.reply) refl
plain f s caller c r (Loses p) a other = rw (a.reply) refl
plain f s caller c r (Counts i p) a other = rw (a.reply) (counted_plain p i)
plain f s caller c r (Gives d k) a other = rw (a.reply) refl
plain f s caller c r (Turns d (Refused place bound limit)) a other = absurd a
plain f s caller c r (Turns d Idle) a other = rw (a.reply) refl
plain f s caller c r (Turns d (Taken who)) a other = rw (a.reply) refl
plain f s caller c r (Turns d Evaluated) a other = rw (a.reply) refl
plain f s caller c r (Turns d Answered) a other = absurd a

-- ---- something is done

pub done_leads : (f : Fixed) (d : Deed) (s : State) → leads_on d ≡ true → done f d s ≡ issue f (changed d s)
unfolding done
done_leads f d s e = rw e refl

pub done_stays : (f : Fixed) (d : Deed) (s : State) → leads_on d ≡ false → done f d s ≡ changed d s
unfolding done
done_stays f d s e = rw e refl

pub store_leads : (w : Setting) (d : Deed) (b : Brought) (is : List Instance) (h : Store) → leads_on d ≡ true → store_done w d b is h ≡ grown w is (with_deed w d b h)
unfolding store_done
store_leads w d b is h e = rw e refl

pub store_stays : (w : Setting) (d : Deed) (b : Brought) (is : List Instance) (h : Store) → leads_on d ≡ false → store_done w d b is h ≡ with_deed w d b h
unfolding store_done
store_stays w d b is h e = rw e refl

-- what a call does that does something
pub record IsDone (d its : Deed) (r says : Reply) : Type 0 where
  pub deed : d ≡ its
  pub reply : r ≡ says

pub join_does : (f : Fixed) (s : State) (p : ℕ) (r : Reply) (d : Deed) → Allows f s 0 (call.Join p) r d → is_nothing d ≡ false → IsDone d (Joins p) r reply.Joined
join_does f s p r Nothing a e = cc
join_does f s p r (Joins q) a e = let same : call.Join p ≡ call.Join q = a.call in let it : p ≡ q = cc in record { deed = ap Joins (sym it); reply = a.reply }
join_does f s p r (Loses q) a e = let same = a.call in cc
join_does f s p r (Counts i q) a e = let same = a.call in cc
join_does f s p r (Gives d k) a e = let same = a.call in cc
join_does f s p r (Turns d (Refused place bound limit)) a e = absurd a
join_does f s p r (Turns d Idle) a e = let same = a.call in cc
join_does f s p r (Turns d (Taken who)) a e = let same = a.call in cc
join_does f s p r (Turns d Evaluated) a e = let same = a.call in cc
join_does f s p r (Turns d Answered) a e = absurd a

pub finish_does : (f : Fixed) (s : State) (who c : ℕ) (r : Reply) (d : Deed) → Allows f s who (call.Finish c) r d → is_nothing d ≡ false → IsDone d (Turns c Evaluated) r reply.Finished × (circuit s.circuits c ≡ Taken who)
finish_does f s who c r Nothing a e = cc
finish_does f s who c r (Joins q) a e = let same = a.call in cc
finish_does f s who c r (Loses q) a e = let same = a.call in cc
finish_does f s who c r (Counts i q) a e = let same = a.call in cc
finish_does f s who c r (Gives d k) a e = let same = a.call in cc
finish_does f s who c r (Turns d (Refused place bound limit)) a e = absurd a
finish_does f s who c r (Turns d Idle) a e = let same = a.call in cc
finish_does f s who c r (Turns d (Taken its)) a e = let same = a.call in cc
finish_does f s who c r (Turns d Evaluated) a e =
    let same : call.Finish c ≡ call.Finish d = a.call in
    let it : d ≡ c = cc in
    (record { deed = ap (λ (z : ℕ). Turns z Evaluated) it; reply = a.reply }, subst (λ (z : ℕ). circuit s.circuits z ≡ Taken who) it a.taken)
finish_does f s who c r (Turns d Answered) a e = absurd a

pub input_does : (f : Fixed) (s : State) (c k : ℕ) (r : Reply) (d : Deed) → Allows f s 0 (call.Input c k) r d → is_nothing d ≡ false → IsDone d (Gives c k) r reply.Given × (is_input f c k ≡ true)
input_does f s c k r Nothing a e = cc
input_does f s c k r (Joins q) a e = let same = a.call in cc
input_does f s c k r (Loses q) a e = let same = a.call in cc
input_does f s c k r (Counts i q) a e = let same = a.call in cc
input_does f s c k r (Gives d j) a e =
    let same : call.Input c k ≡ call.Input d j = a.call in
    let c_ : d ≡ c = cc in
    let k_ : j ≡ k = cc in
    (record { deed = ap (λ (z : ℕ). Gives z j) c_ ∙ ap (Gives c) k_; reply = a.reply }, subst (λ (z : ℕ). is_input f z k ≡ true) c_ (subst (λ (z : ℕ). is_input f d z ≡ true) k_ a.input))
input_does f s c k r (Turns d (Refused place bound limit)) a e = absurd a
input_does f s c k r (Turns d Idle) a e = let same = a.call in cc
input_does f s c k r (Turns d (Taken who)) a e = let same = a.call in cc
input_does f s c k r (Turns d Evaluated) a e = let same = a.call in cc
input_does f s c k r (Turns d Answered) a e = absurd a

pub lose_does : (f : Fixed) (s : State) (p : ℕ) (r : Reply) (d : Deed) → Allows f s 0 (call.Lose p) r d → is_nothing d ≡ false → IsDone d (Loses p) r reply.Left
lose_does f s p r Nothing a e = cc
lose_does f s p r (Joins q) a e = let same = a.call in cc
lose_does f s p r (Loses q) a e = let same : call.Lose p ≡ call.Lose q = a.call in let it : p ≡ q = cc in record { deed = ap Loses (sym it); reply = a.reply }
lose_does f s p r (Counts i q) a e = let same = a.call in cc
lose_does f s p r (Gives d k) a e = let same = a.call in cc
lose_does f s p r (Turns d (Refused place bound limit)) a e = absurd a
lose_does f s p r (Turns d Idle) a e = let same = a.call in cc
lose_does f s p r (Turns d (Taken who)) a e = let same = a.call in cc
lose_does f s p r (Turns d Evaluated) a e = let same = a.call in cc
lose_does f s p r (Turns d Answered) a e = absurd a

pub return_does : (f : Fixed) (s : State) (who c : ℕ) (r : Reply) (d : Deed) → Allows f s who (call.GiveBack c) r d → is_nothing d ≡ false → IsDone d (Turns c Idle) r reply.Returned × (circuit s.circuits c ≡ Taken who)
return_does f s who c r Nothing a e = cc
return_does f s who c r (Joins q) a e = let same = a.call in cc
return_does f s who c r (Loses q) a e = let same = a.call in cc
return_does f s who c r (Counts i q) a e = let same = a.call in cc
return_does f s who c r (Gives d k) a e = let same = a.call in cc
return_does f s who c r (Turns d (Refused place bound limit)) a e = absurd a
return_does f s who c r (Turns d Idle) a e =
    let same : call.GiveBack c ≡ call.GiveBack d = a.call in
    let it : d ≡ c = cc in
    (record { deed = ap (λ (z : ℕ). Turns z Idle) it; reply = a.reply }, subst (λ (z : ℕ). circuit s.circuits z ≡ Taken who) it a.taken)
return_does f s who c r (Turns d (Taken its)) a e = let same = a.call in cc
return_does f s who c r (Turns d Evaluated) a e = let same = a.call in cc
return_does f s who c r (Turns d Answered) a e = absurd a

-- a share is counted for an instance, or nothing is done
pub share_does : (f : Fixed) (s : State) (id p rows : ℕ) (r : Reply) (d : Deed) (i : Instance) → Kept f s → Allows f s 0 (call.Deliver id p rows) r d → counts_for d ≡ Some i
    → IsDone d (Counts i p) r (counted p i) × IsWanted f s id p rows i
share_does f s id p rows r Nothing i k a e = cc
share_does f s id p rows r (Joins q) i k a e = cc
share_does f s id p rows r (Loses q) i k a e = cc
share_does f s id p rows r (Counts j q) i k a e =
    let it : j ≡ i = cc in
    let same : call.Deliver id p rows ≡ call.Deliver a.id q (rows_of j.signature f.rows) = a.call in
    let id_ : a.id ≡ id = cc in
    let p_ : q ≡ p = cc in
    let rows_ : rows_of j.signature f.rows ≡ rows = cc in
    let w = waits f s (call.Deliver id p rows) r j q k a in
    let wanted : IsWanted f s id p rows j = record {
      issued = subst (λ (z : ℕ). instance s.instances z ≡ Some j) id_ a.part.issued;
      number = instance_id s.instances a.id j k.numbered a.part.issued ∙ id_;
      opened = w.opened;
      member = subst (λ (z : ℕ). has j.set.bits z ≡ true) p_ w.member;
      unsent = subst (λ (z : ℕ). has j.sent.bits z ≡ false) p_ w.unsent;
      shape = rows_;
    } in (
      record { deed = ap (Counts j) p_ ∙ ap (λ (z : Instance). Counts z p) it; reply = a.reply ∙ ap (λ (z : ℕ). counted z j) p_ ∙ ap (counted p) it },
      subst (λ (z : Instance). IsWanted f s id p rows z) it wanted,
    )
share_does f s id p rows r (Gives d j) i k a e = cc
share_does f s id p rows r (Turns d now) i k a e = cc

pub share_refused : (f : Fixed) (s : State) (id p rows : ℕ) (r : Reply) (d : Deed) → Allows f s 0 (call.Deliver id p rows) r d → counts_for d ≡ None → is_nothing d ≡ true
share_refused f s id p rows r Nothing a e = refl
share_refused f s id p rows r (Joins q) a e = let same = a.call in cc
share_refused f s id p rows r (Loses q) a e = let same = a.call in cc
share_refused f s id p rows r (Counts j q) a e = cc
share_refused f s id p rows r (Gives d k) a e = let same = a.call in cc
share_refused f s id p rows r (Turns d (Refused place bound limit)) a e = absurd a
share_refused f s id p rows r (Turns d Idle) a e = let same = a.call in cc
share_refused f s id p rows r (Turns d (Taken who)) a e = let same = a.call in cc
share_refused f s id p rows r (Turns d Evaluated) a e = let same = a.call in cc
share_refused f s id p rows r (Turns d Answered) a e = absurd a

-- ---- each call is allowed

pub fair_join : (f : Fixed) (s : State) (p : ℕ) → Allows f s 0 (call.Join p) (join s p).reply (join s p).deed
unfolding judge
fair_join f s p = judged f s 0 (call.Join p)

pub fair_lose : (f : Fixed) (s : State) (p : ℕ) → Allows f s 0 (call.Lose p) (lose s p).reply (lose s p).deed
unfolding judge
fair_lose f s p = judged f s 0 (call.Lose p)

pub fair_return : (f : Fixed) (s : State) (who c : ℕ) → Allows f s who (call.GiveBack c) (give_back s who c).reply (give_back s who c).deed
unfolding judge
fair_return f s who c = judged f s who (call.GiveBack c)

pub fair_deliver : (f : Fixed) (s : State) (id p rows : ℕ) → Allows f s 0 (call.Deliver id p rows) (deliver f s id p rows).reply (deliver f s id p rows).deed
unfolding judge
fair_deliver f s id p rows = judged f s 0 (call.Deliver id p rows)

pub fair_input : (f : Fixed) (s : State) (c k : ℕ) → Allows f s 0 (call.Input c k) (input f s c k).reply (input f s c k).deed
unfolding judge
fair_input f s c k = judged f s 0 (call.Input c k)

pub fair_take : (f : Fixed) (s : State) (who : ℕ) → Allows f s who call.Take (take f s who).reply (take f s who).deed
unfolding judge
fair_take f s who = judged f s who call.Take

pub fair_finish : (f : Fixed) (s : State) (who c : ℕ) → Allows f s who (call.Finish c) (finish s who c).reply (finish s who c).deed
unfolding judge
fair_finish f s who c = judged f s who (call.Finish c)

-- ---- a standing on the way, of which what it is about and what it has is known

module _ (st mid : Standing) (t : State) (params : mid.params ≡ st.params) (about : setting mid ≡ setting st) (has_ : state mid ≡ t) where
  same_rules : rules_of mid ≡ rules_of st
  same_rules = ap rules about

  pub kept_mid : Kept (rules_of st) t → Kept (rules_of mid) (state mid)
  kept_mid k = subst (λ (g : Fixed). Kept g (state mid)) (sym same_rules) (subst (λ (z : State). Kept (rules_of st) z) (sym has_) k)
