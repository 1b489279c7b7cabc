-- Those that are present, where parties join; who may turn a circuit that is taken; and how many are issued.
use Rattle.std.proofs.Common.{◌≡◌, ◌≢◌, ◌∙◌, sym, ap, subst, refl, ℕ, ◌+◌, ◌*◌, ◌<◌, ◌≤◌, ◌^◌, Bool, true, false, cond, inl, inr, List, [], ◌∷◌, length, arith}
use Rattle.std.specs.Prelude.{if◌then◌else◌}
use Rattle.std.proofs.lemmas.Bool.{cases_eq, both_ways}
use Rattle.std.proofs.lemmas.List.{get_or-set_other, length-map}
use Rattle.proto_names.specs.Instances.{after_share}
use Rattle.proto_names.specs.declared.signature.Signature.{Signature}
use Rattle.proto_names.specs.declared.signature.Signature.TheVariants.{Dec}
use Rattle.session_rules.specs.declared.call.Call.{Call}
use Rattle.session_rules.specs.declared.call.Entry.{Entry}
use Rattle.session_rules.specs.declared.reply.Reply.{Reply}
use Rattle.session_rules.specs.declared.deed.Deed.{Deed}
use Rattle.session_rules.specs.declared.deed.Deed.TheVariants.{Nothing, Joins, Loses, Counts, Gives, Turns}
use Rattle.session_rules.specs.declared.state.CircuitState.{CircuitState}
use Rattle.session_rules.specs.declared.state.CircuitState.TheVariants.{Refused, Idle, Taken, Evaluated, Answered}
use Rattle.session_rules.specs.declared.fixed.Fixed.{Fixed}
use Rattle.session_rules.specs.States.{State, circuit, is_idle, opening}
use Rattle.session_rules.specs.Issues.{issue, most_moves}
use Rattle.session_rules.specs.Deeds.{after_loss, is_last, answered_by, changed, leads_on, done}
use Rattle.session_rules.specs.Steps.{judge, step}
use Rattle.session_rules.specs.Histories.{after}
use Rattle.session_rules.specs.Facts.{JoinsParty, JoinParties, Kept, PartiesArePresent, TakenStays, FewAreIssued, HistoriesIssueFew}
use Rattle.session_rules.specs.Allowed.{MayTurn, Allows}
use Rattle.session_rules.proofs.Stepwise.{done_beside, issue_few}
use Rattle.session_rules.proofs.Judged.{judged}
use Rattle.session_rules.proofs.PartySets.{with_small, without_small}
use Rattle.session_rules.proofs.Readiness.{found_ready, ready_idle}
use Rattle.session_rules.proofs.Shares.{answered_other, decides_dec}
use Rattle.session_rules.proofs.Keeps.{waits}

-- ---- who is present

abbrev IsPresent : State → Type 0
IsPresent s = s.present < 2 ^ 32

present_then : (f : Fixed) (s : State) (caller : ℕ) (c : Call) (r : Reply) (d : Deed) → JoinsParty c → Allows f s caller c r d → IsPresent s → IsPresent (changed d s)
unfolding changed
present_then f s caller c r Nothing n a h = h
present_then f s caller c r (Joins p) n a h = with_small s.present p h (subst JoinsParty a.call n)
present_then f s caller c r (Loses p) n a h = without_small s.present p h
present_then f s caller c r (Counts i p) n a h = h
present_then f s caller c r (Gives d k) n a h = h
present_then f s caller c r (Turns d now) n a h = h

present_step : (f : Fixed) (s : State) (caller : ℕ) (c : Call) → JoinsParty c → IsPresent s → IsPresent (step f s caller c).1
unfolding step
present_step f s caller c n h =
    let v = judge f s caller c in
    let beside = done_beside f v.deed s in
    subst (λ (z : ℕ). z < 2 ^ 32) (sym beside.present) (present_then f s caller c v.reply v.deed n (judged f s caller c) h)

present_after : (f : Fixed) (s : State) (es : List Entry) → JoinParties es → IsPresent s → IsPresent (after f s es)
unfolding after
present_after f s [] n h = h
present_after f s (e ∷ es) n h = present_after f (step f s e.caller e.call).1 es n.1 (present_step f s e.caller e.call n.0 h)

present_opening : (f : Fixed) → IsPresent (opening f)
unfolding opening
present_opening f = omega arith

pub parties_are_present : PartiesArePresent
parties_are_present f es n = present_after f (opening f) es n (present_opening f)

-- ---- who may turn a circuit

taken_count : (s : State) (who c : ℕ) (σ : Signature) → ((d : ℕ) → σ ≡ Dec d → circuit s.circuits d ≡ Evaluated) → circuit s.circuits c ≡ Taken who
    → (b : Bool) → circuit (cond b (answered_by σ s.circuits) s.circuits) c ≡ Taken who
taken_count s who c σ evaluated e true = elim (decides_dec σ c) [
  | inl its ↦ let other = evaluated c its in cc
  | inr none ↦ answered_other σ s.circuits c none ∙ e
]
taken_count s who c σ evaluated e false = e

-- one that another has taken is nobody else's to turn
own_turn : (f : Fixed) (s : State) (caller who : ℕ) (c : Call) (r : Reply) (d : ℕ) (now : CircuitState) → who ≢ caller → circuit s.circuits d ≡ Taken who → MayTurn f s caller c r d now → ⊥
own_turn f s caller who c r d (Refused place bound limit) n e m = m
own_turn f s caller who c r d Idle n e m = let h = m.taken in n cc
own_turn f s caller who c r d (Taken its) n e m = let h : is_idle (circuit s.circuits d) ≡ true = ready_idle f s d (found_ready f s d m.next).0 in both_ways (is_idle (circuit s.circuits d)) (rw e refl) h
own_turn f s caller who c r d Evaluated n e m = let h = m.taken in n cc
own_turn f s caller who c r d Answered n e m = m

taken_then : (f : Fixed) (s : State) (caller : ℕ) (c : Call) (r : Reply) (d : Deed) (who at : ℕ) → Kept f s → Allows f s caller c r d → who ≢ caller → circuit s.circuits at ≡ Taken who → circuit (changed d s).circuits at ≡ Taken who
unfolding changed
taken_then f s caller c r Nothing who at k a n e = e
taken_then f s caller c r (Joins p) who at k a n e = e
taken_then f s caller c r (Loses p) who at k a n e = e
taken_then f s caller c r (Counts i p) who at k a n e =
    let w = waits f s c r i p k a in
    taken_count s who at i.signature (λ d its. (k.decrypts i w.within).opened d its w.opened) e (is_last p i)
taken_then f s caller c r (Gives d j) who at k a n e = e
taken_then f s caller c r (Turns d now) who at k a n e = elim (cases_eq at d) [
  | inl same ↦ absurd (own_turn f s caller who c r d now n (subst (λ (z : ℕ). circuit s.circuits z ≡ Taken who) same e) a)
  | inr other ↦ get_or-set_other s.circuits d at now Answered other ∙ e
]

pub taken_stays : TakenStays
unfolding step
taken_stays f s caller who c at k n e =
    let v = judge f s caller c in
    let beside = done_beside f v.deed s in
    ap (λ (z : List CircuitState). circuit z at) beside.circuits ∙ taken_then f s caller c v.reply v.deed who at k (judged f s caller c) n e

-- ---- how many are issued

changed_length : (d : Deed) (s : State) → length (changed d s).instances ≡ length s.instances
unfolding changed after_loss after_share
changed_length Nothing s = refl
changed_length (Joins p) s = refl
changed_length (Loses p) s = length-map s.instances _
changed_length (Counts i p) s = length-map s.instances _
changed_length (Gives c k) s = refl
changed_length (Turns c now) s = refl

done_few : (f : Fixed) (d : Deed) (s : State) → length (done f d s).instances ≤ length s.instances + most_moves f
unfolding done
done_few f d s = at (leads_on d)
  where
    at : (b : Bool) → length (if b then issue f (changed d s) else changed d s).instances ≤ length s.instances + most_moves f
    at true = let a = changed_length d s in let b = issue_few f (changed d s) in omega arith
    at false = let a = changed_length d s in omega arith

pub few_are_issued : FewAreIssued
unfolding step
few_are_issued f s caller c = done_few f (judge f s caller c).deed s

after_few : (f : Fixed) (s : State) (es : List Entry) → length (after f s es).instances ≤ length s.instances + length es * most_moves f
unfolding after
after_few f s [] = omega arith
after_few f s (e ∷ es) =
    let a = few_are_issued f s e.caller e.call in
    let b = after_few f (step f s e.caller e.call).1 es in
    omega arith

none_issued : (f : Fixed) → length (opening f).instances ≡ 0
unfolding opening
none_issued f = refl

pub histories_issue_few : HistoriesIssueFew
histories_issue_few f es = let a = after_few f (opening f) es in let b = none_issued f in omega arith
