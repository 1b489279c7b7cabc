-- What single calls do to circuits, of `step` alone.
use Rattle.std.proofs.Common.{◌≡◌, ◌∙◌, sym, ap, subst, refl, ℕ, ◌<◌, ◌≤◌, Bool, true, false, inl, inr, List, length, set, Some, None, arith, length-set}
use Rattle.std.specs.Prelude.{if◌then◌else◌, cond, ⊤}
use Rattle.std.proofs.lemmas.Bool.{both_ways, cases_eq, cases_lt, eq-eqb}
use Rattle.std.proofs.lemmas.List.{get_or_past, get_or-set_same, get_or-set_other}
use Rattle.proto_names.specs.declared.signature.Signature.{Signature}
use Rattle.proto_names.specs.declared.signature.Signature.TheVariants.{Dec}
use Rattle.session_rules.specs.declared.call.Call.{Call}
use Rattle.session_rules.specs.declared.call.Call.TheVariants as call
use Rattle.session_rules.specs.declared.reply.Reply.{Reply}
use Rattle.session_rules.specs.declared.reply.Reply.TheVariants as reply
use Rattle.session_rules.specs.declared.state.CircuitState.{CircuitState}
use Rattle.session_rules.specs.declared.state.CircuitState.TheVariants.{Refused, Idle, Taken, Evaluated, Answered}
use Rattle.session_rules.specs.declared.fixed.Fixed.{Fixed}
use Rattle.session_rules.specs.States.{State, circuit, is_idle, is_taken_by}
use Rattle.session_rules.specs.Deeds.{is_last, answered_by, with_circuit, changed, done}
use Rattle.session_rules.specs.Steps.{says, does as done_with, finish, give_back, judge, step}
use Rattle.session_rules.specs.Allowed.{Allows}
use Rattle.session_rules.specs.declared.deed.Deed.{Deed}
use Rattle.session_rules.specs.declared.deed.Deed.TheVariants as deed
use Rattle.session_rules.specs.Tasks.{job}
use Rattle.session_rules.proofs.Judged.{judged}
use Rattle.session_rules.proofs.Readiness.{ready_idle}
use Rattle.session_rules.proofs.Stepwise.{done_beside}
use Rattle.run_laws.proofs.Calls.{nothing, takes, takes_is}

-- calls that take no circuit, and give none back
abbrev pub IsQuiet : Call → Type 0
IsQuiet call.Take = ⊥
IsQuiet (call.GiveBack c) = ⊥
IsQuiet other = ⊤

-- ---- what holds of no circuit that is evaluated or answered held before

module _ (P : CircuitState → Type 0) (answered : P Answered → ⊥) (evaluated : P Evaluated → ⊥) where
  abbrev pub Before : State → State → Type 0
  Before s t = (d : ℕ) → P (circuit t.circuits d) → P (circuit s.circuits d)

  pub set_before : (circuits : List CircuitState) (c : ℕ) (now : CircuitState) → (P now → ⊥) → (d : ℕ) → P (circuit (set circuits c now) d) → P (circuit circuits d)
  set_before circuits c now no_ d h = elim (cases_eq d c) [
    | inr other ↦ subst P (get_or-set_other circuits c d now Answered other) h
    | inl same ↦ elim (cases_lt c (length circuits)) [
      | inl less ↦ absurd (no_ (subst P (get_or-set_same circuits c now Answered less) (subst (λ (z : ℕ). P (circuit (set circuits c now) z)) same h)))
      | inr more ↦
          let long : length (set circuits c now) ≤ c = past_set circuits c now more in
          absurd (answered (subst P (get_or_past (set circuits c now) c Answered long) (subst (λ (z : ℕ). P (circuit (set circuits c now) z)) same h)))
    ]
  ]
    where
      past_set : (circuits : List CircuitState) (c : ℕ) (now : CircuitState) → length circuits ≤ c → length (set circuits c now) ≤ c
      past_set circuits c now l = omega (arith, length-set circuits c now)

  as_before : (s t : State) → t.circuits ≡ s.circuits → Before s t
  as_before s t e d h = subst (λ (z : List CircuitState). P (circuit z d)) e h

  counted_before : (circuits : List CircuitState) (σ : Signature) (b : Bool) (d : ℕ) → P (circuit (cond b (answered_by σ circuits) circuits) d) → P (circuit circuits d)
  unfolding answered_by
  counted_before circuits σ false d h = h
  counted_before circuits (Dec c) true d h = set_before circuits c Answered answered d h
  counted_before circuits other true d h = h

  deed_before : (f : Fixed) (s : State) (caller : ℕ) (c : Call) (r : Reply) (d : Deed) → IsQuiet c → Allows f s caller c r d → Before s (changed d s)
  unfolding changed
  deed_before f s caller c r (deed.Counts i p) q a = counted_before s.circuits i.signature (is_last p i)
  deed_before f s caller c r (deed.Turns d (Refused place bound limit)) q a = absurd a
  deed_before f s caller c r (deed.Turns d Idle) q a = absurd (subst IsQuiet a.call q)
  deed_before f s caller c r (deed.Turns d (Taken who)) q a = absurd (subst IsQuiet a.call q)
  deed_before f s caller c r (deed.Turns d Evaluated) q a = set_before s.circuits d Evaluated evaluated
  deed_before f s caller c r (deed.Turns d Answered) q a = absurd a
  deed_before f s caller c r other q a = λ d h. h

  done_before : (f : Fixed) (s : State) (d : Deed) → Before s (changed d s) → Before s (done f d s)
  done_before f s d h e p = h e (subst (λ (z : List CircuitState). P (circuit z e)) (done_beside f d s).circuits p)

  pub quiet_before : (f : Fixed) (s : State) (caller : ℕ) (c : Call) → IsQuiet c → Before s (step f s caller c).1
  unfolding step
  quiet_before f s caller c q =
      let v = judge f s caller c in done_before f s v.deed (deed_before f s caller c v.reply v.deed q (judged f s caller c))

  pub give_back_before : (f : Fixed) (s : State) (caller c : ℕ) → (P Idle → ⊥) → Before s (step f s caller (call.GiveBack c)).1
  unfolding step judge give_back done changed
  give_back_before f s caller c idle = at (is_taken_by caller (circuit s.circuits c))
    where
      at : (b : Bool) → Before s (done f (if b then done_with reply.Returned (deed.Turns c Idle) else says reply.NotTaken).deed s)
      at true = set_before s.circuits c Idle idle
      at false = λ d h. h

-- ---- take

-- a circuit that was idle is the caller's, or none is ready
pub data TakesOne (f : Fixed) (who : ℕ) (s : State) : Type 0 where
  none : job (step f s who call.Take).0 ≡ None → (step f s who call.Take).1 ≡ s → TakesOne f who s
  one : (c : ℕ) → is_idle (circuit s.circuits c) ≡ true → c < length f.plans → job (step f s who call.Take).0 ≡ Some c
      → (step f s who call.Take).1 ≡ with_circuit s c (Taken who) → TakesOne f who s

pub takes_one : (f : Fixed) (who : ℕ) (s : State) → TakesOne f who s
unfolding step
takes_one f who s = elim (takes_is f who s) [
  | nothing ready j same ↦ none j same
  | takes c ready l j same ↦ one c (ready_idle f s c ready) l j same
]

-- ---- who has taken a circuit

abbrev HasTaken : ℕ → CircuitState → Type 0
HasTaken who now = now ≡ Taken who

not_answered : (who : ℕ) → HasTaken who Answered → ⊥
not_answered who e = cc

not_evaluated : (who : ℕ) → HasTaken who Evaluated → ⊥
not_evaluated who e = cc

not_idle : (who : ℕ) → HasTaken who Idle → ⊥
not_idle who e = cc

-- a circuit that a caller has taken after a call it had before, or the call is its own take
pub data Had (f : Fixed) (s : State) (caller : ℕ) (c : Call) (who d : ℕ) : Type 0 where
  before : circuit s.circuits d ≡ Taken who → Had f s caller c who d
  taken : caller ≡ who → c ≡ call.Take → job (step f s caller c).0 ≡ Some d → Had f s caller c who d

take_had : (f : Fixed) (s : State) (caller who d : ℕ) → TakesOne f caller s → circuit (step f s caller call.Take).1.circuits d ≡ Taken who → Had f s caller call.Take who d
take_had f s caller who d (none j same) h = before (subst (λ (z : State). circuit z.circuits d ≡ Taken who) same h)
take_had f s caller who d (one c idle l j same) h =
    let now : circuit (set s.circuits c (Taken caller)) d ≡ Taken who = subst (λ (z : State). circuit z.circuits d ≡ Taken who) same h in
    elim (cases_eq d c) [
      | inr other ↦ before (sym (get_or-set_other s.circuits c d (Taken caller) Answered other) ∙ now)
      | inl it ↦
          elim (cases_eq caller who) [
            | inl mine ↦ taken mine refl (j ∙ ap (λ (z : ℕ). Some z) (sym it))
            | inr other ↦ before (set_before (HasTaken who) (not_answered who) (not_evaluated who) s.circuits c (Taken caller)
                (λ e. let same_ : caller ≡ who = taken_by_one caller who e in other same_) d now)
          ]
    ]
  where
    taken_by_one : (a b : ℕ) → Taken a ≡ Taken b → a ≡ b
    taken_by_one a b e = cc

pub had : (f : Fixed) (s : State) (caller : ℕ) (c : Call) (who d : ℕ) → circuit (step f s caller c).1.circuits d ≡ Taken who → Had f s caller c who d
had f s caller (call.Join p) who d h = before (quiet_before (HasTaken who) (not_answered who) (not_evaluated who) f s caller (call.Join p) tt d h)
had f s caller (call.Lose p) who d h = before (quiet_before (HasTaken who) (not_answered who) (not_evaluated who) f s caller (call.Lose p) tt d h)
had f s caller (call.Pending p) who d h = before (quiet_before (HasTaken who) (not_answered who) (not_evaluated who) f s caller (call.Pending p) tt d h)
had f s caller (call.Brief id) who d h = before (quiet_before (HasTaken who) (not_answered who) (not_evaluated who) f s caller (call.Brief id) tt d h)
had f s caller (call.Deliver id p rows) who d h =
    before (quiet_before (HasTaken who) (not_answered who) (not_evaluated who) f s caller (call.Deliver id p rows) tt d h)
had f s caller (call.Input c k) who d h = before (quiet_before (HasTaken who) (not_answered who) (not_evaluated who) f s caller (call.Input c k) tt d h)
had f s caller call.Take who d h = take_had f s caller who d (takes_one f caller s) h
had f s caller (call.Finish c) who d h = before (quiet_before (HasTaken who) (not_answered who) (not_evaluated who) f s caller (call.Finish c) tt d h)
had f s caller (call.GiveBack c) who d h = before (give_back_before (HasTaken who) (not_answered who) (not_evaluated who) f s caller c (not_idle who) d h)

-- ---- a circuit that is finished or given back isn't taken by that caller

mine_yes : (who : ℕ) (now : CircuitState) → now ≡ Taken who → is_taken_by who now ≡ true
mine_yes who now e = ap (is_taken_by who) e ∙ eq-eqb who who refl

-- a circuit that is the caller's is turned to something else, or was another's
turned : (who : ℕ) (circuits : List CircuitState) (c : ℕ) (now : CircuitState) → (now ≡ Taken who → ⊥) → is_taken_by who (circuit circuits c) ≡ true → circuit (set circuits c now) c ≡ Taken who → ⊥
turned who circuits c now no_ mine h = elim (cases_lt c (length circuits)) [
  | inl less ↦ no_ (sym (get_or-set_same circuits c now Answered less) ∙ h)
  | inr more ↦ let it : is_taken_by who Answered ≡ true = subst (λ (z : CircuitState). is_taken_by who z ≡ true) (get_or_past circuits c Answered more) mine in cc
]

abbrev NotMine : ℕ → ℕ → State → Type 0
NotMine who c t = circuit t.circuits c ≡ Taken who → ⊥

which : (f : Fixed) (s : State) (who c : ℕ) (b : Bool) (now : CircuitState) (r : Reply) → (b ≡ true → NotMine who c (done f (deed.Turns c now) s)) → (b ≡ false → NotMine who c s)
    → NotMine who c (done f (if b then done_with r (deed.Turns c now) else says reply.NotTaken).deed s)
unfolding done changed
which f s who c true now r h k = h refl
which f s who c false now r h k = k refl

turned_none : (f : Fixed) (s : State) (who c : ℕ) (now : CircuitState) → (now ≡ Taken who → ⊥) → is_taken_by who (circuit s.circuits c) ≡ true → NotMine who c (done f (deed.Turns c now) s)
unfolding changed
turned_none f s who c now no_ mine h = turned who s.circuits c now no_ mine (subst (λ (z : List CircuitState). circuit z c ≡ Taken who) (done_beside f (deed.Turns c now) s).circuits h)

pub finished_none : (f : Fixed) (s : State) (who c : ℕ) → circuit (step f s who (call.Finish c)).1.circuits c ≡ Taken who → ⊥
unfolding step judge finish
finished_none f s who c =
    which f s who c (is_taken_by who (circuit s.circuits c)) Evaluated reply.Finished (turned_none f s who c Evaluated (not_evaluated who))
    (λ other h. both_ways (is_taken_by who (circuit s.circuits c)) other (mine_yes who (circuit s.circuits c) h))

pub returned_none : (f : Fixed) (s : State) (who c : ℕ) → circuit (step f s who (call.GiveBack c)).1.circuits c ≡ Taken who → ⊥
unfolding step judge give_back
returned_none f s who c =
    which f s who c (is_taken_by who (circuit s.circuits c)) Idle reply.Returned (turned_none f s who c Idle (not_idle who))
    (λ other h. both_ways (is_taken_by who (circuit s.circuits c)) other (mine_yes who (circuit s.circuits c) h))
