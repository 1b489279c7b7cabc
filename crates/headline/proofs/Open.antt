-- Why an admitted circuit has no answer.
use Rattle.std.proofs.Common.{◌≡◌, ◌∙◌, sym, ap, refl, ℕ, suc, ◌<◌, Bool, true, false, ◌&&◌, inl, inr, List, [], ◌∷◌, length, get_or, slice_index_or, None, arith}
use Rattle.std.specs.List.{list_all}
use Rattle.std.proofs.lemmas.Bool.{both_ways, cases_Bool, and_from, not-true}
use Rattle.proto_names.specs.Instances.{is_done}
use Rattle.proto_names.specs.declared.signature.Signature.TheVariants.{Dec}
use Rattle.session_rules.specs.declared.call.Entry.{Entry}
use Rattle.session_rules.specs.declared.state.CircuitState.{CircuitState}
use Rattle.session_rules.specs.declared.state.CircuitState.TheVariants.{Refused, Idle, Taken, Evaluated, Answered}
use Rattle.session_rules.specs.declared.fixed.Fixed.{Fixed}
use Rattle.session_rules.specs.States.{State, circuit, plan, is_admitted, is_refused, is_idle, has_done}
use Rattle.session_rules.specs.Steps.{is_given_input, has_keys, ready, next_ready}
use Rattle.session_rules.specs.Histories.{state_after}
use Rattle.session_rules.specs.Facts.{Kept}
use Rattle.session_rules.specs.Grounds.{Grounded, IsWhole}
use Rattle.session_rules.proofs.Contained.{any_true, contains_range, find_none}
use Rattle.session_rules.proofs.Marks.{done_is}
use Rattle.session_rules.proofs.Keeps.{state_kept}
use Rattle.session_rules.proofs.Grounds.{state_grounds}
use Rattle.headline.specs.Headline.{Waits, input, key, decryption}
use Rattle.headline.proofs.Refused.{others_are_not_refused}

-- an input that isn't given, where not all are
record Missing (row : List Bool) : Type 0 where
  place : ℕ
  within : place < length row
  off : get_or row place false ≡ false

missing_in : (row : List Bool) → list_all is_given_input row ≡ false → Missing row
missing_in [] e = cc
missing_in (false ∷ row) e = record { place = 0; within = omega arith; off = refl }
missing_in (true ∷ row) e =
    let rest = missing_in row e in
    record { place = suc rest.place; within = let l = rest.within in omega arith; off = rest.off }

ready_from : (f : Fixed) (s : State) (c : ℕ) → circuit s.circuits c ≡ Idle → list_all is_given_input (slice_index_or s.given c []) ≡ true → has_keys s (plan f c) ≡ true → ready f s c ≡ true
unfolding ready
ready_from f s c e given keys =
    and_from (is_idle (circuit s.circuits c) && list_all is_given_input (slice_index_or s.given c [])) (has_keys s (plan f c))
    (and_from (is_idle (circuit s.circuits c)) (list_all is_given_input (slice_index_or s.given c [])) (ap is_idle e) given) keys

pub unready : (f : Fixed) (s : State) (c : ℕ) → next_ready f s ≡ None → c < length f.plans → ready f s c ≡ false
unfolding next_ready
unready f s c e l = find_none (ready f s) _ c e (contains_range 0 (length f.plans) c (omega arith) (omega arith))

idle_waits : (f : Fixed) (s : State) (c : ℕ) → Grounded f s → next_ready f s ≡ None → c < length f.plans → circuit s.circuits c ≡ Idle → Waits f s c
idle_waits f s c g none l e = elim (cases_Bool (has_keys s (plan f c))) [
  | inr lacks ↦ key lacks
  | inl keys ↦ elim (cases_Bool (list_all is_given_input (slice_index_or s.given c []))) [
    | inl given ↦ absurd (both_ways (ready f s c) (unready f s c none l) (ready_from f s c e given keys))
    | inr some ↦
        let x = missing_in (slice_index_or s.given c []) some in
        let n = g.rows c in
        input x.place (let m = x.within in omega (arith, m, n)) x.off
  ]
]

decryption_there : (f : Fixed) (s : State) (c : ℕ) → Kept f s → has_done (Dec c) s.instances ≡ true → circuit s.circuits c ≡ Answered
unfolding has_done
decryption_there f s c k h =
    let x = any_true (is_done (Dec c)) s.instances h in
    let d = done_is (Dec c) x.item x.passes in
    (k.decrypts x.item x.within).complete c d.signature d.complete

waits_by : (f : Fixed) (s : State) (c : ℕ) → Kept f s → Grounded f s → next_ready f s ≡ None → c < length f.plans → is_refused (circuit s.circuits c) ≡ false
    → ((who : ℕ) → circuit s.circuits c ≡ Taken who → ⊥) → (circuit s.circuits c ≡ Answered → ⊥) → (now : CircuitState) → circuit s.circuits c ≡ now → Waits f s c
waits_by f s c k g none l admitted untaken open_ (Refused place bound limit) e = let h : is_refused (Refused place bound limit) ≡ false = sym (ap is_refused e) ∙ admitted in cc
waits_by f s c k g none l admitted untaken open_ Idle e = idle_waits f s c g none l e
waits_by f s c k g none l admitted untaken open_ (Taken who) e = absurd (untaken who e)
waits_by f s c k g none l admitted untaken open_ Evaluated e = elim (cases_Bool (has_done (Dec c) s.instances)) [
  | inl done ↦ absurd (open_ (decryption_there f s c k done))
  | inr none_ ↦ decryption e none_
]
waits_by f s c k g none l admitted untaken open_ Answered e = absurd (open_ e)

pub waits : (f : Fixed) (es : List Entry) (c : ℕ) → IsWhole f → next_ready f (state_after f es) ≡ None → c < length f.plans → is_admitted (plan f c) ≡ true
    → ((who : ℕ) → circuit (state_after f es).circuits c ≡ Taken who → ⊥) → (circuit (state_after f es).circuits c ≡ Answered → ⊥) → Waits f (state_after f es) c
waits f es c w none l admitted untaken open_ =
    let s = state_after f es in
    let free : is_refused (plan f c).opening ≡ false = not-true (is_refused (plan f c).opening) admitted in
    waits_by f s c (state_kept f es) (state_grounds f es w).1 none l (others_are_not_refused f es c ∙ free) untaken open_ (circuit s.circuits c) refl
