-- Each circuit that is answered has a complete decryption.
use Rattle.std.proofs.Common.{◌≡◌, ◌∙◌, sym, ap, subst, refl, ℕ, ◌<◌, Bool, true, false, cond, inl, inr, List, [], ◌∷◌, length, map, set, Contains, arith}
use Rattle.std.proofs.lemmas.Bool.{both_ways, cases_eq, cases_lt, eq-eqb}
use Rattle.std.proofs.lemmas.List.{get_or-set_same, get_or-set_other, set_past}
use Rattle.proto_names.specs.Instances.{with_share, counted_at, after_share, is_done}
use Rattle.proto_names.specs.declared.signature.Signature.TheVariants.{Dec}
use Rattle.proto_names.specs.declared.instance.Instance.{Instance}
use Rattle.proto_names.specs.declared.instance.Stage.TheVariants.{Complete}
use Rattle.session_rules.specs.declared.call.Call.{Call}
use Rattle.session_rules.specs.declared.call.Entry.{Entry}
use Rattle.session_rules.specs.declared.reply.Reply.{Reply}
use Rattle.session_rules.specs.declared.deed.Deed.{Deed}
use Rattle.session_rules.specs.declared.deed.Deed.TheVariants.{Nothing, Joins, Loses, Counts, Gives, Turns}
use Rattle.session_rules.specs.declared.state.CircuitState.{CircuitState}
use Rattle.session_rules.specs.declared.state.CircuitState.TheVariants.{Refused, Idle, Taken, Evaluated, Answered}
use Rattle.session_rules.specs.declared.fixed.Fixed.{Fixed}
use Rattle.session_rules.specs.States.{State, plan, circuit, is_answered, has_done, opening}
use Rattle.session_rules.specs.Deeds.{answered_by, is_last, changed, done}
use Rattle.session_rules.specs.Steps.{judge, step}
use Rattle.session_rules.specs.Histories.{after, state_after}
use Rattle.session_rules.specs.Facts.{Kept, IsLater, is_begun}
use Rattle.session_rules.specs.Allowed.{MayTurn, Allows}
use Rattle.session_rules.specs.Grounds.{IsWhole}
use Rattle.session_rules.specs.Completions.{HasDecryption, AnsweredOnesAreDecrypted}
use Rattle.session_rules.proofs.Contained.{contains_map, any_from, any_true}
use Rattle.session_rules.proofs.Marks.{done_is, done_from}
use Rattle.session_rules.proofs.Judged.{judged}
use Rattle.session_rules.proofs.Stepwise.{done_beside}
use Rattle.session_rules.proofs.Shares.{answered_other, decides_dec}
use Rattle.session_rules.proofs.Keeps.{waits, deed_next, done_next, opening_kept, state_kept}
use Rattle.session_rules.proofs.Deliveries.{keys_stay}
use Rattle.session_rules.proofs.Grounds.{opening_circuit}

IsDecrypted : State → Type 0
IsDecrypted s = (c : ℕ) → c < length s.circuits → circuit s.circuits c ≡ Answered → has_done (Dec c) s.instances ≡ true

is_decrypted_at : (s : State) (c : ℕ) → IsDecrypted s → c < length s.circuits → circuit s.circuits c ≡ Answered → has_done (Dec c) s.instances ≡ true
unfolding IsDecrypted
is_decrypted_at s c d l e = d c l e

-- where those that are answered now were so before
no_more : (s t : State) → IsDecrypted s → IsLater s t → ((c : ℕ) → circuit t.circuits c ≡ Answered → circuit s.circuits c ≡ Answered) → IsDecrypted t
unfolding IsDecrypted
no_more s t d later before c l e = keys_stay s t (Dec c) later (λ x. cc) (d c (let n = later.circuits in omega (arith, n)) (before c e))

-- ---- a circuit comes to a state

turned_before : (circuits : List CircuitState) (d c : ℕ) (now : CircuitState) → is_answered now ≡ false → d < length circuits → circuit (set circuits d now) c ≡ Answered → circuit circuits c ≡ Answered
turned_before circuits d c now not_ l e = elim (cases_eq c d) [
  | inl same ↦
      let here : circuit (set circuits d now) c ≡ now = ap (λ (z : ℕ). circuit (set circuits d now) z) same ∙ get_or-set_same circuits d now Answered l in
      let its : now ≡ Answered = sym here ∙ e in
      absurd (both_ways (is_answered now) not_ (rw its refl))
  | inr other ↦ sym (get_or-set_other circuits d c now Answered other) ∙ e
]

turned_any : (circuits : List CircuitState) (d c : ℕ) (now : CircuitState) → is_answered now ≡ false → circuit (set circuits d now) c ≡ Answered → circuit circuits c ≡ Answered
turned_any circuits d c now not_ e = elim (cases_lt d (length circuits)) [
  | inl less ↦ turned_before circuits d c now not_ less e
  | inr more ↦ sym (ap (λ (z : List CircuitState). circuit z c) (set_past circuits d now more)) ∙ e
]

unanswered : (f : Fixed) (s : State) (caller : ℕ) (c : Call) (r : Reply) (d : ℕ) (now : CircuitState) → MayTurn f s caller c r d now → is_answered now ≡ false
unanswered f s caller c r d (Refused place bound limit) h = absurd h
unanswered f s caller c r d Idle h = refl
unanswered f s caller c r d (Taken who) h = refl
unanswered f s caller c r d Evaluated h = refl
unanswered f s caller c r d Answered h = absurd h

-- ---- a share is counted

share_there : (is : List Instance) (i : Instance) (p : ℕ) → Contains is i → Contains (after_share i.id p is) (with_share p i)
unfolding after_share
share_there is i p m =
    let here : counted_at i.id p i ≡ with_share p i = rw (eq-eqb i.id i.id refl) refl in
    subst (λ (z : Instance). Contains (map (counted_at i.id p) is) z) here (contains_map (counted_at i.id p) is i m)

share_is : (i : Instance) (p : ℕ) → is_last p i ≡ true → ((with_share p i).stage ≡ Complete) × ((with_share p i).signature ≡ i.signature)
unfolding with_share
share_is i p e = (rw e refl, refl)

last_decrypts : (s : State) (i : Instance) (p c : ℕ) → Contains s.instances i → IsDecrypted s → IsLater s (changed (Counts i p) s) → is_last p i ≡ true
    → c < length s.circuits → circuit (answered_by i.signature s.circuits) c ≡ Answered → has_done (Dec c) (changed (Counts i p) s).instances ≡ true
unfolding has_done changed
last_decrypts s i p c m d later e l h = elim (decides_dec i.signature c) [
  | inl its ↦ any_from (is_done (Dec c)) (after_share i.id p s.instances) (with_share p i) (share_there s.instances i p m)
      (done_from (Dec c) (with_share p i) (let x = share_is i p e in record { signature = x.1 ∙ its; complete = x.0 }))
  | inr none ↦ keys_stay s (changed (Counts i p) s) (Dec c) later (λ x. cc) (is_decrypted_at s c d l (sym (answered_other i.signature s.circuits c none) ∙ h))
]

count_decrypts : (s : State) (i : Instance) (p : ℕ) → Contains s.instances i → IsDecrypted s → IsLater s (changed (Counts i p) s) → (b : Bool) → is_last p i ≡ b → IsDecrypted (changed (Counts i p) s)
unfolding IsDecrypted changed
count_decrypts s i p m d later false e =
    no_more s (changed (Counts i p) s) d later (λ c h. subst (λ (z : Bool). circuit (cond z (answered_by i.signature s.circuits) s.circuits) c ≡ Answered) e h)
count_decrypts s i p m d later true e = λ c l h.
    last_decrypts s i p c m d later e (let n = later.circuits in omega (arith, n)) (subst (λ (z : Bool). circuit (cond z (answered_by i.signature s.circuits) s.circuits) c ≡ Answered) e h)

-- ---- any deed, any call, any history

abbrev Keeping : Fixed → State → Type 0
Keeping f s = Kept f s × IsDecrypted s

deed_decrypts : (f : Fixed) (s : State) (caller : ℕ) (c : Call) (r : Reply) (d : Deed) → Keeping f s → Allows f s caller c r d → IsLater s (changed d s) → IsDecrypted (changed d s)
unfolding changed
deed_decrypts f s caller c r Nothing k a later = k.1
deed_decrypts f s caller c r (Joins p) k a later = no_more s _ k.1 later (λ x h. h)
deed_decrypts f s caller c r (Loses p) k a later = no_more s _ k.1 later (λ x h. h)
deed_decrypts f s caller c r (Counts i p) k a later = count_decrypts s i p (waits f s c r i p k.0 a).within k.1 later (is_last p i) refl
deed_decrypts f s caller c r (Gives x j) k a later = no_more s _ k.1 later (λ x h. h)
deed_decrypts f s caller c r (Turns x now) k a later = no_more s _ k.1 later (λ y h. turned_any s.circuits x y now (unanswered f s caller c r x now a) h)

done_decrypts : (f : Fixed) (d : Deed) (s : State) → Keeping f (changed d s) → Keeping f (done f d s)
done_decrypts f d s k =
    let next = done_next f d s k.0 in
    let beside = done_beside f d s in
    (next.0, no_more (changed d s) (done f d s) k.1 next.1 (λ c h. subst (λ (z : List CircuitState). circuit z c ≡ Answered) beside.circuits h))

step_decrypts : (f : Fixed) (s : State) (caller : ℕ) (c : Call) → Keeping f s → Keeping f (step f s caller c).1
unfolding step
step_decrypts f s caller c k =
    let v = judge f s caller c in
    let a = judged f s caller c in
    let next = deed_next f s caller c v.reply v.deed k.0 a in
    done_decrypts f v.deed s (next.0, deed_decrypts f s caller c v.reply v.deed k a next.1)

after_decrypts : (f : Fixed) (s : State) (es : List Entry) → Keeping f s → Keeping f (after f s es)
unfolding after
after_decrypts f s [] k = k
after_decrypts f s (e ∷ es) k = after_decrypts f (step f s e.caller e.call).1 es (step_decrypts f s e.caller e.call k)

opening_decrypts : (f : Fixed) → IsWhole f → IsDecrypted (opening f)
unfolding IsDecrypted
opening_decrypts f w c l e =
    let n = (opening_kept f).circuits in
    let begins = w.begins c (omega (arith, n)) in
    absurd (both_ways (is_begun (plan f c).opening) begins (ap is_begun (sym (opening_circuit f c) ∙ e)))

decryption_of : (s : State) (c : ℕ) → has_done (Dec c) s.instances ≡ true → HasDecryption s c
unfolding has_done
decryption_of s c h =
    let x = any_true (is_done (Dec c)) s.instances h in
    let d = done_is (Dec c) x.item x.passes in
    record { decryption = x.item; issued = x.within; signature = d.signature; complete = d.complete }

pub answered_ones_are_decrypted : AnsweredOnesAreDecrypted
answered_ones_are_decrypted f es c w l e =
    let s = state_after f es in
    let n = (state_kept f es).circuits in
    let d = after_decrypts f (opening f) es (opening_kept f, opening_decrypts f w) in
    decryption_of s c (is_decrypted_at s c d.1 (omega (arith, n)) e)
