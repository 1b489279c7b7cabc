-- After every call neither rule of issue applies.
use Rattle.std.proofs.Common.{◌≡◌, ◌∙◌, sym, ap, ap₂, subst, refl, ℕ, ◌≤◌, Bool, true, false, nat_eq, ◌&&◌, cond, inl, inr, List, [], ◌∷◌, length, map, find, set, Contains, Option, Some, None, length-set}
use Rattle.std.specs.Prelude.{if◌then◌else◌, nat_le}
use Rattle.std.specs.List.{range_with_len, list_any}
use Rattle.std.specs.Option.{option_map, option_or, option_and_then}
use Rattle.std.proofs.lemmas.Bool.{and_right, lt-leb, cases_eq, eqb-true, or_parts}
use Rattle.std.proofs.lemmas.List.{get_or-set_other}
use Rattle.share_spec.specs.Sets.{has, members_to, members, count}
use Rattle.proto_names.specs.Names.{same}
use Rattle.proto_names.specs.Instances.{lives, is_done, missing, with_share, counted_at, after_share}
use Rattle.proto_names.specs.declared.signature.Signature.{Signature}
use Rattle.proto_names.specs.declared.signature.Signature.TheVariants.{Rlk1, Rlk2, Dec}
use Rattle.proto_names.specs.declared.instance.Instance.{Instance}
use Rattle.proto_names.specs.declared.instance.Stage.TheVariants.{Opened}
use Rattle.session_rules.specs.declared.call.Call.{Call}
use Rattle.session_rules.specs.declared.call.Entry.{Entry}
use Rattle.session_rules.specs.declared.reply.Reply.{Reply}
use Rattle.session_rules.specs.declared.deed.Deed.{Deed}
use Rattle.session_rules.specs.declared.deed.Deed.TheVariants.{Nothing, Joins, Loses, Counts, Gives, Turns}
use Rattle.session_rules.specs.declared.state.CircuitState.{CircuitState}
use Rattle.session_rules.specs.declared.state.CircuitState.TheVariants.{Answered}
use Rattle.session_rules.specs.declared.moves.Move.TheVariants.{Issue}
use Rattle.session_rules.specs.declared.fixed.Fixed.{Fixed}
use Rattle.session_rules.specs.States.{State, circuit, opening, is_evaluated, is_answered, has_live, has_done}
use Rattle.session_rules.specs.Issues.{keys, enough, condition, may_issue, may_decrypt, next_decryption, next_signature, outdated, rule_1, second_round, chosen_present, issued_as, rule_2, next_move, issue}
use Rattle.session_rules.specs.Deeds.{is_last, changed, leads_on, done}
use Rattle.session_rules.specs.Steps.{judge, step}
use Rattle.session_rules.specs.Histories.{after}
use Rattle.session_rules.specs.Facts.{Kept, IsAtRest, CallsLeaveRest, HistoriesLeaveRest}
use Rattle.session_rules.specs.Allowed.{Allows}
use Rattle.session_rules.proofs.Contained.{contains_here, contains_there}
use Rattle.session_rules.proofs.Marks.{one_number, done_is}
use Rattle.session_rules.proofs.Judged.{judged}
use Rattle.session_rules.proofs.Later.{circuit_set}
use Rattle.session_rules.proofs.Keeps.{Waits, waits, turned, deed_next, step_next, opening_kept}
use Rattle.session_rules.proofs.Weights.{issue_ends}
use Rattle.session_rules.proofs.Issued.{or_none}

-- ---- searches by tests that agree

find_agree : {X : Type 0} (p q : X → Bool) (xs : List X) → ((x : X) → p x ≡ q x) → find p xs ≡ find q xs
find_agree p q [] h = refl
find_agree p q (x ∷ xs) h = rw (h x, find_agree p q xs h) refl

find_nothing : {X : Type 0} (test : X → Bool) (xs : List X) → ((x : X) → test x ≡ false) → find test xs ≡ None
find_nothing test [] h = refl
find_nothing test (x ∷ xs) h = rw (h x) (find_nothing test xs h)

any_map : {X : Type 0} (test : X → Bool) (g : X → X) (xs : List X) → ((x : X) → Contains xs x → test (g x) ≡ test x) → list_any test (map g xs) ≡ list_any test xs
any_map test g [] h = refl
any_map test g (x ∷ xs) h = rw (h x (contains_here x xs), any_map test g xs (λ y m. h y (contains_there x xs y m))) refl

found_same : {X : Type 0} (b : Bool) (x y : X) (o p : Option X) → (b ≡ true → x ≡ y) → o ≡ p → cond b (Some x) o ≡ cond b (Some y) p
found_same true x y o p h e = ap Some (h refl)
found_same false x y o p h e = e

find_map : {X : Type 0} (test : X → Bool) (g : X → X) (xs : List X) → ((x : X) → Contains xs x → test (g x) ≡ test x) → ((x : X) → Contains xs x → test x ≡ true → g x ≡ x) → find test (map g xs) ≡ find test xs
find_map test g [] h same_ = refl
find_map test g (x ∷ xs) h same_ =
    rw (h x (contains_here x xs)) (found_same (test x) (g x) x (find test (map g xs)) (find test xs) (same_ x (contains_here x xs))
    (find_map test g xs (λ y m. h y (contains_there x xs y m)) (λ y m. same_ y (contains_there x xs y m))))

none_then : {A B : Type 0} (g h : A → Option B) (o : Option A) → ((x : A) → g x ≡ None → h x ≡ None) → option_and_then g o ≡ None → option_and_then h o ≡ None
none_then g h None n e = refl
none_then g h (Some x) n e = n x e

then_agree : {A B : Type 0} (g h : A → Option B) (o p : Option A) → o ≡ p → ((x : A) → g x ≡ h x) → option_and_then g o ≡ option_and_then h p
then_agree g h None None e a = refl
then_agree g h None (Some x) e a = cc
then_agree g h (Some x) None e a = cc
then_agree g h (Some x) (Some y) e a = let same_ : x ≡ y = cc in a x ∙ ap h same_

-- ---- what the rules look at

-- states that are alike for the rules
record IsAlike (s t : State) : Type 0 where
  present : t.present ≡ s.present
  lives_ : (σ : Signature) → has_live σ t.instances ≡ has_live σ s.instances
  done_ : has_done Rlk1 t.instances ≡ has_done Rlk1 s.instances
  first : find (is_done Rlk1) t.instances ≡ find (is_done Rlk1) s.instances
  many : length t.circuits ≡ length s.circuits
  evaluated : (c : ℕ) → is_evaluated (circuit t.circuits c) ≡ is_evaluated (circuit s.circuits c)

may_alike : (f : Fixed) (s t : State) (σ : Signature) → IsAlike s t → may_issue f t σ ≡ may_issue f s σ
unfolding may_issue condition enough
may_alike f s t σ a = rw (a.lives_ σ, a.done_, a.present) refl

decrypt_alike : (f : Fixed) (s t : State) (c : ℕ) → IsAlike s t → may_decrypt f t c ≡ may_decrypt f s c
unfolding may_decrypt
decrypt_alike f s t c a = rw (a.evaluated c, may_alike f s t (Dec c) a) refl

signature_alike : (f : Fixed) (s t : State) → IsAlike s t → next_signature f t ≡ next_signature f s
unfolding next_signature next_decryption
signature_alike f s t a =
    rw (a.many) (ap₂ option_or (find_agree (may_issue f t) (may_issue f s) (keys f) (λ σ. may_alike f s t σ a))
    (ap (option_map Dec) (find_agree (may_decrypt f t) (may_decrypt f s) (range_with_len 0 (length s.circuits)) (λ c. decrypt_alike f s t c a))))

-- whether an instance is issued; loads may differ, and with them its set
issued_alike : (f : Fixed) (s t : State) (σ : Signature) → IsAlike s t → issued_as f s σ ≡ None → issued_as f t σ ≡ None
unfolding issued_as
issued_alike f s t σ a = rw (a.first) (at (same σ Rlk2))
  where
    at : (b : Bool) → (if b then option_map second_round (find (is_done Rlk1) s.instances) else Some (Issue σ (chosen_present f s) 0)) ≡ None
        → (if b then option_map second_round (find (is_done Rlk1) s.instances) else Some (Issue σ (chosen_present f t) 0)) ≡ None
    at true e = e
    at false e = cc

outdated_alike : (s t : State) (i : Instance) → IsAlike s t → outdated t i ≡ outdated s i
unfolding outdated
outdated_alike s t i a = rw (a.present) refl

rule_1_alike : (s t : State) → IsAlike s t → rule_1 t ≡ rule_1 s
unfolding rule_1
rule_1_alike s t a = rw (a.lives_ Rlk2) (ap (λ (z : Option _). if has_live Rlk2 s.instances then None else z)
    (then_agree (outdated t) (outdated s) (find (is_done Rlk1) t.instances) (find (is_done Rlk1) s.instances) a.first (λ i. outdated_alike s t i a)))

rule_2_alike : (f : Fixed) (s t : State) → IsAlike s t → rule_2 f s ≡ None → rule_2 f t ≡ None
unfolding rule_2
rule_2_alike f s t a e = rw (signature_alike f s t a) (none_then (issued_as f s) (issued_as f t) (next_signature f s) (λ σ. issued_alike f s t σ a) e)

-- where no rule applies to one, none applies to the other
next_alike : (f : Fixed) (s t : State) → IsAlike s t → IsAtRest f s → IsAtRest f t
unfolding next_move
next_alike f s t a e =
    let none = or_none (rule_1 s) (rule_2 f s) e in
    rw (rule_1_alike s t a, none.0) (rule_2_alike f s t a none.1)

-- ---- a share that is not the last

-- it is opened before and after
share_lives : (σ : Signature) (i : Instance) (p : ℕ) → i.stage ≡ Opened → nat_eq (missing p i) 0 ≡ false → lives σ (with_share p i) ≡ lives σ i
unfolding lives with_share
share_lives σ i p opened more = rw (more, opened) refl

share_done : (i : Instance) (p : ℕ) → i.stage ≡ Opened → nat_eq (missing p i) 0 ≡ false → is_done Rlk1 (with_share p i) ≡ is_done Rlk1 i
unfolding is_done with_share
share_done i p opened more = rw (more, opened) refl

-- a fact of each by the test
at_test : (is : List Instance) (i : Instance) (p : ℕ) (P : Instance → Instance → Type 0) (a : Instance) → (nat_eq a.id i.id ≡ true → i ≡ a) → P i (with_share p i) → P a a → P a (counted_at i.id p a)
at_test is i p P a itself its other = at (nat_eq a.id i.id) refl
  where
    at : (b : Bool) → nat_eq a.id i.id ≡ b → P a (if b then with_share p a else a)
    at true e = subst (λ (z : Instance). P z (with_share p z)) (itself e) its
    at false e = other

count_alike : (f : Fixed) (s : State) (i : Instance) (p : ℕ) → Kept f s → Waits s i p → is_last p i ≡ false → IsAlike s (changed (Counts i p) s)
unfolding after_share has_live has_done changed
count_alike f s i p k w more =
    let is = s.instances in
    let g = counted_at i.id p in
    let itself : (a : Instance) → Contains is a → nat_eq a.id i.id ≡ true → i ≡ a = λ a n e. one_number is i a k.numbered w.within n (sym (eqb-true a.id i.id e)) in
    let dones : (a : Instance) → Contains is a → is_done Rlk1 (g a) ≡ is_done Rlk1 a =
    λ a n. at_test is i p (λ x y. is_done Rlk1 y ≡ is_done Rlk1 x) a (itself a n) (share_done i p w.opened more) refl in
    let circuits : (changed (Counts i p) s).circuits ≡ s.circuits = rw more refl in
    record {
      present = refl;
      lives_ = λ σ. any_map (lives σ) g is (λ a n. at_test is i p (λ x y. lives σ y ≡ lives σ x) a (itself a n) (share_lives σ i p w.opened more) refl);
      done_ = any_map (is_done Rlk1) g is dones;
      first = find_map (is_done Rlk1) g is dones (λ a n d. at_test is i p (λ x y. is_done Rlk1 x ≡ true → y ≡ x) a (itself a n) (λ d. let c = (done_is Rlk1 i d).complete in let o = w.opened in cc) (λ d. refl) d);
      many = ap length circuits;
      evaluated = λ c. ap (λ (z : List CircuitState). is_evaluated (circuit z c)) circuits;
    }

-- ---- a circuit that is taken or given back

turn_alike : (s : State) (c : ℕ) (now : CircuitState) → is_evaluated (circuit s.circuits c) ≡ false → is_evaluated now ≡ false → IsAlike s (changed (Turns c now) s)
unfolding changed
turn_alike s c now was is = record {
  present = refl;
  lives_ = λ σ. refl;
  done_ = refl;
  first = refl;
  many = length-set s.circuits c now;
  evaluated = λ d. elim (cases_eq d c) [
    | inr other ↦ ap is_evaluated (get_or-set_other s.circuits c d now Answered other)
    | inl same_ ↦ subst (λ (z : ℕ). is_evaluated (circuit (set s.circuits c now) z) ≡ is_evaluated (circuit s.circuits z)) (sym same_) (elim (circuit_set s.circuits c now) [
      | inl at ↦ ap is_evaluated at ∙ is ∙ sym was
      | inr none ↦ ap (λ (z : List CircuitState). is_evaluated (circuit z c)) none
    ])
  ];
}

-- ---- any call

give_alike : (s : State) (c k : ℕ) → IsAlike s (changed (Gives c k) s)
unfolding changed
give_alike s c k = record { present = refl; lives_ = λ σ. refl; done_ = refl; first = refl; many = refl; evaluated = λ d. refl }

-- where the rules aren't applied, what has changed lets none of them apply
quiet : (f : Fixed) (s : State) (caller : ℕ) (c : Call) (r : Reply) (d : Deed) → Kept f s → Allows f s caller c r d → leads_on d ≡ false → IsAtRest f s → IsAtRest f (changed d s)
unfolding changed
quiet f s caller c r Nothing k a e rest = rest
quiet f s caller c r (Joins p) k a e rest = cc
quiet f s caller c r (Loses p) k a e rest = cc
quiet f s caller c r (Counts i p) k a e rest = next_alike f s (changed (Counts i p) s) (count_alike f s i p k (waits f s c r i p k a) e) rest
quiet f s caller c r (Gives d j) k a e rest = next_alike f s (changed (Gives d j) s) (give_alike s d j) rest
quiet f s caller c r (Turns d now) k a e rest =
    next_alike f s (changed (Turns d now) s) (turn_alike s d now (or_parts (is_evaluated (circuit s.circuits d)) (is_answered (circuit s.circuits d)) (turned f s caller c r d now a).unsettled).0 e) rest

deed_rests : (f : Fixed) (s : State) (caller : ℕ) (c : Call) (r : Reply) (d : Deed) → Kept f s → Allows f s caller c r d → IsAtRest f s → IsAtRest f (done f d s)
unfolding done
deed_rests f s caller c r d k a rest = at (leads_on d) refl
  where
    at : (b : Bool) → leads_on d ≡ b → IsAtRest f (if b then issue f (changed d s) else changed d s)
    at true e = issue_ends f (changed d s) (deed_next f s caller c r d k a).0
    at false e = quiet f s caller c r d k a e rest

pub calls_leave_rest : CallsLeaveRest
unfolding step
calls_leave_rest f s caller c k rest = let v = judge f s caller c in deed_rests f s caller c v.reply v.deed k (judged f s caller c) rest

-- ---- all calls, from the beginning

rest_after : (f : Fixed) (s : State) (es : List Entry) → Kept f s → IsAtRest f s → IsAtRest f (after f s es)
unfolding after
rest_after f s [] k rest = rest
rest_after f s (e ∷ es) k rest = rest_after f (step f s e.caller e.call).1 es (step_next f s e.caller e.call k).0 (calls_leave_rest f s e.caller e.call k rest)

count_none : count 0 ≡ 0
unfolding members members_to has
count_none = refl

none_at_first : (f : Fixed) (s : State) (σ : Signature) → s.present ≡ 0 → s.instances ≡ [] → 1 ≤ f.threshold → may_issue f s σ ≡ false
unfolding may_issue condition enough has_done has_live
none_at_first f s σ nobody none some_ = rw (nobody, none, count_none) (at (same σ Rlk2) (nat_le f.threshold 0) (lt-leb f.threshold 0 some_))
  where
    at : (b c : Bool) → c ≡ false → (true && cond b false c) ≡ false
    at true c e = refl
    at false c e = e

first_rest : (f : Fixed) (s : State) → s.present ≡ 0 → s.instances ≡ [] → 1 ≤ f.threshold → IsAtRest f s
unfolding next_move rule_1 rule_2 next_signature next_decryption may_decrypt has_live
first_rest f s nobody none some_ =
    rw (find_nothing (may_issue f s) (keys f) (λ σ. none_at_first f s σ nobody none some_))
    (rw (find_nothing (may_decrypt f s) (range_with_len 0 (length s.circuits)) (λ c. and_right (is_evaluated (circuit s.circuits c)) (may_issue f s (Dec c)) (none_at_first f s (Dec c) nobody none some_))) (rw none refl))

opening_rest : (f : Fixed) → 1 ≤ f.threshold → IsAtRest f (opening f)
unfolding opening
opening_rest f some_ = first_rest f (opening f) refl refl some_

pub histories_leave_rest : HistoriesLeaveRest
histories_leave_rest f es some_ = rest_after f (opening f) es (opening_kept f) (opening_rest f some_)
