-- A circuit that is begun has its inputs and its keys, in every state that calls lead to.
use Rattle.std.proofs.Common.{◌≡◌, ◌∙◌, sym, ap, subst, refl, ℕ, zero, suc, Bool, true, false, cond, ◌⊎◌, inl, inr, List, [], ◌∷◌, ◌++◌, length, map, get_or, set, slice_index_or, Contains, Some, arith, length-set}
use Rattle.std.specs.Prelude.{replicate}
use Rattle.std.specs.List.{list_all}
use Rattle.std.proofs.lemmas.Bool.{both_ways, cases_Bool, cases_eq, cases_lt, and_parts, and_from}
use Rattle.std.proofs.lemmas.List.{get_or-map, get_or-set_same, get_or-set_other, get_or_past, set_past, length-map, length-replicate, get_or-replicate}
use Rattle.std.proofs.lemmas.List.Elements.{Contains-push_cases}
use Rattle.proto_names.specs.Instances.{after_share, fresh}
use Rattle.proto_names.specs.declared.signature.Signature.{Signature}
use Rattle.proto_names.specs.declared.signature.Signature.TheVariants.{Pk, Rlk2, Rot, Dec}
use Rattle.proto_names.specs.declared.instance.Instance.{Instance}
use Rattle.session_rules.specs.declared.call.Call.{Call}
use Rattle.session_rules.specs.declared.call.Entry.{Entry}
use Rattle.session_rules.specs.declared.reply.Reply.{Reply}
use Rattle.session_rules.specs.declared.deed.Deed.{Deed}
use Rattle.session_rules.specs.declared.deed.Deed.TheVariants.{Nothing, Joins, Loses, Counts, Gives, Turns}
use Rattle.session_rules.specs.declared.state.CircuitState.{CircuitState}
use Rattle.session_rules.specs.declared.state.CircuitState.TheVariants.{Refused, Idle, Taken, Evaluated, Answered}
use Rattle.session_rules.specs.declared.moves.Move.{Move}
use Rattle.session_rules.specs.declared.fixed.Fixed.{Fixed}
use Rattle.session_rules.specs.States.{State, circuit, plan, no_plan, is_refused, is_given, has_done, opening, none_given, opening_of}
use Rattle.session_rules.specs.Issues.{keys as needed_keys, next_move, instances_after, moved, chosen_present}
use Rattle.session_rules.specs.Deeds.{after_loss, is_last, answered_by, with_input, changed, done}
use Rattle.session_rules.specs.Steps.{is_given_input, has_keys, judge, step}
use Rattle.session_rules.specs.Histories.{after, state_after}
use Rattle.session_rules.specs.Facts.{is_begun, Kept, IsLater, RefusedOnesBeganSo}
use Rattle.session_rules.specs.Grounds.{CallsGround, HistoriesGround, Grounded, IsWhole}
use Rattle.session_rules.specs.Allowed.{MayTurn, Allows}
use Rattle.session_rules.proofs.Stepwise.{void_length, done_keeps}
use Rattle.session_rules.proofs.Judged.{judged}
use Rattle.session_rules.proofs.Contained.{contains_nil}
use Rattle.session_rules.proofs.Marks.{numbered_at}
use Rattle.session_rules.proofs.MoveKinds.{MoveIs, gives_up, second, other, move_is, IsNeeded, key, decryption}
use Rattle.session_rules.proofs.Readiness.{keys_from, ready_is, found_ready}
use Rattle.session_rules.proofs.Shares.{decides_dec, answered_other, answered_its}
use Rattle.session_rules.proofs.Later.{circuit_set}
use Rattle.session_rules.proofs.Keeps.{Waits, waits, turned, deed_next, move_next, after_next, opening_kept}
use Rattle.session_rules.proofs.Deliveries.{keys_stay}
use Rattle.session_rules.proofs.Within.{Was, was_or_new}

abbrev Asked : Fixed → Instance → Type 0
Asked f i = (Contains (needed_keys f) i.signature) ⊎ ((c : ℕ) × (i.signature ≡ Dec c))

-- an instance that was there before is asked for as it was
asked_before : (f : Fixed) (s : State) (i : Instance) → Grounded f s → Was s.instances i → Asked f i
asked_before f s i g was = elim (g.asked was.before was.within) [
  | inl m ↦ inl (subst (λ (z : Signature). Contains (needed_keys f) z) (sym was.same.signature) m)
  | inr d ↦ inr (d.0, was.same.signature ∙ d.1)
]

asked_as_many : (f : Fixed) (s t : State) → Grounded f s → Kept f t → IsLater s t → length t.instances ≡ length s.instances → (i : Instance) → Contains t.instances i → Asked f i
asked_as_many f s t g k later e i m = elim (was_or_new f s t i k later m) [
  | inl was ↦ asked_before f s i g was
  | inr new ↦ let n = numbered_at t.instances i k.numbered m in let l = m.1 in absurd (omega arith)
]

-- a state that is later, with the same inputs, and in which no circuit is begun
record GrowsOn (f : Fixed) (s t : State) : Type 0 where
  later : IsLater s t
  given : t.given ≡ s.given
  begun : (c : ℕ) → is_begun (circuit t.circuits c) ≡ true → is_begun (circuit s.circuits c) ≡ true
  refused : (c : ℕ) → is_refused (circuit t.circuits c) ≡ is_refused (circuit s.circuits c)
  asked : (i : Instance) → Contains t.instances i → Asked f i

grows_on : (f : Fixed) (s t : State) → Grounded f s → GrowsOn f s t → Grounded f t
grows_on f s t g n = record {
  rows = λ c. ap (λ (z : List (List Bool)). length (get_or z c [])) n.given ∙ g.rows c;
  key = λ c k e. keys_stay s t Pk n.later (λ h. cc) (g.key c k (subst (λ (z : List (List Bool)). get_or (get_or z c []) k false ≡ true) n.given e));
  inputs = λ c e. subst (λ (z : List (List Bool)). list_all is_given_input (get_or z c []) ≡ true) (sym n.given) (g.inputs c (n.begun c e));
  keys = λ c e. keys_from s t (plan f c) (keys_stay s t Rlk2 n.later (λ h. cc)) (λ x. keys_stay s t (Rot x) n.later (λ h. cc)) (g.keys c (n.begun c e));
  asked = n.asked;
  refused = λ c. n.refused c ∙ g.refused c;
}

-- ---- a share is counted

count_circuit : (s : State) (i : Instance) (p c : ℕ) → ((d : ℕ) → i.signature ≡ Dec d → circuit s.circuits d ≡ Evaluated) → (b : Bool)
    → (circuit (cond b (answered_by i.signature s.circuits) s.circuits) c ≡ circuit s.circuits c)
    ⊎ ((circuit (cond b (answered_by i.signature s.circuits) s.circuits) c ≡ Answered) × (circuit s.circuits c ≡ Evaluated))
count_circuit s i p c evaluated false = inl refl
count_circuit s i p c evaluated true = elim (decides_dec i.signature c) [
  | inl its ↦ inr (answered_its i.signature s.circuits c its, evaluated c its)
  | inr none ↦ inl (answered_other i.signature s.circuits c none)
]

share_length : (id p : ℕ) (is : List Instance) → length (after_share id p is) ≡ length is
unfolding after_share
share_length id p is = length-map is _

loss_length : (p : ℕ) (is : List Instance) → length (after_loss p is) ≡ length is
unfolding after_loss
loss_length p is = length-map is _

count_grows : (f : Fixed) (s : State) (i : Instance) (p : ℕ) → Kept f s → Grounded f s → Waits s i p → Kept f (changed (Counts i p) s) → IsLater s (changed (Counts i p) s) → GrowsOn f s (changed (Counts i p) s)
unfolding changed
count_grows f s i p k g w kept later =
    let t = changed (Counts i p) s in
    let evaluated : (d : ℕ) → i.signature ≡ Dec d → circuit s.circuits d ≡ Evaluated = λ d its. (k.decrypts i w.within).opened d its w.opened in
    record {
      later = later;
      given = refl;
      begun = λ c e. elim (count_circuit s i p c evaluated (is_last p i)) [
        | inl same_ ↦ subst (λ (z : CircuitState). is_begun z ≡ true) same_ e
        | inr now ↦ rw now.1 refl
      ];
      refused = λ c. elim (count_circuit s i p c evaluated (is_last p i)) [
        | inl same_ ↦ ap is_refused same_
        | inr now ↦ ap is_refused now.0 ∙ sym (ap is_refused now.1)
      ];
      asked = asked_as_many f s t g kept later (share_length i.id p s.instances);
    }

-- ---- an input is given

row_length : (given : List (List Bool)) (c k d : ℕ) → length (get_or (with_input given c k) d []) ≡ length (get_or given d [])
row_length given c k d = elim (cases_eq d c) [
  | inr n ↦ ap length (get_or-set_other given c d (set (get_or given c []) k true) [] n)
  | inl e ↦ elim (cases_lt c (length given)) [
    | inl less ↦ subst (λ (z : ℕ). length (get_or (with_input given c k) z []) ≡ length (get_or given z [])) (sym e)
        (ap length (get_or-set_same given c (set (get_or given c []) k true) [] less) ∙ length-set (get_or given c []) k true)
    | inr more ↦ ap (λ (z : List (List Bool)). length (get_or z d [])) (set_past given c (set (get_or given c []) k true) more)
  ]
]

all_set : (row : List Bool) (k : ℕ) → list_all is_given_input row ≡ true → list_all is_given_input (set row k true) ≡ true
all_set [] k e = e
all_set (b ∷ bs) zero e = (and_parts b (list_all is_given_input bs) e).1
all_set (b ∷ bs) (suc k) e = let both = and_parts b (list_all is_given_input bs) e in and_from b (list_all is_given_input (set bs k true)) both.0 (all_set bs k both.1)

row_given : (given : List (List Bool)) (c k d : ℕ) → list_all is_given_input (get_or given d []) ≡ true → list_all is_given_input (get_or (with_input given c k) d []) ≡ true
row_given given c k d e = elim (cases_eq d c) [
  | inr n ↦ subst (λ (z : List Bool). list_all is_given_input z ≡ true) (sym (get_or-set_other given c d (set (get_or given c []) k true) [] n)) e
  | inl same_ ↦ elim (cases_lt c (length given)) [
    | inl less ↦ subst (λ (z : ℕ). list_all is_given_input (get_or (with_input given c k) z []) ≡ true) (sym same_)
        (subst (λ (z : List Bool). list_all is_given_input z ≡ true) (sym (get_or-set_same given c (set (get_or given c []) k true) [] less))
        (all_set (get_or given c []) k (subst (λ (z : ℕ). list_all is_given_input (get_or given z []) ≡ true) same_ e)))
    | inr more ↦ subst (λ (z : List (List Bool)). list_all is_given_input (get_or z d []) ≡ true) (sym (set_past given c (set (get_or given c []) k true) more)) e
  ]
]

give_grounds : (f : Fixed) (s : State) (c k : ℕ) → has_done Pk s.instances ≡ true → Grounded f s → Grounded f (changed (Gives c k) s)
unfolding changed
give_grounds f s c k done g =
    let t = changed (Gives c k) s in
    record {
      rows = λ d. row_length s.given c k d ∙ g.rows d;
      key = λ d j e. done;
      inputs = λ d e. row_given s.given c k d (g.inputs d e);
      keys = λ d e. keys_from s t (plan f d) (λ h. h) (λ x h. h) (g.keys d e);
      asked = g.asked;
      refused = g.refused;
    }

-- ---- a circuit is taken, evaluated, or given back

-- one that is begun has its inputs and its keys, before it is turned
begun_has : (f : Fixed) (s : State) (caller : ℕ) (c : Call) (r : Reply) (d : ℕ) (now : CircuitState) → Grounded f s → MayTurn f s caller c r d now → is_begun now ≡ true → (list_all is_given_input (slice_index_or s.given d []) ≡ true) × (has_keys s (plan f d) ≡ true)
begun_has f s caller c r d (Refused place bound limit) g m e = absurd m
begun_has f s caller c r d Idle g m e = cc
begun_has f s caller c r d (Taken who) g m e = let x = ready_is f s d (found_ready f s d m.next).0 in (x.given, x.keys)
begun_has f s caller c r d Evaluated g m e = let h : is_begun (circuit s.circuits d) ≡ true = rw (m.taken) refl in (g.inputs d h, g.keys d h)
begun_has f s caller c r d Answered g m e = absurd m

-- where circuit c is set, each is as it was, or it is c
pub set_cases : (circuits : List CircuitState) (c d : ℕ) (now : CircuitState) → (circuit (set circuits c now) d ≡ circuit circuits d) ⊎ ((d ≡ c) × (circuit (set circuits c now) d ≡ now))
set_cases circuits c d now = elim (cases_eq d c) [
  | inr n ↦ inl (get_or-set_other circuits c d now Answered n)
  | inl e ↦ elim (circuit_set circuits c now) [
    | inl at ↦ inr (e, subst (λ (z : ℕ). circuit (set circuits c now) z ≡ now) (sym e) at)
    | inr none ↦ inl (ap (λ (z : List CircuitState). circuit z d) none)
  ]
]

turn_grounds : (f : Fixed) (s : State) (caller : ℕ) (x : Call) (r : Reply) (c : ℕ) (now : CircuitState) → MayTurn f s caller x r c now → Grounded f s → Grounded f (changed (Turns c now) s)
unfolding changed
turn_grounds f s caller x r c now may g =
    let t = changed (Turns c now) s in
    let was = turned f s caller x r c now may in
    let has_both : (d : ℕ) → is_begun (circuit t.circuits d) ≡ true → (list_all is_given_input (slice_index_or s.given d []) ≡ true) × (has_keys s (plan f d) ≡ true) =
    λ d e. elim (set_cases s.circuits c d now) [
      | inl same_ ↦ let h : is_begun (circuit s.circuits d) ≡ true = subst (λ (z : CircuitState). is_begun z ≡ true) same_ e in (g.inputs d h, g.keys d h)
      | inr it ↦
          let h = begun_has f s caller x r c now g may (subst (λ (z : CircuitState). is_begun z ≡ true) it.1 e) in
          subst (λ (z : ℕ). (list_all is_given_input (slice_index_or s.given z []) ≡ true) × (has_keys s (plan f z) ≡ true)) (sym it.0) h
    ] in
    record {
      rows = g.rows;
      key = g.key;
      inputs = λ d e. (has_both d e).0;
      keys = λ d e. keys_from s t (plan f d) (λ h. h) (λ x h. h) (has_both d e).1;
      asked = g.asked;
      refused = λ d. elim (set_cases s.circuits c d now) [
        | inl same_ ↦ ap is_refused same_ ∙ g.refused d
        | inr it ↦
            let was_ : is_refused (circuit s.circuits d) ≡ false = subst (λ (z : ℕ). is_refused (circuit s.circuits z) ≡ false) (sym it.0) was.admitted in
            ap is_refused it.1 ∙ was.still ∙ sym was_ ∙ g.refused d
      ];
    }

-- ---- a move

asked_needed : (f : Fixed) (circuits : List CircuitState) (i : Instance) → IsNeeded f circuits i.signature → Asked f i
asked_needed f circuits i (key m) = inl m
asked_needed f circuits i (decryption c e m evaluated) = inr (c, e)

asked_pushed : (f : Fixed) (s : State) (i : Instance) → Grounded f s → IsNeeded f s.circuits i.signature → (j : Instance) → Contains (s.instances ++ i ∷ []) j → Asked f j
asked_pushed f s i g needed j m = elim (Contains-push_cases s.instances i j m) [
  | inl old ↦ g.asked j old
  | inr it ↦ subst (λ (z : Instance). Asked f z) it (asked_needed f s.circuits i needed)
]

move_asks : (f : Fixed) (s : State) (m : Move) → Grounded f s → MoveIs f s m → Kept f (moved s m) → IsLater s (moved s m) → (i : Instance) → Contains (moved s m).instances i → Asked f i
unfolding moved instances_after fresh
move_asks f s m g (gives_up i by none n d lost e) k later =
    asked_as_many f s (moved s m) g k later (ap (λ (z : Move). length (instances_after s.instances z)) e ∙ void_length i.id by s.instances)
move_asks f s m g (second i none n d all needed e) k later = rw e (asked_pushed f s (fresh s.instances Rlk2 i.set i.id 0) g needed)
move_asks f s m g (other σ no_second none many needed e) k later = rw e (asked_pushed f s (fresh s.instances σ (chosen_present f s) 0 0) g needed)

-- ---- any deed, any call, any history

abbrev pub KeptWell : Fixed → State → Type 0
KeptWell f s = Kept f s × Grounded f s

move_grounds : (f : Fixed) (s : State) (m : Move) → KeptWell f s → next_move f s ≡ Some m → KeptWell f (moved s m)
unfolding moved
move_grounds f s m g e =
    let n = move_next f s m g.0 e in
    (n.0, grows_on f s (moved s m) g.1 (record { later = n.1; given = refl; begun = λ c h. h; refused = λ c. refl; asked = move_asks f s m g.1 (move_is f s m e) n.0 n.1 }))

deed_grounds : (f : Fixed) (s : State) (caller : ℕ) (c : Call) (r : Reply) (d : Deed) → KeptWell f s → Allows f s caller c r d → Kept f (changed d s) → IsLater s (changed d s) → Grounded f (changed d s)
unfolding changed
deed_grounds f s caller c r Nothing g a k later = g.1
deed_grounds f s caller c r (Joins p) g a k later = grows_on f s (changed (Joins p) s) g.1 (record { later = later; given = refl; begun = λ c h. h; refused = λ c. refl; asked = g.1.asked })
deed_grounds f s caller c r (Loses p) g a k later =
    grows_on f s (changed (Loses p) s) g.1 (record { later = later; given = refl; begun = λ c h. h; refused = λ c. refl; asked = asked_as_many f s (changed (Loses p) s) g.1 k later (loss_length p s.instances) })
deed_grounds f s caller c r (Counts i p) g a k later = grows_on f s (changed (Counts i p) s) g.1 (count_grows f s i p g.0 g.1 (waits f s c r i p g.0 a) k later)
deed_grounds f s caller c r (Gives d j) g a k later = give_grounds f s d j a.key g.1
deed_grounds f s caller c r (Turns d now) g a k later = turn_grounds f s caller c r d now a g.1

pub deed_well : (f : Fixed) (s : State) (caller : ℕ) (c : Call) (r : Reply) (d : Deed) → KeptWell f s → Allows f s caller c r d → KeptWell f (changed d s)
deed_well f s caller c r d g a = let n = deed_next f s caller c r d g.0 a in (n.0, deed_grounds f s caller c r d g a n.0 n.1)

pub step_grounds : (f : Fixed) (s : State) (caller : ℕ) (c : Call) → KeptWell f s → KeptWell f (step f s caller c).1
unfolding step
step_grounds f s caller c g =
    let v = judge f s caller c in
    done_keeps f (KeptWell f) (move_grounds f) v.deed s (deed_well f s caller c v.reply v.deed g (judged f s caller c))

pub after_grounds : (f : Fixed) (s : State) (es : List Entry) → KeptWell f s → KeptWell f (after f s es)
unfolding after
after_grounds f s [] g = g
after_grounds f s (e ∷ es) g = after_grounds f (step f s e.caller e.call).1 es (step_grounds f s e.caller e.call g)

-- ---- the beginning

opening_row : (f : Fixed) (c : ℕ) → slice_index_or (opening f).given c [] ≡ none_given (plan f c)
unfolding opening
opening_row f c = elim (cases_lt c (length f.plans)) [
  | inl less ↦ get_or-map none_given f.plans c no_plan [] less
  | inr more ↦ get_or_past (map none_given f.plans) c [] (omega (arith, length-map f.plans none_given)) ∙ sym (ap none_given (get_or_past f.plans c no_plan more))
]

pub opening_circuit : (f : Fixed) (c : ℕ) → circuit (opening f).circuits c ≡ (plan f c).opening
unfolding opening
opening_circuit f c = elim (cases_lt c (length f.plans)) [
  | inl less ↦ get_or-map opening_of f.plans c no_plan Answered less
  | inr more ↦ get_or_past (map opening_of f.plans) c Answered (omega (arith, length-map f.plans opening_of)) ∙ sym (ap opening_of (get_or_past f.plans c no_plan more))
]

none_given_at : (n k : ℕ) → get_or (replicate n false) k false ≡ false
none_given_at n k = elim (cases_lt k n) [
  | inl less ↦ get_or-replicate n k false false less
  | inr more ↦ get_or_past (replicate n false) k false (omega (arith, length-replicate n false))
]

none_issued : (f : Fixed) (i : Instance) → Contains (opening f).instances i → ⊥
unfolding opening
none_issued f i m = contains_nil i m

none_has : (s : State) → has_keys s no_plan ≡ true
unfolding has_keys
none_has s = refl

pub opening_grounds : (f : Fixed) → IsWhole f → KeptWell f (opening f)
opening_grounds f w =
    let past : (c : ℕ) → is_begun (circuit (opening f).circuits c) ≡ true → plan f c ≡ no_plan = λ c e. elim (cases_lt c (length f.plans)) [
      | inl less ↦ absurd (both_ways (is_begun (plan f c).opening) (w.begins c less) (subst (λ (z : CircuitState). is_begun z ≡ true) (opening_circuit f c) e))
      | inr more ↦ get_or_past f.plans c no_plan more
    ] in (
      opening_kept f,
      record {
        rows = λ c. ap length (opening_row f c) ∙ length-replicate (length (plan f c).owners) false;
        key = λ c k e. absurd (both_ways (is_given (opening f) c k) (ap (λ (z : List Bool). get_or z k false) (opening_row f c) ∙ none_given_at (length (plan f c).owners) k) e);
        inputs = λ c e. ap (list_all is_given_input) (opening_row f c ∙ ap none_given (past c e));
        keys = λ c e. ap (has_keys (opening f)) (past c e) ∙ none_has (opening f);
        asked = λ i m. absurd (none_issued f i m);
        refused = λ c. ap is_refused (opening_circuit f c);
      },
    )

pub state_grounds : (f : Fixed) (es : List Entry) → IsWhole f → KeptWell f (state_after f es)
state_grounds f es w = after_grounds f (opening f) es (opening_grounds f w)

-- ---- as laws

pub calls_ground : CallsGround
calls_ground f s caller c k g = (step_grounds f s caller c (k, g)).1

pub histories_ground : HistoriesGround
histories_ground f es w = (state_grounds f es w).1

-- ---- the refused circuits

pub refused_ones_began_so : RefusedOnesBeganSo
refused_ones_began_so f es c place bound limit =
    let s = state_after f es in
    let later = (after_next f (opening f) es (opening_kept f)).1 in
    let first = opening_circuit f c in (
      λ e. elim (cases_Bool (is_refused (circuit (opening f).circuits c))) [
        | inl h ↦ sym first ∙ sym (later.refused c h) ∙ e
        | inr h ↦ absurd (both_ways (is_refused (circuit s.circuits c)) (later.admitted c h) (rw e refl))
      ],
      λ e. let was : is_refused (circuit (opening f).circuits c) ≡ true = rw (first, e) refl in later.refused c was ∙ first ∙ e,
    )
