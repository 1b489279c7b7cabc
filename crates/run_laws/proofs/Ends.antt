-- Where settling has come to an end no instance is opened, no circuit is ready, and where it can be each
-- admitted circuit is answered.
use Rattle.std.proofs.Common.{◌≡◌, ◌≢◌, ◌∙◌, sym, ap, subst, refl, ℕ, zero, suc, ◌<◌, ◌≤◌, Bool, true, false, cond, ◌⊎◌, inl, inr, List, [], ◌∷◌, ◌++◌, length, map, slice_index_or, Contains, None, arith}
use Rattle.std.specs.Prelude.{nat_eq, nat_lt, nat_le, ◌||◌, not}
use Rattle.std.specs.List.{list_any, list_all}
use Rattle.std.proofs.lemmas.Bool.{le-leb, cases_Bool, and_parts, and_from, not-true, not_from_false, ne_eqb, lt-ltb}
use Rattle.std.proofs.lemmas.List.{get_or_default}
use Rattle.std.proofs.lemmas.List.Elements.{Contains-append_cases, Contains-append_left, Contains-append_right}
use Rattle.share_spec.specs.Sets.{has, count}
use Rattle.proto_names.specs.declared.signature.Signature.{Signature}
use Rattle.proto_names.specs.declared.signature.Signature.TheVariants.{Pk, Rlk1, Rlk2, Rot, Dec}
use Rattle.proto_names.specs.declared.instance.Instance.{Instance}
use Rattle.proto_names.specs.declared.instance.Stage.TheVariants.{Opened, Complete}
use Rattle.session_rules.specs.declared.state.CircuitState.{CircuitState}
use Rattle.session_rules.specs.declared.state.CircuitState.TheVariants.{Refused, Idle, Taken, Evaluated, Answered}
use Rattle.session_rules.specs.declared.fixed.Plan.{Plan}
use Rattle.session_rules.specs.declared.fixed.Fixed.{Fixed}
use Rattle.session_rules.specs.States.{State, circuit, plan, no_plan, is_idle, is_refused, is_admitted, has_live, has_done}
use Rattle.session_rules.specs.Issues.{keys as needed_keys, wants_key, wants_relin, condition}
use Rattle.session_rules.specs.Steps.{is_input, has_turn, has_keys, ready, next_ready}
use Rattle.session_rules.specs.Courses.{is_over, is_settled as is_settled_now}
use Rattle.session_rules.specs.Facts.{is_begun, is_settled, Kept, IsAtRest}
use Rattle.session_rules.specs.Grounds.{Grounded, IsWhole, NoneOpened, CanSettle}
use Rattle.session_rules.proofs.Contained.{contains_nil, contains_cases, contains_here, contains_there, contains_map, contains_map_from, contains_range, any_true, any_from}
use Rattle.session_rules.proofs.Grounds.{KeptWell}
use Rattle.session_rules.proofs.Issued.{live_one, Done, done_one, done_here, condition_second, condition_other, rest_owes}
use Rattle.session_rules.proofs.Marks.{complete_lives, opened_lives, one_number, live_cases}
use Rattle.session_rules.proofs.MoveKinds.{IsNeeded, key, decryption}
use Rattle.session_rules.proofs.Readiness.{all_at, all_each, ready_from, ready_idle, idle_within, none_is, none_from}
use Rattle.session_rules.proofs.Within.{Within}
use Rattle.run_laws.proofs.Calls.{owner}
use Rattle.run_laws.proofs.Stages.{rank, Any, Stage}

-- ---- which keys are needed

-- an element of a list by its place
plan_at : (f : Fixed) (x : Plan) (m : Contains f.plans x) → plan f m.0 ≡ x
plan_at f x m = get_or_default f.plans m.0 no_plan x m.1 ∙ m.2

contains_plan : (f : Fixed) (c : ℕ) → c < length f.plans → Contains f.plans (plan f c)
contains_plan f c l = (c, l, get_or_default f.plans c (plan f c) no_plan l)

-- what a key is needed for
data KeyIs (f : Fixed) (σ : Signature) : Type 0 where
  of_input : (c : ℕ) → c < length f.plans → wants_key (plan f c) ≡ true → σ ≡ Pk → KeyIs f σ
  of_product : (c : ℕ) → c < length f.plans → wants_relin (plan f c) ≡ true → (σ ≡ Rlk1) ⊎ (σ ≡ Rlk2) → KeyIs f σ
  of_turn : (g : ℕ) → Contains f.turns g → σ ≡ Rot g → KeyIs f σ

in_first : (f : Fixed) (σ : Signature) (b : Bool) → list_any wants_key f.plans ≡ b → Contains (cond b (Pk ∷ []) []) σ → KeyIs f σ
in_first f σ false e m = absurd (contains_nil σ m)
in_first f σ true e m =
    let x = any_true wants_key f.plans e in
    let at : plan f x.within.0 ≡ x.item = plan_at f x.item x.within in
    of_input x.within.0 x.within.1 (subst (λ (z : Plan). wants_key z ≡ true) (sym at) x.passes) (elim (contains_cases Pk [] σ m) [
      | inl same ↦ sym same
      | inr none ↦ absurd (contains_nil σ none)
    ])

in_second : (f : Fixed) (σ : Signature) (b : Bool) → list_any wants_relin f.plans ≡ b → Contains (cond b (Rlk1 ∷ Rlk2 ∷ []) []) σ → KeyIs f σ
in_second f σ false e m = absurd (contains_nil σ m)
in_second f σ true e m =
    let x = any_true wants_relin f.plans e in
    let at : plan f x.within.0 ≡ x.item = plan_at f x.item x.within in
    of_product x.within.0 x.within.1 (subst (λ (z : Plan). wants_relin z ≡ true) (sym at) x.passes) (elim (contains_cases Rlk1 (Rlk2 ∷ []) σ m) [
      | inl same ↦ inl (sym same)
      | inr rest ↦ elim (contains_cases Rlk2 [] σ rest) [
        | inl same ↦ inr (sym same)
        | inr none ↦ absurd (contains_nil σ none)
      ]
    ])

key_is : (f : Fixed) (σ : Signature) → Contains (needed_keys f) σ → KeyIs f σ
unfolding needed_keys
key_is f σ m =
    let A = cond (list_any wants_key f.plans) (Pk ∷ []) [] in
    let B = cond (list_any wants_relin f.plans) (Rlk1 ∷ Rlk2 ∷ []) [] in
    elim (Contains-append_cases (A ++ B) (map Rot f.turns) σ m) [
      | inl front ↦ elim (Contains-append_cases A B σ front) [
        | inl one ↦ in_first f σ (list_any wants_key f.plans) refl one
        | inr two ↦ in_second f σ (list_any wants_relin f.plans) refl two
      ]
      | inr turns ↦ let x = contains_map_from Rot f.turns σ turns in of_turn x.source x.within (sym x.same)
    ]

key_needed : (f : Fixed) (c : ℕ) → c < length f.plans → wants_key (plan f c) ≡ true → Contains (needed_keys f) Pk
unfolding needed_keys
key_needed f c l h =
    let B = cond (list_any wants_relin f.plans) (Rlk1 ∷ Rlk2 ∷ []) [] in
    let some_ = any_from wants_key f.plans (plan f c) (contains_plan f c l) h in
    Contains-append_left (cond (list_any wants_key f.plans) (Pk ∷ []) [] ++ B) (map Rot f.turns) Pk
    (Contains-append_left (cond (list_any wants_key f.plans) (Pk ∷ []) []) B Pk (rw some_ (contains_here Pk [])))

relin_needed : (f : Fixed) (c : ℕ) → c < length f.plans → wants_relin (plan f c) ≡ true → Contains (needed_keys f) Rlk1 × Contains (needed_keys f) Rlk2
unfolding needed_keys
relin_needed f c l h =
    let A = cond (list_any wants_key f.plans) (Pk ∷ []) [] in
    let B = cond (list_any wants_relin f.plans) (Rlk1 ∷ Rlk2 ∷ []) [] in
    let some_ = any_from wants_relin f.plans (plan f c) (contains_plan f c l) h in (
      Contains-append_left (A ++ B) (map Rot f.turns) Rlk1 (Contains-append_right A B Rlk1 (rw some_ (contains_here Rlk1 (Rlk2 ∷ [])))),
      Contains-append_left (A ++ B) (map Rot f.turns) Rlk2 (Contains-append_right A B Rlk2 (rw some_ (contains_there Rlk1 (Rlk2 ∷ []) Rlk2 (contains_here Rlk2 [])))),
    )

turn_needed : (f : Fixed) (g : ℕ) → Contains f.turns g → Contains (needed_keys f) (Rot g)
unfolding needed_keys
turn_needed f g m = Contains-append_right (cond (list_any wants_key f.plans) (Pk ∷ []) [] ++ cond (list_any wants_relin f.plans) (Rlk1 ∷ Rlk2 ∷ []) []) (map Rot f.turns) (Rot g) (contains_map Rot f.turns g m)

-- ---- where all is settled

over_all : (circuits : List CircuitState) (c : ℕ) → list_all is_over circuits ≡ true → is_over (circuit circuits c) ≡ true
over_all [] c e = refl
over_all (x ∷ xs) zero e = (and_parts (is_over x) (list_all is_over xs) e).0
over_all (x ∷ xs) (suc c) e = over_all xs c (and_parts (is_over x) (list_all is_over xs) e).1

over_at : (s : State) (c : ℕ) → is_settled_now s ≡ true → is_over (circuit s.circuits c) ≡ true
unfolding is_settled_now
over_at s c e = over_all s.circuits c e

over_begun : (now : CircuitState) → is_over now ≡ true → is_refused now ≡ false → is_begun now ≡ true
over_begun Answered o n = refl
over_begun other o n = cc

begun_in : (f : Fixed) (s : State) (c : ℕ) → Grounded f s → is_settled_now s ≡ true → is_admitted (plan f c) ≡ true → is_begun (circuit s.circuits c) ≡ true
begun_in f s c g e admitted = over_begun (circuit s.circuits c) (over_at s c e) (g.refused c ∙ not-true (is_refused (plan f c).opening) admitted)

or_true : (b c : Bool) → b ≡ true → (not b || c) ≡ true → c ≡ true
or_true true c e h = h
or_true false c e h = cc

all_of : {X : Type 0} (test : X → Bool) (xs : List X) (x : X) → list_all test xs ≡ true → Contains xs x → test x ≡ true
all_of test [] x e m = absurd (contains_nil x m)
all_of test (y ∷ ys) x e m = let both = and_parts (test y) (list_all test ys) e in elim (contains_cases y ys x m) [
  | inl same ↦ rw same at (both.0)
  | inr rest ↦ all_of test ys x both.1 rest
]

keys_relin : (s : State) (x : Plan) → has_keys s x ≡ true → x.product ≡ true → has_done Rlk2 s.instances ≡ true
unfolding has_keys
keys_relin s x h p = or_true x.product (has_done Rlk2 s.instances) p (and_parts (not x.product || has_done Rlk2 s.instances) (list_all (has_turn s) x.turns) h).0

keys_turn : (s : State) (x : Plan) (g : ℕ) → has_keys s x ≡ true → Contains x.turns g → has_done (Rot g) s.instances ≡ true
unfolding has_keys
keys_turn s x g h m = all_of (has_turn s) x.turns g (and_parts (not x.product || has_done Rlk2 s.instances) (list_all (has_turn s) x.turns) h).1 m

-- an opened instance has no complete one beside it
clash : (f : Fixed) (s : State) (i : Instance) (σ : Signature) → Kept f s → Contains s.instances i → i.stage ≡ Opened → i.signature ≡ σ → has_done σ s.instances ≡ true → ⊥
clash f s i σ k m opened e h =
    let d = done_one σ s.instances h in
    let j = d.item in
    let ids : i.id ≡ j.id = k.one i j m d.within (e ∙ sym d.done.signature) (opened_lives i opened) (complete_lives j d.done.complete) in
    let it : i ≡ j = one_number s.instances i j k.numbered m d.within ids in
    let c : i.stage ≡ Complete = ap (λ (z : Instance). z.stage) it ∙ d.done.complete in
    let both : Opened ≡ Complete = sym opened ∙ c in cc

-- a second round that is complete has a complete first
first_done : (f : Fixed) (s : State) → Kept f s → has_done Rlk2 s.instances ≡ true → has_done Rlk1 s.instances ≡ true
first_done f s k h =
    let d = done_one Rlk2 s.instances h in
    let x = k.rounds d.item d.within d.done.signature (complete_lives d.item d.done.complete) in
    done_here Rlk1 s.instances x.first x.issued (record { signature = x.signature; complete = x.complete })

some_owner : (n : ℕ) → not (nat_eq n 0) ≡ true → 0 < n
some_owner zero e = cc
some_owner (suc n) e = omega arith

opened_key : (f : Fixed) (s : State) (i : Instance) → IsWhole f → KeptWell f s → is_settled_now s ≡ true → Contains s.instances i → i.stage ≡ Opened → KeyIs f i.signature → ⊥
opened_key f s i w g e m opened (of_input c l wants its) =
    let both = and_parts (is_admitted (plan f c)) (not (nat_eq (length (plan f c).owners) 0)) wants in
    let all = g.1.inputs c (begun_in f s c g.1 e both.0) in
    let long = g.1.rows c in
    let many = some_owner (length (plan f c).owners) both.1 in
    clash f s i Pk g.0 m opened its (g.1.key c 0 (all_at (slice_index_or s.given c []) 0 all (omega arith)))
opened_key f s i w g e m opened (of_product c l wants its) =
    let both = and_parts (is_admitted (plan f c)) (plan f c).product wants in
    let relin = keys_relin s (plan f c) (g.1.keys c (begun_in f s c g.1 e both.0)) both.1 in
    elim its [
      | inl first ↦ clash f s i Rlk1 g.0 m opened first (first_done f s g.0 relin)
      | inr second ↦ clash f s i Rlk2 g.0 m opened second relin
    ]
opened_key f s i w g e m opened (of_turn x turn its) =
    let at = w.turned x turn in
    clash f s i (Rot x) g.0 m opened its (keys_turn s (plan f at.0) x (g.1.keys at.0 (begun_in f s at.0 g.1 e at.2)) at.3)

over_evaluated : (now : CircuitState) → is_over now ≡ true → now ≡ Evaluated → ⊥
over_evaluated now o e = let h : is_over Evaluated ≡ true = rw e at o in cc

pub settled_unopened : (f : Fixed) (s : State) → IsWhole f → KeptWell f s → is_settled_now s ≡ true → NoneOpened s
settled_unopened f s w g e i m opened = elim (g.1.asked i m) [
  | inl needed ↦ opened_key f s i w g e m opened (key_is f i.signature needed)
  | inr d ↦ over_evaluated (circuit s.circuits d.0) (over_at s d.0 e) ((g.0.decrypts i m).opened d.0 d.1 opened)
]

over_idle : (now : CircuitState) → is_over now ≡ true → is_idle now ≡ true → ⊥
over_idle Idle o e = cc
over_idle other o e = cc

pub settled_unready : (f : Fixed) (s : State) → is_settled_now s ≡ true → next_ready f s ≡ None
settled_unready f s e = none_from f s (λ c r. over_idle (circuit s.circuits c) (over_at s c e) (ready_idle f s c r))

-- ---- where it has come to an end

pub stage_unopened : (f : Fixed) (s : State) → Stage f 6 s → NoneOpened s
stage_unopened f s g i m opened = let l = g.ranked i m opened in let few = rank_few i.signature in absurd (omega arith)
  where
    rank_few : (σ : Signature) → rank σ ≤ 3
    rank_few Pk = omega arith
    rank_few Rlk1 = omega arith
    rank_few Rlk2 = omega arith
    rank_few (Rot g) = omega arith
    rank_few (Dec c) = omega arith

-- what is needed, and may be issued, is complete
needed_done : (f : Fixed) (s : State) (σ : Signature) → IsAtRest f s → NoneOpened s → IsNeeded f s.circuits σ → condition f s σ ≡ true → Done σ s.instances
needed_done f s σ rest unopened needed stands = elim (cases_Bool (has_live σ s.instances)) [
  | inr none ↦ absurd (rest_owes f s rest σ needed none stands)
  | inl lives_ ↦
      let l = live_one σ s.instances lives_ in
      elim (live_cases l.item.stage l.lives) [
        | inl opened ↦ absurd (unopened l.item l.within opened)
        | inr complete ↦ record { item = l.item; within = l.within; done = record { signature = l.signature; complete = complete } }
      ]
]

has_it : (σ : Signature) (is : List Instance) → Done σ is → has_done σ is ≡ true
has_it σ is d = done_here σ is d.item d.within d.done

input_from : (f : Fixed) (c k : ℕ) → is_admitted (plan f c) ≡ true → k < length (plan f c).owners → is_input f c k ≡ true
unfolding is_input
input_from f c k a l = and_from (is_admitted (plan f c)) (nat_lt k (length (plan f c).owners)) a (lt-ltb k (length (plan f c).owners) l)

keys_all : (s : State) (x : Plan) → (x.product ≡ true → has_done Rlk2 s.instances ≡ true) → ((g : ℕ) → Contains x.turns g → has_done (Rot g) s.instances ≡ true) → has_keys s x ≡ true
unfolding has_keys
keys_all s x relin turns = and_from (not x.product || has_done Rlk2 s.instances) (list_all (has_turn s) x.turns) (at x.product relin) (all_by x.turns turns)
  where
    at : (b : Bool) → (b ≡ true → has_done Rlk2 s.instances ≡ true) → (not b || has_done Rlk2 s.instances) ≡ true
    at true h = h refl
    at false h = refl

    all_by : (xs : List ℕ) → ((g : ℕ) → Contains xs g → has_done (Rot g) s.instances ≡ true) → list_all (has_turn s) xs ≡ true
    all_by [] h = refl
    all_by (y ∷ ys) h = and_from (has_turn s y) (list_all (has_turn s) ys) (h y (contains_here y ys)) (all_by ys (λ g m. h g (contains_there y ys g m)))

-- where it can be settled it can be so later, where nobody comes or goes
pub can_later : (f : Fixed) (base s : State) → Within Any f base s → CanSettle f base → CanSettle f s
can_later f base s within can =
    let present = within.reached.present in
    record {
      untaken = λ c who e. elim (within.reached.turned c) [
        | inl same ↦ can.untaken c who (sym same ∙ e)
        | inr settled_ ↦ let h : is_settled (Taken who) ≡ true = rw e at settled_ in cc
      ];
      enough = subst (λ (z : ℕ). f.threshold ≤ count z) (sym present) can.enough;
      owners = λ c k its. elim (can.owners c k its) [
        | inl before ↦ inl (within.reached.later.given c k before)
        | inr there ↦ inr (subst (λ (z : ℕ). has z (owner f c k) ≡ true) (sym present) there)
      ];
    }

module _ (f : Fixed) (w : IsWhole f) (s : State) (g : Stage f 6 s) (can : CanSettle f s) where
  many : nat_le f.threshold (count s.present) ≡ true
  many = le-leb f.threshold (count s.present) can.enough

  key_done : (σ : Signature) → σ ≢ Rlk2 → IsNeeded f s.circuits σ → has_done σ s.instances ≡ true
  key_done σ n needed = has_it σ s.instances (needed_done f s σ g.rest (stage_unopened f s g) needed (condition_other f s σ n ∙ many))

  relin_done : (c : ℕ) → c < length f.plans → wants_relin (plan f c) ≡ true → has_done Rlk2 s.instances ≡ true
  relin_done c l wants =
      let both = relin_needed f c l wants in
      let first = key_done Rlk1 (λ e. cc) (key both.0) in
      has_it Rlk2 s.instances (needed_done f s Rlk2 g.rest (stage_unopened f s g) (key both.1) (condition_second f s Rlk2 refl ∙ first))

  -- an idle circuit would be ready
  idle_ready : (c : ℕ) → is_idle (circuit s.circuits c) ≡ true → is_refused (circuit s.circuits c) ≡ false → ready f s c ≡ true
  idle_ready c idle free =
      let l = idle_within f s c g.well.0 idle in
      let admitted : is_admitted (plan f c) ≡ true = not_from_false (is_refused (plan f c).opening) (sym (g.well.1.refused c) ∙ free) in
      let long = g.well.1.rows c in
      ready_from f s c (record {
        idle = idle;
        given = all_each (slice_index_or s.given c []) (λ k below.
            let its = input_from f c k admitted (omega arith) in
            let wants : wants_key (plan f c) ≡ true = and_from (is_admitted (plan f c)) (not (nat_eq (length (plan f c).owners) 0)) admitted (not_from_false (nat_eq (length (plan f c).owners) 0) (ne_eqb (length (plan f c).owners) 0 (λ z. absurd (omega arith)))) in
            let pk = key_done Pk (λ e. cc) (key (key_needed f c l wants)) in
            elim (can.owners c k its) [
              | inl before ↦ before
              | inr there ↦ g.owed (omega arith) pk c k its there
            ]);
        keys = keys_all s (plan f c)
            (λ product. relin_done c l (and_from (is_admitted (plan f c)) (plan f c).product admitted product))
            (λ x m. key_done (Rot x) (λ e. cc) (key (turn_needed f x (w.turns c x l admitted m))));
      })

  unevaluated : (c : ℕ) → c < length s.circuits → circuit s.circuits c ≡ Evaluated → ⊥
  unevaluated c l e =
      let d = needed_done f s (Dec c) g.rest (stage_unopened f s g) (decryption c refl (contains_range 0 (length s.circuits) c (omega arith) (omega arith)) e)
      (condition_other f s (Dec c) (λ h. cc) ∙ many) in
      let answered = (g.well.0.decrypts d.item d.within).complete c d.done.signature d.done.complete in
      let both : Evaluated ≡ Answered = sym e ∙ answered in cc

  is_it_over : (c : ℕ) → c < length s.circuits → (now : CircuitState) → circuit s.circuits c ≡ now → is_over now ≡ true
  is_it_over c l (Refused place bound limit) e = refl
  is_it_over c l Idle e = absurd (none_is f s c g.well.0 (g.none (omega arith)) (idle_ready c (rw e refl) (rw e refl)))
  is_it_over c l (Taken who) e = absurd (can.untaken c who e)
  is_it_over c l Evaluated e = absurd (unevaluated c l e)
  is_it_over c l Answered e = refl

  all_over : (circuits : List CircuitState) → ((c : ℕ) → c < length circuits → is_over (circuit circuits c) ≡ true) → list_all is_over circuits ≡ true
  all_over [] h = refl
  all_over (x ∷ xs) h = and_from (is_over x) (list_all is_over xs) (h 0 (omega arith)) (all_over xs (λ c l. h (suc c) (omega arith)))

  pub comes_over : is_settled_now s ≡ true
  unfolding is_settled_now
  comes_over = all_over s.circuits (λ c l. is_it_over c l (circuit s.circuits c) refl)
