-- Which circuits are ready: they are idle, and have their inputs and their keys.
use Rattle.std.proofs.Common.{◌≡◌, ap, ℕ, zero, suc, ◌<◌, Bool, true, false, not, ◌&&◌, ◌||◌, inl, inr, List, [], ◌∷◌, length, get_or, slice_index_or, Option, Some, None, refl, arith}
use Rattle.std.specs.List.{range_with_len, list_all}
use Rattle.std.proofs.lemmas.Bool.{both_ways, cases_lt, and_parts, and_from}
use Rattle.std.proofs.lemmas.List.{get_or_past}
use Rattle.proto_names.specs.declared.signature.Signature.TheVariants.{Rlk2, Rot}
use Rattle.session_rules.specs.declared.state.CircuitState.TheVariants.{Answered}
use Rattle.session_rules.specs.declared.fixed.Plan.{Plan}
use Rattle.session_rules.specs.declared.fixed.Fixed.{Fixed}
use Rattle.session_rules.specs.States.{State, circuit, plan, is_idle, has_done}
use Rattle.session_rules.specs.Steps.{is_given_input, has_turn, has_keys, ready, next_ready}
use Rattle.session_rules.specs.Facts.{Kept}
use Rattle.session_rules.proofs.Contained.{contains_range, range_within, find_some, find_none}

-- ---- lists of which all is given

pub all_at : (row : List Bool) (k : ℕ) → list_all is_given_input row ≡ true → k < length row → get_or row k false ≡ true
all_at [] k e l = absurd (omega arith)
all_at (b ∷ bs) zero e l = (and_parts b (list_all is_given_input bs) e).0
all_at (b ∷ bs) (suc k) e l = all_at bs k (and_parts b (list_all is_given_input bs) e).1 (omega arith)

pub all_each : (row : List Bool) → ((k : ℕ) → k < length row → get_or row k false ≡ true) → list_all is_given_input row ≡ true
all_each [] h = refl
all_each (b ∷ bs) h = and_from b (list_all is_given_input bs) (h 0 (omega arith)) (all_each bs (λ k l. h (suc k) (omega arith)))

-- where each that passes one test passes another
all_from : {X : Type 0} (p q : X → Bool) (xs : List X) → ((x : X) → p x ≡ true → q x ≡ true) → list_all p xs ≡ true → list_all q xs ≡ true
all_from p q [] h e = refl
all_from p q (x ∷ xs) h e = let both = and_parts (p x) (list_all p xs) e in and_from (q x) (list_all q xs) (h x both.0) (all_from p q xs h both.1)

-- ---- keys

or_from : (a b c : Bool) → (b ≡ true → c ≡ true) → (a || b) ≡ true → (a || c) ≡ true
or_from true b c h e = refl
or_from false b c h e = h e

pub keys_from : (s t : State) (x : Plan) → (has_done Rlk2 s.instances ≡ true → has_done Rlk2 t.instances ≡ true) → ((g : ℕ) → has_done (Rot g) s.instances ≡ true → has_done (Rot g) t.instances ≡ true) → has_keys s x ≡ true → has_keys t x ≡ true
unfolding has_keys
keys_from s t x relin turn e =
    let both = and_parts (not x.product || has_done Rlk2 s.instances) (list_all (has_turn s) x.turns) e in
    and_from (not x.product || has_done Rlk2 t.instances) (list_all (has_turn t) x.turns)
    (or_from (not x.product) (has_done Rlk2 s.instances) (has_done Rlk2 t.instances) relin both.0)
    (all_from (has_turn s) (has_turn t) x.turns turn both.1)

-- ---- one circuit

pub record IsReady (f : Fixed) (s : State) (c : ℕ) : Type 0 where
  pub idle : is_idle (circuit s.circuits c) ≡ true
  pub given : list_all is_given_input (slice_index_or s.given c []) ≡ true
  pub keys : has_keys s (plan f c) ≡ true

pub ready_is : (f : Fixed) (s : State) (c : ℕ) → ready f s c ≡ true → IsReady f s c
unfolding ready
ready_is f s c e =
    let both = and_parts (is_idle (circuit s.circuits c) && list_all is_given_input (slice_index_or s.given c [])) (has_keys s (plan f c)) e in
    let two = and_parts (is_idle (circuit s.circuits c)) (list_all is_given_input (slice_index_or s.given c [])) both.0 in
    record { idle = two.0; given = two.1; keys = both.1 }

pub ready_from : (f : Fixed) (s : State) (c : ℕ) → IsReady f s c → ready f s c ≡ true
unfolding ready
ready_from f s c r =
    and_from (is_idle (circuit s.circuits c) && list_all is_given_input (slice_index_or s.given c [])) (has_keys s (plan f c))
    (and_from (is_idle (circuit s.circuits c)) (list_all is_given_input (slice_index_or s.given c [])) r.idle r.given) r.keys

pub ready_idle : (f : Fixed) (s : State) (c : ℕ) → ready f s c ≡ true → is_idle (circuit s.circuits c) ≡ true
ready_idle f s c e = (ready_is f s c e).idle

-- a circuit that is ready was ready before
pub record WasReady (f : Fixed) (s t : State) (c : ℕ) : Type 0 where
  pub idle : is_idle (circuit t.circuits c) ≡ true → is_idle (circuit s.circuits c) ≡ true
  pub given : list_all is_given_input (slice_index_or t.given c []) ≡ true → list_all is_given_input (slice_index_or s.given c []) ≡ true
  pub relin : has_done Rlk2 t.instances ≡ true → has_done Rlk2 s.instances ≡ true
  pub turn : (g : ℕ) → has_done (Rot g) t.instances ≡ true → has_done (Rot g) s.instances ≡ true

pub ready_before : (f : Fixed) (s t : State) (c : ℕ) → WasReady f s t c → ready f t c ≡ true → ready f s c ≡ true
ready_before f s t c w e =
    let r = ready_is f t c e in
    ready_from f s c (record { idle = w.idle r.idle; given = w.given r.given; keys = keys_from t s (plan f c) w.relin w.turn r.keys })

-- ---- the first that is ready

pub found_ready : (f : Fixed) (s : State) (c : ℕ) → next_ready f s ≡ Some c → (ready f s c ≡ true) × (c < length f.plans)
unfolding next_ready
found_ready f s c e =
    let found = find_some (ready f s) (range_with_len 0 (length f.plans)) c e in
    let within = range_within 0 (length f.plans) c found.0 in
    (found.1, let l = within.1 in omega arith)

pub idle_within : (f : Fixed) (s : State) (c : ℕ) → Kept f s → is_idle (circuit s.circuits c) ≡ true → c < length f.plans
idle_within f s c k e = elim (cases_lt c (length s.circuits)) [
  | inl less ↦ let many = k.circuits in omega arith
  | inr more ↦ absurd (both_ways (is_idle (circuit s.circuits c)) (ap is_idle (get_or_past s.circuits c Answered more)) e)
]

pub none_is : (f : Fixed) (s : State) (c : ℕ) → Kept f s → next_ready f s ≡ None → ready f s c ≡ true → ⊥
unfolding next_ready
none_is f s c k none e =
    let l = idle_within f s c k (ready_idle f s c e) in
    both_ways (ready f s c) (find_none (ready f s) (range_with_len 0 (length f.plans)) c none (contains_range 0 (length f.plans) c (omega arith) (omega arith))) e

pub none_from : (f : Fixed) (s : State) → ((c : ℕ) → ready f s c ≡ true → ⊥) → next_ready f s ≡ None
none_from f s h = at (next_ready f s) refl
  where
    at : (o : Option ℕ) → next_ready f s ≡ o → next_ready f s ≡ None
    at None e = e
    at (Some c) e = absurd (h c (found_ready f s c e).0)
