-- What is told by the live instances alone: whether a signature has one, and one that is complete, which circuits
-- are ready, and what is said to those who take a circuit or bring an input.
use Rattle.std.proofs.Common.{◌≡◌, refl, ap, ℕ, Bool, true, false, not, ◌&&◌, ◌||◌, cond, inl, inr, List, [], ◌∷◌, filter, find, Option, Some}
use Rattle.std.specs.List.{range_with_len, list_any, list_all}
use Rattle.std.proofs.lemmas.Bool.{cases_Bool}
use Rattle.proto_names.specs.Names.{is_complete, is_void}
use Rattle.proto_names.specs.Instances.{is_of, lives, is_done}
use Rattle.proto_names.specs.declared.signature.Signature.{Signature}
use Rattle.proto_names.specs.declared.signature.Signature.TheVariants.{Pk, Rlk2, Rot}
use Rattle.proto_names.specs.declared.instance.Instance.{Instance}
use Rattle.proto_names.specs.declared.instance.Stage.{Stage}
use Rattle.proto_names.specs.declared.instance.Stage.TheVariants.{Opened, Complete, Void}
use Rattle.participants.specs.Live.{is_live, live_ones}
use Rattle.session_rules.specs.declared.state.CircuitState.{CircuitState}
use Rattle.session_rules.specs.declared.fixed.Plan.{Plan}
use Rattle.session_rules.specs.declared.fixed.Fixed.{Fixed}
use Rattle.session_rules.specs.States.{State, seen, plan, has_live, has_done}
use Rattle.session_rules.specs.Steps.{has_turn, has_keys, ready, next_ready, take, input}

-- ---- lists without what passes no test

pub any_kept : {X : Type 0} (keep test : X → Bool) → ((x : X) → keep x ≡ false → test x ≡ false) → (xs : List X) → list_any test (filter keep xs) ≡ list_any test xs
any_kept keep test h [] = refl
any_kept keep test h (x ∷ xs) = elim (cases_Bool (keep x)) [
  | inl e ↦ rw e (ap (λ (b : Bool). test x || b) (any_kept keep test h xs))
  | inr e ↦ rw (e, h x e) (any_kept keep test h xs)
]

pub find_kept : {X : Type 0} (keep test : X → Bool) → ((x : X) → keep x ≡ false → test x ≡ false) → (xs : List X) → find test (filter keep xs) ≡ find test xs
find_kept keep test h [] = refl
find_kept {X} keep test h (x ∷ xs) =
    let more = find_kept keep test h xs in
    elim (cases_Bool (keep x)) [
      | inl e ↦ rw e (ap (λ (o : Option X). cond (test x) (Some x) o) more)
      | inr e ↦ rw (e, h x e) more
    ]

-- ---- lists of which two tests say the same

pub find_same : {X : Type 0} (p q : X → Bool) → ((x : X) → p x ≡ q x) → (xs : List X) → find p xs ≡ find q xs
find_same p q h [] = refl
find_same p q h (x ∷ xs) = rw (h x, find_same p q h xs) refl

pub all_same : {X : Type 0} (p q : X → Bool) → ((x : X) → p x ≡ q x) → (xs : List X) → list_all p xs ≡ list_all q xs
all_same p q h [] = refl
all_same p q h (x ∷ xs) = rw (h x, all_same p q h xs) refl

-- ---- void instances

and_no : (b c : Bool) → c ≡ false → (b && c) ≡ false
and_no true c e = e
and_no false c e = refl

pub void_lives : (σ : Signature) (i : Instance) → is_live i ≡ false → lives σ i ≡ false
unfolding lives
void_lives σ i e = and_no (is_of σ i) (not (is_void i.stage)) e

pub void_done : (σ : Signature) (i : Instance) → is_live i ≡ false → is_done σ i ≡ false
unfolding is_done
void_done σ i e = and_no (is_of σ i) (is_complete i.stage) (at i.stage e)
  where
    at : (s : Stage) → not (is_void s) ≡ false → is_complete s ≡ false
    at Opened e = refl
    at Complete e = cc
    at (Void by) e = refl

-- ---- signatures

pub live_live : (σ : Signature) (is : List Instance) → has_live σ (live_ones is) ≡ has_live σ is
unfolding has_live live_ones
live_live σ is = any_kept is_live (lives σ) (void_lives σ) is

pub done_live : (σ : Signature) (is : List Instance) → has_done σ (live_ones is) ≡ has_done σ is
unfolding has_done live_ones
done_live σ is = any_kept is_live (is_done σ) (void_done σ) is

pub find_live : (σ : Signature) (is : List Instance) → find (is_done σ) (live_ones is) ≡ find (is_done σ) is
unfolding live_ones
find_live σ is = find_kept is_live (is_done σ) (void_done σ) is

-- ---- circuits that are ready, where the same signatures are complete

abbrev pub SameDone : List Instance → List Instance → Type 0
SameDone is js = (σ : Signature) → has_done σ is ≡ has_done σ js

pub keys_same : (s t : State) → SameDone s.instances t.instances → (x : Plan) → has_keys s x ≡ has_keys t x
unfolding has_keys
keys_same s t h x = rw (h Rlk2, all_same (has_turn s) (has_turn t) (λ g. h (Rot g)) x.turns) refl

pub ready_same : (f : Fixed) (p q : ℕ) (is js : List Instance) (given : List (List Bool)) (cs : List CircuitState) → SameDone is js
    → (c : ℕ) → ready f (seen p is given cs) c ≡ ready f (seen q js given cs) c
unfolding ready
ready_same f p q is js given cs h c = rw (keys_same (seen p is given cs) (seen q js given cs) h (plan f c)) refl

pub next_ready_same : (f : Fixed) (p q : ℕ) (is js : List Instance) (given : List (List Bool)) (cs : List CircuitState) → SameDone is js
    → next_ready f (seen p is given cs) ≡ next_ready f (seen q js given cs)
unfolding next_ready
next_ready_same f p q is js given cs h =
    find_same (ready f (seen p is given cs)) (ready f (seen q js given cs)) (ready_same f p q is js given cs h) (range_with_len 0 _)

-- ---- calls

pub take_live : (f : Fixed) (is : List Instance) (given : List (List Bool)) (cs : List CircuitState) (who : ℕ)
    → take f (seen 0 (live_ones is) given cs) who ≡ take f (seen 0 is given cs) who
unfolding take
take_live f is given cs who = rw (next_ready_same f 0 0 (live_ones is) is given cs (λ σ. done_live σ is), take) refl

pub input_live : (f : Fixed) (p : ℕ) (is : List Instance) (given : List (List Bool)) (c k : ℕ)
    → input f (seen p (live_ones is) given []) c k ≡ input f (seen p is given []) c k
unfolding input
input_live f p is given c k = rw (done_live Pk is) refl
