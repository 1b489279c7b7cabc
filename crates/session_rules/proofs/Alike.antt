-- Lists of instances in which the rules of issue see the same: those with the same live instances, up to attempts.
use Rattle.std.proofs.Common.{◌≡◌, ◌∙◌, refl, sym, ap, subst, ℕ, ◌+◌, Bool, true, false, not, nat_eq, cond, inl, inr, List, [], ◌∷◌, ◌++◌, length, map, filter, find, Option, Some, None}
use Rattle.std.specs.List.{range_with_len, list_any}
use Rattle.std.specs.Option.{option_map, option_and_then}
use Rattle.std.specs.Prelude.{if◌then◌else◌}
use Rattle.std.proofs.lemmas.Bool.{cases_Bool}
use Rattle.std.proofs.lemmas.List.{map-append}
use Rattle.std.proofs.lemmas.List.Elements.{filter-append}
use Rattle.std.proofs.lemmas.List.Folds.{fold-map}
use Rattle.proto_names.specs.Names.{same}
use Rattle.proto_names.specs.Instances.{lives, is_done, lacks, after_void}
use Rattle.proto_names.specs.declared.signature.Signature.{Signature}
use Rattle.proto_names.specs.declared.signature.Signature.TheVariants.{Rlk1, Rlk2, Dec}
use Rattle.proto_names.specs.declared.instance.Instance.{Instance}
use Rattle.participants.specs.Loads.{load, loads_of}
use Rattle.participants.specs.Live.{is_live, live_ones}
use Rattle.participants.proofs.Raising.{all_32, length_loads, load_at}
use Rattle.participants.proofs.Live.{filter_kept, loads_live}
use Rattle.session_rules.specs.declared.moves.Move.TheVariants.{Issue}
use Rattle.session_rules.specs.declared.fixed.Fixed.{Fixed}
use Rattle.session_rules.specs.declared.state.CircuitState.{CircuitState}
use Rattle.session_rules.specs.States.{State, seen, has_live, has_done}
use Rattle.session_rules.specs.Issues.{keys, enough, condition, may_issue, may_decrypt, next_decryption, next_signature, outdated, rule_1, second_round, chosen_present, issued_as, rule_2, next_move}
use Rattle.session_rules.proofs.Live.{find_same, SameDone, live_live, done_live, find_live}

-- ---- where rules see the same

-- an instance without its attempt: no rule looks at it
abbrev pub bare : Instance → Instance
bare i = record i { attempt = 0 }

pub record Alike (is js : List Instance) : Type 0 where
  pub live : (σ : Signature) → has_live σ is ≡ has_live σ js
  pub done : SameDone is js
  pub first : option_map bare (find (is_done Rlk1) is) ≡ option_map bare (find (is_done Rlk1) js)
  pub loads : loads_of is ≡ loads_of js

-- ---- the same move is next

and_then_same : {X Y : Type 0} (g h : X → Option Y) → ((x : X) → g x ≡ h x) → (o : Option X) → option_and_then g o ≡ option_and_then h o
and_then_same g h same None = refl
and_then_same g h same (Some x) = same x

outdated_bare : (p : ℕ) (is js : List Instance) (cs : List CircuitState) (o : Option Instance)
    → option_and_then (outdated (seen p is [] cs)) o ≡ option_and_then (outdated (seen p js [] cs)) (option_map bare o)
unfolding outdated
outdated_bare p is js cs None = refl
outdated_bare p is js cs (Some i) = refl

second_bare : (o : Option Instance) → option_map second_round o ≡ option_map second_round (option_map bare o)
second_bare None = refl
second_bare (Some i) = refl

if_else : {X : Type 0} (b : Bool) (x y z : X) → y ≡ z → (if b then x else y) ≡ (if b then x else z)
if_else true x y z e = refl
if_else false x y z e = e

if_then : {X : Type 0} (b : Bool) (x y z : X) → x ≡ y → (if b then x else z) ≡ (if b then y else z)
if_then true x y z e = e
if_then false x y z e = refl

rule_1_alike : (p : ℕ) (is js : List Instance) (cs : List CircuitState) → Alike is js → rule_1 (seen p is [] cs) ≡ rule_1 (seen p js [] cs)
unfolding rule_1
rule_1_alike p is js cs a =
    let s : State = seen p is [] cs in
    let t : State = seen p js [] cs in
    let goes : option_and_then (outdated s) (find (is_done Rlk1) is) ≡ option_and_then (outdated t) (find (is_done Rlk1) js) =
    outdated_bare p is js cs (find (is_done Rlk1) is) ∙ ap (option_and_then (outdated t)) a.first ∙ sym (outdated_bare p js js cs (find (is_done Rlk1) js)) in
    rw (a.live Rlk2) (if_else (has_live Rlk2 js) None (option_and_then (outdated s) (find (is_done Rlk1) is)) (option_and_then (outdated t) (find (is_done Rlk1) js)) goes)

may_alike : (f : Fixed) (p : ℕ) (is js : List Instance) (cs : List CircuitState) → Alike is js → (σ : Signature) → may_issue f (seen p is [] cs) σ ≡ may_issue f (seen p js [] cs) σ
unfolding may_issue condition enough
may_alike f p is js cs a σ = rw (a.live σ, a.done Rlk1) refl

decrypt_alike : (f : Fixed) (p : ℕ) (is js : List Instance) (cs : List CircuitState) → Alike is js → (c : ℕ) → may_decrypt f (seen p is [] cs) c ≡ may_decrypt f (seen p js [] cs) c
unfolding may_decrypt
decrypt_alike f p is js cs a c = rw (may_alike f p is js cs a (Dec c)) refl

signature_alike : (f : Fixed) (p : ℕ) (is js : List Instance) (cs : List CircuitState) → Alike is js → next_signature f (seen p is [] cs) ≡ next_signature f (seen p js [] cs)
unfolding next_signature next_decryption
signature_alike f p is js cs a =
    let s : State = seen p is [] cs in
    let t : State = seen p js [] cs in
    let its_key = find_same (may_issue f s) (may_issue f t) (may_alike f p is js cs a) (keys f) in
    let its_circuit = find_same (may_decrypt f s) (may_decrypt f t) (decrypt_alike f p is js cs a) (range_with_len 0 (length cs)) in
    rw (its_key, its_circuit) refl

issued_alike : (f : Fixed) (p : ℕ) (is js : List Instance) (cs : List CircuitState) → Alike is js → (σ : Signature) → issued_as f (seen p is [] cs) σ ≡ issued_as f (seen p js [] cs) σ
unfolding issued_as chosen_present
issued_alike f p is js cs a σ =
    let first : option_map second_round (find (is_done Rlk1) is) ≡ option_map second_round (find (is_done Rlk1) js) =
    second_bare (find (is_done Rlk1) is) ∙ ap (option_map second_round) a.first ∙ sym (second_bare (find (is_done Rlk1) js)) in
    let all : Some (Issue σ (chosen_present f (seen p is [] cs)) 0) ≡ Some (Issue σ (chosen_present f (seen p js [] cs)) 0) = rw a.loads refl in
    if_then (same σ Rlk2) _ _ _ first ∙ if_else (same σ Rlk2) _ _ _ all

rule_2_alike : (f : Fixed) (p : ℕ) (is js : List Instance) (cs : List CircuitState) → Alike is js → rule_2 f (seen p is [] cs) ≡ rule_2 f (seen p js [] cs)
unfolding rule_2
rule_2_alike f p is js cs a =
    let s : State = seen p is [] cs in
    let t : State = seen p js [] cs in
    rw (signature_alike f p is js cs a) (and_then_same (issued_as f s) (issued_as f t) (issued_alike f p is js cs a) (next_signature f t))

pub next_alike : (f : Fixed) (p : ℕ) (is js : List Instance) (cs : List CircuitState) → Alike is js → next_move f (seen p is [] cs) ≡ next_move f (seen p js [] cs)
unfolding next_move
next_alike f p is js cs a = rw (rule_1_alike p is js cs a, rule_2_alike f p is js cs a) refl

-- ---- the live ones alone

pub alike_live : (is : List Instance) → Alike (live_ones is) is
alike_live is = record {
  live = λ σ. live_live σ is;
  done = λ σ. done_live σ is;
  first = ap (option_map bare) (find_live Rlk1 is);
  loads = loads_live is;
}

-- the move that is next is told by them
pub next_live : (f : Fixed) (p : ℕ) (is : List Instance) (cs : List CircuitState) → next_move f (seen p (live_ones is) [] cs) ≡ next_move f (seen p is [] cs)
next_live f p is cs = next_alike f p (live_ones is) is cs (alike_live is)

-- ---- without attempts

any_map : {X Y : Type 0} (g : X → Y) (test : Y → Bool) (its : X → Bool) → ((x : X) → test (g x) ≡ its x) → (xs : List X) → list_any test (map g xs) ≡ list_any its xs
any_map g test its h [] = refl
any_map g test its h (x ∷ xs) = rw (h x, any_map g test its h xs) refl

find_map : {X Y : Type 0} (g : X → Y) (test : Y → Bool) (its : X → Bool) → ((x : X) → test (g x) ≡ its x) → (xs : List X) → find test (map g xs) ≡ option_map g (find its xs)
find_map g test its h [] = refl
find_map g test its h (x ∷ xs) = elim (cases_Bool (its x)) [
  | inl e ↦ rw (h x, e) refl
  | inr e ↦ rw (h x, e) (find_map g test its h xs)
]

twice_bare : (o : Option Instance) → option_map bare (option_map bare o) ≡ option_map bare o
twice_bare None = refl
twice_bare (Some i) = refl

bare_lives : (σ : Signature) (i : Instance) → lives σ (bare i) ≡ lives σ i
unfolding lives
bare_lives σ i = refl

bare_done : (σ : Signature) (i : Instance) → is_done σ (bare i) ≡ is_done σ i
unfolding is_done
bare_done σ i = refl

load_bare : (is : List Instance) (p : ℕ) → load (map bare is) p ≡ load is p
unfolding load lacks
load_bare is p = fold-map (λ (n : ℕ) (i : Instance). n + cond (lacks p i) 1 0) bare 0 is

loads_bare : (is : List Instance) → loads_of (map bare is) ≡ loads_of is
unfolding loads_of
loads_bare is = all_32 (load is) (loads_of (map bare is)) (length_loads (map bare is)) (λ k l. load_at (map bare is) k l ∙ load_bare is (k + 1))

alike_bare : (is : List Instance) → Alike (map bare is) is
unfolding has_live has_done
alike_bare is = record {
  live = λ σ. any_map bare (lives σ) (lives σ) (bare_lives σ) is;
  done = λ σ. any_map bare (is_done σ) (is_done σ) (bare_done σ) is;
  first = ap (option_map bare) (find_map bare (is_done Rlk1) (is_done Rlk1) (bare_done Rlk1) is) ∙ twice_bare (find (is_done Rlk1) is);
  loads = loads_bare is;
}

-- ---- the live ones without attempts

unfoldable pub bares : List Instance → List Instance
bares is = map bare (live_ones is)

alike_by : (is js ks : List Instance) → Alike is js → Alike js ks → Alike is ks
alike_by is js ks a b = record {
  live = λ σ. a.live σ ∙ b.live σ;
  done = λ σ. a.done σ ∙ b.done σ;
  first = a.first ∙ b.first;
  loads = a.loads ∙ b.loads;
}

alike_back : (is js : List Instance) → Alike is js → Alike js is
alike_back is js a = record { live = λ σ. sym (a.live σ); done = λ σ. sym (a.done σ); first = sym a.first; loads = sym a.loads }

alike_bares : (is : List Instance) → Alike (bares is) is
unfolding bares
alike_bares is = alike_by (map bare (live_ones is)) (live_ones is) is (alike_bare (live_ones is)) (alike_live is)

-- where these are the same, so is what the rules see
pub alike_from : (is js : List Instance) → bares is ≡ bares js → Alike is js
alike_from is js e =
    let a : Alike (bares js) is = subst (λ (z : List Instance). Alike z is) e (alike_bares is) in
    alike_by is (bares js) js (alike_back (bares js) is a) (alike_bares js)

-- the live ones of live ones are all of them
pub bares_live : (is : List Instance) → bares (live_ones is) ≡ bares is
unfolding bares live_ones
bares_live is = ap (map bare) (filter_kept is_live is_live (λ i e. e) is)

-- ---- moves

bares_more : (is : List Instance) (i : Instance) → is_live i ≡ true → bares (is ++ i ∷ []) ≡ bares is ++ bare i ∷ []
unfolding bares live_ones
bares_more is i e =
    let last : filter is_live (i ∷ []) ≡ i ∷ [] = rw e refl in
    ap (map bare) (filter-append is_live is (i ∷ []))
    ∙ map-append bare (filter is_live is) (filter is_live (i ∷ []))
    ∙ ap (λ (zs : List Instance). map bare (filter is_live is) ++ map bare zs) last

-- one more of each
pub bares_push : (is js : List Instance) (i j : Instance) → bares is ≡ bares js → is_live i ≡ true → is_live j ≡ true → bare i ≡ bare j
    → bares (is ++ i ∷ []) ≡ bares (js ++ j ∷ [])
bares_push is js i j e a b same_ = bares_more is i a ∙ ap (λ (zs : List Instance). zs ++ bare i ∷ []) e ∙ ap (λ (z : Instance). bares js ++ z ∷ []) same_ ∙ sym (bares_more js j b)

-- those of another number
abbrev is_other : ℕ → Instance → Bool
is_other id i = not (nat_eq i.id id)

bares_void : (id by : ℕ) (is : List Instance) → bares (after_void id by is) ≡ filter (is_other id) (bares is)
unfolding bares live_ones after_void
bares_void id by [] = refl
bares_void id by (i ∷ is) = elim (cases_Bool (nat_eq i.id id)) [
  | inl e ↦ elim (cases_Bool (is_live i)) [
    | inl l ↦ rw (e, l) (rw e (bares_void id by is))
    | inr l ↦ rw (e, l) (bares_void id by is)
  ]
  | inr e ↦ elim (cases_Bool (is_live i)) [
    | inl l ↦ rw (e, l) (rw e (ap (λ (zs : List Instance). bare i ∷ zs) (bares_void id by is)))
    | inr l ↦ rw (e, l) (bares_void id by is)
  ]
]

-- one is given up in both
pub bares_given_up : (id by : ℕ) (is js : List Instance) → bares is ≡ bares js → bares (after_void id by is) ≡ bares (after_void id by js)
bares_given_up id by is js e = bares_void id by is ∙ ap (filter (is_other id)) e ∙ sym (bares_void id by js)
