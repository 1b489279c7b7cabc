-- Issuing ends: each move lowers a weight, which is the number of needed signatures of which no
-- instance lives, and two more where a first round is complete.
use Rattle.std.proofs.Common.{◌≡◌, ◌∙◌, sym, ap, subst, refl, ℕ, zero, suc, ◌+◌, ◌*◌, ◌≤◌, Bool, true, false, not, nat_eq, cond, ◌||◌, ◌⊎◌, inl, inr, List, [], ◌∷◌, ◌++◌, length, map, filter, fold, Contains, Option, Some, None, arith}
use Rattle.std.specs.Prelude.{if◌then◌else◌}
use Rattle.std.specs.List.{range_with_len, list_any}
use Rattle.std.proofs.lemmas.Bool.{both_ways, cases_Bool, not-true, not_from_false, not_from_true, eqb-true, eq-eqb, false_from_ne_true, or_parts}
use Rattle.std.proofs.lemmas.List.{length-append, length-map}
use Rattle.std.proofs.lemmas.List.Elements.{filter-append, Contains-append_left, Contains-append_right, Contains-push}
use Rattle.std.proofs.lemmas.List.Folds.{list_any-append}
use Rattle.proto_names.specs.Names.{same}
use Rattle.proto_names.specs.Instances.{lives, is_done, fresh, given_up, after_void}
use Rattle.proto_names.specs.declared.signature.Signature.{Signature}
use Rattle.proto_names.specs.declared.signature.Signature.TheVariants.{Pk, Rlk1, Rlk2, Rot, Dec}
use Rattle.proto_names.specs.declared.instance.Instance.{Instance}
use Rattle.proto_names.specs.declared.instance.Stage.TheVariants.{Opened, Complete, Void}
use Rattle.session_rules.specs.declared.state.CircuitState.{CircuitState}
use Rattle.session_rules.specs.declared.moves.Move.{Move}
use Rattle.session_rules.specs.declared.fixed.Fixed.{Fixed}
use Rattle.session_rules.specs.States.{State, has_live, has_done}
use Rattle.session_rules.specs.Issues.{keys, wants_key, wants_relin, next_move, instances_after, moved, chosen_present, moves_in, moves, issued_in, most_moves, issue}
use Rattle.session_rules.specs.Facts.{IsLive, Kept, IssueEnds, IssueIsItsMoves, MovesAreFew}
use Rattle.session_rules.proofs.Contained.{contains_nil, contains_cases, contains_map, contains_map_from, any_false, any_from, any_none, any_true, contains_here, contains_there}
use Rattle.session_rules.proofs.Marks.{lives_is, IsDone, done_is, done_from, same_self, one_number, lives_from, complete_lives, opened_lives}
use Rattle.session_rules.proofs.MoveKinds.{MoveIs, gives_up, second, other, move_is, IsNeeded, key, decryption}
use Rattle.session_rules.proofs.Later.{later_lives}
use Rattle.session_rules.proofs.Losses.{give_up_later}
use Rattle.session_rules.proofs.Keeps.{move_kept}

-- ---- how many pass a test

one_more : {X : Type 0} (a b c : Bool) (x : X) (us vs ws : List X) → (a ≡ true → (b ≡ true) ⊎ (c ≡ true)) → length us ≤ length vs + length ws
    → length (cond a (x ∷ us) us) ≤ length (cond b (x ∷ vs) vs) + length (cond c (x ∷ ws) ws)
one_more true true true x us vs ws h l = omega arith
one_more true true false x us vs ws h l = omega arith
one_more true false true x us vs ws h l = omega arith
one_more true false false x us vs ws h l = elim (h refl) [
  | inl e ↦ cc
  | inr e ↦ cc
]
one_more false true true x us vs ws h l = omega arith
one_more false true false x us vs ws h l = omega arith
one_more false false true x us vs ws h l = omega arith
one_more false false false x us vs ws h l = omega arith

-- what passes one test passes one of two others
passing_at_most : {X : Type 0} (a b c : X → Bool) (xs : List X) → ((x : X) → a x ≡ true → (b x ≡ true) ⊎ (c x ≡ true)) → length (filter a xs) ≤ length (filter b xs) + length (filter c xs)
passing_at_most a b c [] h = omega arith
passing_at_most a b c (x ∷ xs) h = one_more (a x) (b x) (c x) x (filter a xs) (filter b xs) (filter c xs) (h x) (passing_at_most a b c xs h)

two_ways : {X : Type 0} (a b : Bool) (x : X) (us vs : List X) → (a ≡ true → b ≡ true) → length us ≤ length vs → length (cond a (x ∷ us) us) ≤ length (cond b (x ∷ vs) vs)
two_ways true true x us vs h l = omega arith
two_ways true false x us vs h l = let e = h refl in cc
two_ways false true x us vs h l = omega arith
two_ways false false x us vs h l = l

passing_le : {X : Type 0} (a b : X → Bool) (xs : List X) → ((x : X) → a x ≡ true → b x ≡ true) → length (filter a xs) ≤ length (filter b xs)
passing_le a b [] h = omega arith
passing_le a b (x ∷ xs) h = two_ways (a x) (b x) x (filter a xs) (filter b xs) (h x) (passing_le a b xs h)

two_less : {X : Type 0} (a b : Bool) (x : X) (us vs : List X) → (a ≡ true → b ≡ true) → length us + 1 ≤ length vs → length (cond a (x ∷ us) us) + 1 ≤ length (cond b (x ∷ vs) vs)
two_less true true x us vs h l = omega arith
two_less true false x us vs h l = let e = h refl in cc
two_less false true x us vs h l = omega arith
two_less false false x us vs h l = l

here_less : {X : Type 0} (a b : Bool) (x : X) (us vs : List X) → a ≡ false → b ≡ true → length us ≤ length vs → length (cond a (x ∷ us) us) + 1 ≤ length (cond b (x ∷ vs) vs)
here_less true b x us vs e h l = cc
here_less false true x us vs e h l = omega arith
here_less false false x us vs e h l = cc

-- and one passes that did not
pub passing_less : {X : Type 0} (a b : X → Bool) (xs : List X) (it : X) → ((x : X) → a x ≡ true → b x ≡ true) → Contains xs it → a it ≡ false → b it ≡ true → length (filter a xs) + 1 ≤ length (filter b xs)
passing_less a b [] it h m no_ yes_ = absurd (contains_nil it m)
passing_less a b (x ∷ xs) it h m no_ yes_ = elim (contains_cases x xs it m) [
  | inl e ↦ here_less (a x) (b x) x (filter a xs) (filter b xs) (rw e no_) (rw e yes_) (passing_le a b xs h)
  | inr rest ↦ two_less (a x) (b x) x (filter a xs) (filter b xs) (h x) (passing_less a b xs it h rest no_ yes_)
]

pub passing_all : {X : Type 0} (a : X → Bool) (xs : List X) → length (filter a xs) ≤ length xs
passing_all a [] = omega arith
passing_all a (x ∷ xs) = at (a x) (passing_all a xs)
  where
    at : (b : Bool) → length (filter a xs) ≤ length xs → length (cond b (x ∷ filter a xs) (filter a xs)) ≤ length (x ∷ xs)
    at true l = omega arith
    at false l = omega arith

passing_none : {X : Type 0} (a : X → Bool) (xs : List X) → ((x : X) → Contains xs x → a x ≡ false) → length (filter a xs) ≡ 0
passing_none a [] h = refl
passing_none a (x ∷ xs) h = rw (h x (contains_here x xs)) (passing_none a xs (λ y m. h y (contains_there x xs y m)))

-- ---- a first round is one key at most

in_first : (b : Bool) → length (filter (same Rlk1) (cond b (Pk ∷ []) [])) ≡ 0
unfolding same
in_first true = refl
in_first false = refl

in_second : (b : Bool) → length (filter (same Rlk1) (cond b (Rlk1 ∷ Rlk2 ∷ []) [])) ≤ 1
unfolding same
in_second true = omega arith
in_second false = omega arith

turns_none : (turns : List ℕ) → length (filter (same Rlk1) (map Rot turns)) ≡ 0
unfolding same
turns_none turns = passing_none (same Rlk1) (map Rot turns) (λ x m. let c = contains_map_from Rot turns x m in rw (← c.same) refl)

decryptions_none : (cs : List ℕ) → length (filter (same Rlk1) (map Dec cs)) ≡ 0
unfolding same
decryptions_none cs = passing_none (same Rlk1) (map Dec cs) (λ x m. let c = contains_map_from Dec cs x m in rw (← c.same) refl)

-- all that may ever be needed
unfoldable needs : Fixed → List CircuitState → List Signature
needs f circuits = keys f ++ map Dec (range_with_len 0 (length circuits))

passing_both : (xs ys : List Signature) → length (filter (same Rlk1) (xs ++ ys)) ≡ length (filter (same Rlk1) xs) + length (filter (same Rlk1) ys)
passing_both xs ys = ap length (filter-append (same Rlk1) xs ys) ∙ length-append (filter (same Rlk1) xs) (filter (same Rlk1) ys)

one_first : (f : Fixed) (circuits : List CircuitState) → length (filter (same Rlk1) (needs f circuits)) ≤ 1
unfolding needs keys
one_first f circuits =
    let a = list_any wants_key f.plans in
    let b = list_any wants_relin f.plans in
    let A = cond a (Pk ∷ []) [] in
    let B = cond b (Rlk1 ∷ Rlk2 ∷ []) [] in
    let D = map Dec (range_with_len 0 (length circuits)) in
    sum_up (length (filter (same Rlk1) ((A ++ B ++ map Rot f.turns) ++ D))) (length (filter (same Rlk1) (A ++ B ++ map Rot f.turns))) (length (filter (same Rlk1) (A ++ B)))
    (length (filter (same Rlk1) A)) (length (filter (same Rlk1) B)) (length (filter (same Rlk1) (map Rot f.turns))) (length (filter (same Rlk1) D))
    (passing_both (A ++ B ++ map Rot f.turns) D) (passing_both (A ++ B) (map Rot f.turns)) (passing_both A B)
    (in_first a) (in_second b) (turns_none f.turns) (decryptions_none (range_with_len 0 (length circuits)))
  where
    sum_up : (all front pair a b c d : ℕ) → all ≡ front + d → front ≡ pair + c → pair ≡ a + b → a ≡ 0 → b ≤ 1 → c ≡ 0 → d ≡ 0 → all ≤ 1
    sum_up all front pair a b c d e1 e2 e3 ea eb ec ed = omega arith

pub range_length : (a n : ℕ) → length (range_with_len a n) ≡ n
range_length a zero = refl
range_length a (suc n) = ap suc (range_length (a + 1) n)

needs_length : (f : Fixed) (circuits : List CircuitState) → length (needs f circuits) ≡ length (keys f) + length circuits
unfolding needs
needs_length f circuits =
    length-append (keys f) (map Dec (range_with_len 0 (length circuits)))
    ∙ ap (λ (z : ℕ). length (keys f) + z) (length-map (range_with_len 0 (length circuits)) Dec ∙ range_length 0 (length circuits))

needed_in : (f : Fixed) (circuits : List CircuitState) (σ : Signature) → IsNeeded f circuits σ → Contains (needs f circuits) σ
unfolding needs
needed_in f circuits σ (key m) = Contains-append_left (keys f) (map Dec (range_with_len 0 (length circuits))) σ m
needed_in f circuits σ (decryption c e m evaluated) =
    Contains-append_right (keys f) (map Dec (range_with_len 0 (length circuits))) σ
    (subst (λ (τ : Signature). Contains (map Dec (range_with_len 0 (length circuits))) τ) (sym e) (contains_map Dec (range_with_len 0 (length circuits)) c m))

-- ---- the weight

unfoldable lacking : List Instance → Signature → Bool
lacking is σ = not (has_live σ is)

unfoldable weight : Fixed → List CircuitState → List Instance → ℕ
weight f circuits is = length (filter (lacking is) (needs f circuits)) + 2 * cond (has_done Rlk1 is) 1 0

weight_most : (f : Fixed) (circuits : List CircuitState) (is : List Instance) → weight f circuits is ≤ length (keys f) + length circuits + 2
unfolding weight
weight_most f circuits is =
    at (has_done Rlk1 is) (length (filter (lacking is) (needs f circuits))) (passing_all (lacking is) (needs f circuits)) (needs_length f circuits)
  where
    at : (b : Bool) (n : ℕ) → n ≤ length (needs f circuits) → length (needs f circuits) ≡ length (keys f) + length circuits → n + 2 * cond b 1 0 ≤ length (keys f) + length circuits + 2
    at true n l e = omega arith
    at false n l e = omega arith

-- what lives in a list lives in a longer one
lacking_push : (is : List Instance) (i : Instance) (σ : Signature) → lacking (is ++ i ∷ []) σ ≡ true → lacking is σ ≡ true
unfolding lacking has_live
lacking_push is i σ h =
    let none : list_any (lives σ) (is ++ i ∷ []) ≡ false = not-true (list_any (lives σ) (is ++ i ∷ [])) h in
    not_from_false (list_any (lives σ) is) (or_parts (list_any (lives σ) is) (list_any (lives σ) (i ∷ [])) (sym (list_any-append (lives σ) is (i ∷ [])) ∙ none)).0

lives_pushed : (is : List Instance) (i : Instance) → IsLive i → lacking (is ++ i ∷ []) i.signature ≡ false
unfolding lacking has_live
lives_pushed is i h =
    not_from_true (list_any (lives i.signature) (is ++ i ∷ []))
    (any_from (lives i.signature) (is ++ i ∷ []) i (Contains-push is i) (lives_from i.signature i refl h))

done_pushed : (is : List Instance) (i : Instance) → i.stage ≡ Opened → has_done Rlk1 (is ++ i ∷ []) ≡ has_done Rlk1 is
unfolding has_done
done_pushed is i e =
    list_any-append (is_done Rlk1) is (i ∷ []) ∙ rw (false_from_ne_true (is_done Rlk1 i) (λ d. let c = (done_is Rlk1 i d).complete in cc)) (or_right_false (list_any (is_done Rlk1) is))
  where
    or_right_false : (b : Bool) → (b || (false || false)) ≡ b
    or_right_false true = refl
    or_right_false false = refl

lacks_it : (is : List Instance) (i : Instance) → has_live i.signature is ≡ false → lacking is i.signature ≡ true
unfolding lacking
lacks_it is i none = not_from_false (has_live i.signature is) none

push_lowers : (f : Fixed) (circuits : List CircuitState) (is : List Instance) (i : Instance) → has_live i.signature is ≡ false → i.stage ≡ Opened → Contains (needs f circuits) i.signature
    → weight f circuits (is ++ i ∷ []) + 1 ≤ weight f circuits is
unfolding weight
push_lowers f circuits is i none opened needed =
    let fewer = passing_less (lacking (is ++ i ∷ [])) (lacking is) (needs f circuits) i.signature (lacking_push is i) needed (lives_pushed is i (opened_lives i opened)) (lacks_it is i none) in
    rw (done_pushed is i opened) (add_up (length (filter (lacking (is ++ i ∷ [])) (needs f circuits))) (length (filter (lacking is) (needs f circuits))) (2 * cond (has_done Rlk1 is) 1 0) fewer)
  where
    add_up : (a b c : ℕ) → a + 1 ≤ b → a + c + 1 ≤ b + c
    add_up a b c l = omega arith

-- none is complete where the complete first round is given up
pub none_done : (f : Fixed) (s : State) (i : Instance) (by : ℕ) → Kept f s → Contains s.instances i → IsDone Rlk1 i → has_done Rlk1 (after_void i.id by s.instances) ≡ false
unfolding has_done after_void
none_done f s i by k m d = any_none (is_done Rlk1) (map (given_up i.id by) s.instances) (λ b n. false_from_ne_true (is_done Rlk1 b) (λ h.
    let x = contains_map_from (given_up i.id by) s.instances b n in
    given_up_done f s i by k m d x.source x.within (subst (λ (z : Instance). IsDone Rlk1 z) (sym x.same) (done_is Rlk1 b h))))
  where
    void_done : (i a : Instance) (by : ℕ) → a.id ≡ i.id → IsDone Rlk1 (given_up i.id by a) → ⊥
    void_done i a by e d = let c : (if nat_eq a.id i.id then record a { stage = Void by } else a).stage ≡ Complete = d.complete in
        let v : Void by ≡ Complete = rw (eq-eqb a.id i.id e) at c in cc

    given_up_done : (f : Fixed) (s : State) (i : Instance) (by : ℕ) → Kept f s → Contains s.instances i → IsDone Rlk1 i → (a : Instance) → Contains s.instances a → IsDone Rlk1 (given_up i.id by a) → ⊥
    given_up_done f s i by k m d a n h =
        let l = give_up_later f s i by k m d a n in
        let mark : a.signature ≡ Rlk1 = sym l.signature ∙ h.signature in
        let ids : a.id ≡ i.id = k.one a i n m (mark ∙ sym d.signature) (later_lives a (given_up i.id by a) l (complete_lives (given_up i.id by a) h.complete)) (complete_lives i d.complete) in
        void_done i a by ids h

-- and of no other signature one lives less
lacks_more : (f : Fixed) (s : State) (i : Instance) (by : ℕ) → Kept f s → Contains s.instances i → IsDone Rlk1 i
    → (σ : Signature) → lacking (after_void i.id by s.instances) σ ≡ true → (lacking s.instances σ ≡ true) ⊎ (same Rlk1 σ ≡ true)
unfolding lacking after_void has_live
lacks_more f s i by k m d σ h = elim (cases_Bool (list_any (lives σ) s.instances)) [
  | inr none ↦ inl (not_from_false (list_any (lives σ) s.instances) none)
  | inl some_ ↦
      let x = any_true (lives σ) s.instances some_ in
      at x.item x.within x.passes (nat_eq x.item.id i.id) refl
]
  where
    at : (a : Instance) → Contains s.instances a → lives σ a ≡ true → (b : Bool) → nat_eq a.id i.id ≡ b → (not (list_any (lives σ) s.instances) ≡ true) ⊎ (same Rlk1 σ ≡ true)
    at a n p true e =
        let it : a ≡ i = one_number s.instances a i k.numbered n m (eqb-true a.id i.id e) in
        let mark : σ ≡ Rlk1 = sym (lives_is σ a p).0 ∙ ap (λ (z : Instance). z.signature) it ∙ d.signature in
        inr (rw mark (same_self Rlk1))
    at a n p false e =
        let stays : given_up i.id by a ≡ a = rw e refl in
        let there : Contains (map (given_up i.id by) s.instances) a = subst (λ (z : Instance). Contains (map (given_up i.id by) s.instances) z) stays (contains_map (given_up i.id by) s.instances a n) in
        absurd (both_ways (lives σ a) (any_false (lives σ) (map (given_up i.id by) s.instances) a (not-true (list_any (lives σ) (map (given_up i.id by) s.instances)) h) there) p)

it_is_done : (is : List Instance) (i : Instance) → Contains is i → IsDone Rlk1 i → has_done Rlk1 is ≡ true
unfolding has_done
it_is_done is i m d = any_from (is_done Rlk1) is i m (done_from Rlk1 i d)

void_lowers : (f : Fixed) (s : State) (i : Instance) (by : ℕ) → Kept f s → Contains s.instances i → IsDone Rlk1 i
    → weight f s.circuits (after_void i.id by s.instances) + 1 ≤ weight f s.circuits s.instances
unfolding weight
void_lowers f s i by k m d =
    let most = passing_at_most (lacking (after_void i.id by s.instances)) (lacking s.instances) (same Rlk1) (needs f s.circuits) (lacks_more f s i by k m d) in
    add_up (length (filter (lacking (after_void i.id by s.instances)) (needs f s.circuits))) (length (filter (lacking s.instances) (needs f s.circuits))) (length (filter (same Rlk1) (needs f s.circuits)))
    (has_done Rlk1 (after_void i.id by s.instances)) (has_done Rlk1 s.instances) most (one_first f s.circuits) (none_done f s i by k m d) (it_is_done s.instances i m d)
  where
    add_up : (a b c : ℕ) (x y : Bool) → a ≤ b + c → c ≤ 1 → x ≡ false → y ≡ true → a + 2 * cond x 1 0 + 1 ≤ b + 2 * cond y 1 0
    add_up a b c x y l k e h = rw (e, h) (omega arith)

-- each move lowers it
lowers : (f : Fixed) (s : State) (m : Move) → Kept f s → MoveIs f s m → weight f s.circuits (moved s m).instances + 1 ≤ weight f s.circuits s.instances
unfolding moved instances_after fresh
lowers f s m k (gives_up i by none n d lost e) = rw e (void_lowers f s i by k n d)
lowers f s m k (second i none n d all needed e) = rw e (push_lowers f s.circuits s.instances (fresh s.instances Rlk2 i.set i.id 0) none refl (needed_in f s.circuits Rlk2 needed))
lowers f s m k (other σ no_second none many needed e) = rw e (push_lowers f s.circuits s.instances (fresh s.instances σ (chosen_present f s) 0 0) none refl (needed_in f s.circuits σ needed))

-- ---- issuing ends

none_left : (f : Fixed) (s : State) → Kept f s → weight f s.circuits s.instances ≤ 0 → (o : Option Move) → next_move f s ≡ o → next_move f s ≡ None
none_left f s k l None e = e
none_left f s k l (Some m) e = let less = lowers f s m k (move_is f s m e) in absurd (omega arith)

ends_then : (n : ℕ) (f : Fixed) (s : State) → ((t : State) → Kept f t → weight f t.circuits t.instances ≤ n → next_move f (issued_in n f t) ≡ None)
    → Kept f s → weight f s.circuits s.instances ≤ suc n → (o : Option Move) → next_move f s ≡ o → next_move f (elim o [
      | None ↦ s
      | Some m ↦ issued_in n f (moved s m)
    ]) ≡ None
unfolding moved
ends_then n f s more k l None e = e
ends_then n f s more k l (Some m) e =
    let it = move_is f s m e in
    let less = lowers f s m k it in
    more (moved s m) (move_kept f s m k it) (omega arith)

ends_in : (n : ℕ) (f : Fixed) (s : State) → Kept f s → weight f s.circuits s.instances ≤ n → next_move f (issued_in n f s) ≡ None
unfolding issued_in
ends_in zero f s k l = none_left f s k l (next_move f s) refl
ends_in (suc n) f s k l = ends_then n f s (ends_in n f) k l (next_move f s) refl

-- after an issue no move is left
pub issue_ends : IssueEnds
unfolding issue most_moves
issue_ends f s k =
    let most = weight_most f s.circuits s.instances in
    let as_long = k.circuits in
    ends_in (length (keys f) + length f.plans + 2) f s k (omega arith)

-- ---- the moves, one after the other

folds_then : (n : ℕ) (f : Fixed) (s : State) → ((t : State) → (issued_in n f t).instances ≡ fold instances_after t.instances (moves_in n f t)) → (o : Option Move)
    → (elim o as (λ x. State) [
      | None ↦ s
      | Some m ↦ issued_in n f (moved s m)
    ]).instances ≡ fold instances_after s.instances (elim o as (λ x. List Move) [
      | None ↦ []
      | Some m ↦ m ∷ moves_in n f (moved s m)
    ])
unfolding moved
folds_then n f s more None = refl
folds_then n f s more (Some m) = more (moved s m)

-- the instances after n steps are those after their moves
issued_folds : (n : ℕ) (f : Fixed) (s : State) → (issued_in n f s).instances ≡ fold instances_after s.instances (moves_in n f s)
unfolding issued_in moves_in
issued_folds zero f s = refl
issued_folds (suc n) f s = folds_then n f s (issued_folds n f) (next_move f s)

pub issue_is_its_moves : IssueIsItsMoves
unfolding issue moves
issue_is_its_moves f s = issued_folds (most_moves f) f s

most_then : (n : ℕ) (f : Fixed) (s : State) → ((t : State) → length (moves_in n f t) ≤ n) → (o : Option Move) → length (elim o as (λ x. List Move) [
  | None ↦ []
  | Some m ↦ m ∷ moves_in n f (moved s m)
]) ≤ suc n
most_then n f s more None = omega arith
most_then n f s more (Some m) = let l = more (moved s m) in omega arith

moves_at_most : (n : ℕ) (f : Fixed) (s : State) → length (moves_in n f s) ≤ n
unfolding moves_in
moves_at_most zero f s = omega arith
moves_at_most (suc n) f s = most_then n f s (moves_at_most n f) (next_move f s)

pub moves_are_few : MovesAreFew
unfolding moves
moves_are_few f s = moves_at_most (most_moves f) f s
