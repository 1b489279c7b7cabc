-- What the rules of issue bring, from any state: which signatures may be issued is known by what is needed,
-- and no complete first round is given up whose parties are all present.
use Rattle.std.proofs.Common.{◌≡◌, ◌≢◌, ◌∙◌, sym, ap, subst, refl, ℕ, ◌+◌, ◌<◌, ◌≤◌, Bool, true, false, not, ◌&&◌, ◌⊎◌, inl, inr, List, [], ◌∷◌, ◌++◌, length, map, find, Contains, Option, Some, None, arith}
use Rattle.std.specs.Prelude.{if◌then◌else◌, nat_eq, nat_le, ⊤}
use Rattle.std.specs.List.{range_with_len}
use Rattle.std.specs.Option.{option_map, option_or, option_and_then}
use Rattle.std.proofs.lemmas.Bool.{both_ways, cases_Bool, eqb-true, false_from_ne_true, not_from_false, not-true, and_parts, and_from, le-leb}
use Rattle.std.proofs.lemmas.List.{length-map, length_push}
use Rattle.std.proofs.lemmas.List.Elements.{Contains-append_left, Contains-push_cases}
use Rattle.share_spec.specs.Sets.{has, count}
use Rattle.proto_names.specs.Names.{same, is_void}
use Rattle.proto_names.specs.Groups.{is_outside, first_outside}
use Rattle.proto_names.specs.Instances.{lives, is_done, fresh, given_up, after_void}
use Rattle.proto_names.specs.declared.signature.Signature.{Signature}
use Rattle.proto_names.specs.declared.signature.Signature.TheVariants.{Rlk1, Rlk2, Dec}
use Rattle.proto_names.specs.declared.instance.Instance.{Instance}
use Rattle.proto_names.specs.declared.instance.Stage.TheVariants.{Opened, Void}
use Rattle.participants.specs.Loads.{loads_of}
use Rattle.participants.proofs.Choosing.{chosen_are_members}
use Rattle.session_rules.specs.declared.moves.Move.{Move}
use Rattle.session_rules.specs.declared.moves.Move.TheVariants.{GiveUp, Issue}
use Rattle.session_rules.specs.declared.fixed.Fixed.{Fixed}
use Rattle.session_rules.specs.States.{State, circuit, is_evaluated, has_live, has_done}
use Rattle.session_rules.specs.Issues.{keys, enough, condition, may_issue, may_decrypt, next_decryption, next_signature, outdated, rule_1, second_round, chosen_present, issued_as, rule_2, next_move, instances_after, moved, issue}
use Rattle.session_rules.specs.Facts.{IsLive, Kept, IsAtRest}
use Rattle.session_rules.proofs.Stepwise.{IsBeside, issue_keeps}
use Rattle.session_rules.proofs.Contained.{contains_map, contains_map_from, find_none, find_some, any_true, any_from, none_from_find}
use Rattle.session_rules.proofs.Marks.{same_is, same_self, IsDone, done_is, done_from, lives_is, lives_from, complete_lives, one_number}
use Rattle.session_rules.proofs.PartySets.{none_outside}
use Rattle.session_rules.proofs.MoveKinds.{MoveIs, gives_up, second, other, move_is, IsNeeded, key, decryption, IsNext, next_is, map_none}
use Rattle.session_rules.proofs.Keeps.{move_kept}
use Rattle.session_rules.proofs.Weights.{none_done}

-- ---- one of a signature

pub record Live (σ : Signature) (is : List Instance) : Type 0 where
  pub item : Instance
  pub within : Contains is item
  pub signature : item.signature ≡ σ
  pub lives : IsLive item

pub record Done (σ : Signature) (is : List Instance) : Type 0 where
  pub item : Instance
  pub within : Contains is item
  pub done : IsDone σ item

pub live_one : (σ : Signature) (is : List Instance) → has_live σ is ≡ true → Live σ is
unfolding has_live
live_one σ is e = let x = any_true (lives σ) is e in let l = lives_is σ x.item x.passes in record { item = x.item; within = x.within; signature = l.0; lives = l.1 }

pub live_from : (σ : Signature) (is : List Instance) → Live σ is → has_live σ is ≡ true
unfolding has_live
live_from σ is l = any_from (lives σ) is l.item l.within (lives_from σ l.item l.signature l.lives)

pub done_one : (σ : Signature) (is : List Instance) → has_done σ is ≡ true → Done σ is
unfolding has_done
done_one σ is e = let x = any_true (is_done σ) is e in record { item = x.item; within = x.within; done = done_is σ x.item x.passes }

pub done_here : (σ : Signature) (is : List Instance) (i : Instance) → Contains is i → IsDone σ i → has_done σ is ≡ true
unfolding has_done
done_here σ is i m d = any_from (is_done σ) is i m (done_from σ i d)

-- where none is there later, none was
pub not_before : (b c : Bool) → (b ≡ true → c ≡ true) → c ≡ false → b ≡ false
not_before b c h e = false_from_ne_true b (λ t. both_ways c e (h t))

-- ---- the condition

pub condition_second : (f : Fixed) (s : State) (σ : Signature) → σ ≡ Rlk2 → condition f s σ ≡ has_done Rlk1 s.instances
unfolding condition
condition_second f s σ e = rw e (rw (same_self Rlk2) refl)

pub condition_other : (f : Fixed) (s : State) (σ : Signature) → σ ≢ Rlk2 → condition f s σ ≡ nat_le f.threshold (count s.present)
unfolding condition enough
condition_other f s σ n = rw (false_from_ne_true (same σ Rlk2) (λ h. n (same_is σ Rlk2 h))) refl

pub decides_second : (σ : Signature) → (σ ≡ Rlk2) ⊎ (σ ≢ Rlk2)
decides_second σ = elim (cases_Bool (same σ Rlk2)) [
  | inl e ↦ inl (same_is σ Rlk2 e)
  | inr e ↦ inr (λ h. both_ways (same σ Rlk2) e (rw h (same_self Rlk2)))
]

pub decides_first : (σ : Signature) → (σ ≡ Rlk1) ⊎ (σ ≢ Rlk1)
decides_first σ = elim (cases_Bool (same σ Rlk1)) [
  | inl e ↦ inl (same_is σ Rlk1 e)
  | inr e ↦ inr (λ h. both_ways (same σ Rlk1) e (rw h (same_self Rlk1)))
]

-- ---- what may be issued

-- all parties of an instance are present
abbrev pub IsWithin : ℕ → Instance → Type 0
IsWithin present i = (p : ℕ) → has i.set.bits p ≡ true → has present p ≡ true

-- what is needed, has none that lives, and may be issued, is one of those said
abbrev pub Owes : (Signature → Type 0) → Fixed → State → Type 0
Owes X f s = (σ : Signature) → IsNeeded f s.circuits σ → has_live σ s.instances ≡ false → condition f s σ ≡ true → X σ

-- no complete first round is given up
abbrev pub IsFirm : State → Type 0
IsFirm s = (i : Instance) → Contains s.instances i → IsDone Rlk1 i → has_live Rlk2 s.instances ≡ false → IsWithin s.present i

-- a new one
pub record IsNew (X : Signature → Type 0) (s : State) (i : Instance) : Type 0 where
  pub id : length s.instances < i.id
  pub opened : i.stage ≡ Opened
  pub unsent : i.sent.bits ≡ 0
  pub may : X i.signature
  pub within : IsWithin s.present i

-- where an instance comes from
pub data Origin (X : Signature → Type 0) (s : State) (i : Instance) : Type 0 where
  stayed : Contains s.instances i → Origin X s i
  lapsed : is_void i.stage ≡ true → Origin X s i
  came : IsNew X s i → Origin X s i

abbrev pub Stems : (Signature → Type 0) → State → List Instance → Type 0
Stems X s now = (i : Instance) → Contains now i → Origin X s i

-- ---- a state at rest

find_done : (is : List Instance) → has_done Rlk1 is ≡ true → find (is_done Rlk1) is ≡ None → ⊥
unfolding has_done
find_done is e n = both_ways _ (none_from_find (is_done Rlk1) is n) e

-- where rule 2 does not apply nothing may be issued
unissued : (f : Fixed) (s : State) (σ : Signature) → IsNext f s σ → issued_as f s σ ≡ None → ⊥
unfolding issued_as
unissued f s σ n e = at (same σ Rlk2) refl e
  where
    at : (b : Bool) → same σ Rlk2 ≡ b → (if b then option_map second_round (find (is_done Rlk1) s.instances) else Some (Issue σ (chosen_present f s) 0)) ≡ None → ⊥
    at true h e = find_done s.instances (sym (condition_second f s σ (same_is σ Rlk2 h)) ∙ n.stands) (map_none second_round (find (is_done Rlk1) s.instances) e)
    at false h e = cc

next_none : (f : Fixed) (s : State) (o : Option Signature) → next_signature f s ≡ o → option_and_then (issued_as f s) o ≡ None → next_signature f s ≡ None
next_none f s None h e = h
next_none f s (Some σ) h e = absurd (unissued f s σ (next_is f s σ h) e)

pub or_none : {A : Type 0} (o p : Option A) → option_or o p ≡ None → (o ≡ None) × (p ≡ None)
or_none None p e = (refl, e)
or_none (Some x) p e = cc

no_signature : (f : Fixed) (s : State) → next_move f s ≡ None → next_signature f s ≡ None
unfolding next_move rule_2
no_signature f s e = next_none f s (next_signature f s) refl (or_none (rule_1 s) (rule_2 f s) e).1

not_issued : (f : Fixed) (s : State) (σ : Signature) → next_signature f s ≡ None → IsNeeded f s.circuits σ → may_issue f s σ ≡ false
unfolding next_signature next_decryption may_decrypt
not_issued f s σ e (key m) = find_none (may_issue f s) (keys f) σ (or_none (find (may_issue f s) (keys f)) (next_decryption f s) e).0 m
not_issued f s σ e (decryption c its m evaluated) =
    let none = map_none Dec (find (may_decrypt f s) (range_with_len 0 (length s.circuits))) (or_none (find (may_issue f s) (keys f)) (next_decryption f s) e).1 in
    let fails : may_decrypt f s c ≡ false = find_none (may_decrypt f s) (range_with_len 0 (length s.circuits)) c none m in
    let here : is_evaluated (circuit s.circuits c) ≡ true = rw evaluated refl in
    let both : (is_evaluated (circuit s.circuits c) && may_issue f s (Dec c)) ≡ false = fails in
    rw its (rw here at both)

may_then : (f : Fixed) (s : State) (σ : Signature) → has_live σ s.instances ≡ false → condition f s σ ≡ true → may_issue f s σ ≡ true
unfolding may_issue
may_then f s σ none stands = and_from (not (has_live σ s.instances)) (condition f s σ) (not_from_false (has_live σ s.instances) none) stands

-- nothing is left to be issued
pub rest_owes : (f : Fixed) (s : State) → IsAtRest f s → Owes (λ σ. ⊥) f s
rest_owes f s rest σ needed none stands = both_ways (may_issue f s σ) (not_issued f s σ (no_signature f s rest) needed) (may_then f s σ none stands)

-- no first round is left to be given up
first_left : (f : Fixed) (s : State) (i : Instance) → Kept f s → Contains s.instances i → IsDone Rlk1 i → (o : Option Instance) → find (is_done Rlk1) s.instances ≡ o
    → option_and_then (outdated s) o ≡ None → IsWithin s.present i
unfolding outdated
first_left f s i k m d None found e = absurd (find_done s.instances (done_here Rlk1 s.instances i m d) found)
first_left f s i k m d (Some j) found e =
    let at = find_some (is_done Rlk1) s.instances j found in
    let c = done_is Rlk1 j at.1 in
    let ids : i.id ≡ j.id = k.one i j m at.0 (d.signature ∙ sym c.signature) (complete_lives i d.complete) (complete_lives j c.complete) in
    let it : i ≡ j = one_number s.instances i j k.numbered m at.0 ids in
    let all : first_outside j.set.bits s.present ≡ None = map_none (GiveUp j.id) (first_outside j.set.bits s.present) e in
    λ p h. none_outside j.set.bits s.present p all (subst (λ (z : Instance). has z.set.bits p ≡ true) it h)

unless_none : {A : Type 0} (b : Bool) (o : Option A) → (if b then None else o) ≡ None → b ≡ false → o ≡ None
unless_none true o e h = cc
unless_none false o e h = e

pub rest_firm : (f : Fixed) (s : State) → Kept f s → IsAtRest f s → IsFirm s
unfolding next_move rule_1
rest_firm f s k rest i m d none =
    let first = or_none (rule_1 s) (rule_2 f s) rest in
    first_left f s i k m d (find (is_done Rlk1) s.instances) refl
    (unless_none (has_live Rlk2 s.instances) (option_and_then (outdated s) (find (is_done Rlk1) s.instances)) first.0 none)

-- ---- a move

-- what the moves keep, in a state that comes of another
record Issuing (X : Signature → Type 0) (f : Fixed) (s t : State) : Type 0 where
  kept : Kept f t
  beside : IsBeside s t
  owes : Owes X f t
  firm : (IsFirm t) ⊎ X Rlk1
  longer : length s.instances ≤ length t.instances
  stems : Stems X s t.instances

live_pushed : (σ : Signature) (is : List Instance) (i : Instance) → has_live σ is ≡ true → has_live σ (is ++ i ∷ []) ≡ true
live_pushed σ is i h =
    let l = live_one σ is h in
    live_from σ (is ++ i ∷ []) (record { item = l.item; within = Contains-append_left is (i ∷ []) l.item l.within; signature = l.signature; lives = l.lives })

abbrev pushed : State → Instance → State
pushed t i = record t { instances = t.instances ++ i ∷ [] }

condition_pushed : (f : Fixed) (t : State) (i : Instance) (σ : Signature) → i.stage ≡ Opened → condition f (pushed t i) σ ≡ true → condition f t σ ≡ true
condition_pushed f t i σ opened h = elim (decides_second σ) [
  | inr n ↦ condition_other f t σ n ∙ sym (condition_other f (pushed t i) σ n) ∙ h
  | inl e ↦
      let d = done_one Rlk1 (t.instances ++ i ∷ []) (sym (condition_second f (pushed t i) σ e) ∙ h) in
      condition_second f t σ e ∙ elim (Contains-push_cases t.instances i d.item d.within) [
        | inl old ↦ done_here Rlk1 t.instances d.item old d.done
        | inr it ↦ let c = d.done.complete in let o : d.item.stage ≡ Opened = ap (λ (z : Instance). z.stage) (sym it) ∙ opened in cc
      ]
]

push_issuing : (X : Signature → Type 0) (f : Fixed) (s t : State) (i : Instance) → Issuing X f s t
    → Kept f (pushed t i) → i.id ≡ length t.instances + 1 → i.stage ≡ Opened → i.sent.bits ≡ 0 → X i.signature → IsWithin t.present i → Issuing X f s (pushed t i)
push_issuing X f s t i g k number opened unsent may within =
    let now = t.instances in
    let there : IsWithin s.present i = λ p h. subst (λ (z : ℕ). has z p ≡ true) g.beside.present (within p h) in
    record {
      kept = k;
      beside = record { present = g.beside.present; given = g.beside.given; circuits = g.beside.circuits };
      owes = λ σ needed none stands. g.owes σ needed (not_before (has_live σ now) (has_live σ (now ++ i ∷ [])) (live_pushed σ now i) none) (condition_pushed f t i σ opened stands);
      firm = elim g.firm [
        | inr may_ ↦ inr may_
        | inl firm ↦ inl (λ j m d none. elim (Contains-push_cases now i j m) [
          | inl old ↦ firm j old d (not_before (has_live Rlk2 now) (has_live Rlk2 (now ++ i ∷ [])) (live_pushed Rlk2 now i) none)
          | inr it ↦ let c = d.complete in let o : j.stage ≡ Opened = ap (λ (z : Instance). z.stage) (sym it) ∙ opened in cc
        ])
      ];
      longer = let l = g.longer in omega (arith, length_push now i);
      stems = λ j m. elim (Contains-push_cases now i j m) [
        | inl old ↦ g.stems j old
        | inr it ↦ subst (λ (z : Instance). Origin X s z) it (came (record { id = (let l = g.longer in omega arith); opened = opened; unsent = unsent; may = may; within = there }))
      ];
    }

void_stems : (X : Signature → Type 0) (s : State) (now : List Instance) (id by : ℕ) → Stems X s now → Stems X s (after_void id by now)
unfolding after_void
void_stems X s now id by stems j m =
    let c = contains_map_from (given_up id by) now j m in
    subst (λ (z : Instance). Origin X s z) c.same (at c.source (nat_eq c.source.id id) (stems c.source c.within))
  where
    at : (a : Instance) (b : Bool) → Origin X s a → Origin X s (if b then record a { stage = Void by } else a)
    at a true o = lapsed refl
    at a false o = o

-- what is not that first round stays
void_other : (is : List Instance) (i a : Instance) (by : ℕ) → a.signature ≢ Rlk1 → IsDone Rlk1 i → Contains is i → Contains is a → (a.id ≡ i.id → a ≡ i) → Contains (after_void i.id by is) a
unfolding after_void
void_other is i a by n d m within same_ = at (nat_eq a.id i.id) refl
  where
    at : (b : Bool) → nat_eq a.id i.id ≡ b → Contains (map (given_up i.id by) is) a
    at true e = absurd (n (ap (λ (z : Instance). z.signature) (same_ (eqb-true a.id i.id e)) ∙ d.signature))
    at false e =
        let stays : given_up i.id by a ≡ a = rw e refl in
        subst (λ (z : Instance). Contains (map (given_up i.id by) is) z) stays (contains_map (given_up i.id by) is a within)

longer_void : (now : List Instance) (id by n : ℕ) → n ≤ length now → n ≤ length (after_void id by now)
unfolding after_void
longer_void now id by n l = omega (arith, length-map now (given_up id by))

void_issuing : (X : Signature → Type 0) (f : Fixed) (s t : State) (i : Instance) (by : ℕ) → Issuing X f s t
    → Kept f (record t { instances = after_void i.id by t.instances }) → Contains t.instances i → IsDone Rlk1 i → X Rlk1 → Issuing X f s (record t { instances = after_void i.id by t.instances })
void_issuing X f s t i by g k m d may =
    let now = t.instances in
    let u : State = record t { instances = after_void i.id by now } in
    record {
      kept = k;
      beside = record { present = g.beside.present; given = g.beside.given; circuits = g.beside.circuits };
      owes = λ σ needed none stands. elim (decides_first σ) [
        | inl first ↦ subst X (sym first) may
        | inr no_first ↦ elim (decides_second σ) [
          | inl its ↦ absurd (both_ways _ (none_done f t i by g.kept m d) (sym (condition_second f u σ its) ∙ stands))
          | inr no_second ↦ g.owes σ needed
              (not_before (has_live σ now) (has_live σ (after_void i.id by now)) (λ h.
              let l = live_one σ now h in
              live_from σ (after_void i.id by now) (record {
                item = l.item;
                within = void_other now i l.item by (λ e. no_first (sym l.signature ∙ e)) d m l.within (λ e. one_number now l.item i g.kept.numbered l.within m e);
                signature = l.signature;
                lives = l.lives;
              })) none)
              (condition_other f t σ no_second ∙ sym (condition_other f u σ no_second) ∙ stands)
        ]
      ];
      firm = inr may;
      longer = let l = g.longer in longer_void now i.id by (length s.instances) l;
      stems = void_stems X s now i.id by g.stems;
    }

-- an absent party
outside_parts : (set there p : ℕ) → is_outside set there p ≡ true → (has set p ≡ true) × (has there p ≡ false)
unfolding is_outside
outside_parts set there p h = let both = and_parts (has set p) (not (has there p)) h in (both.0, not-true (has there p) both.1)

chosen_parties : (f : Fixed) (s : State) (p : ℕ) → has (chosen_present f s).bits p ≡ true → has s.present p ≡ true
unfolding chosen_present
chosen_parties f s p h = chosen_are_members f.threshold (loads_of s.instances) s.present p h

move_issuing : (X : Signature → Type 0) (f : Fixed) (s t : State) (m : Move) → Issuing X f s t → Kept f (moved t m) → MoveIs f t m → Issuing X f s (moved t m)
unfolding moved instances_after fresh
move_issuing X f s t m g k (gives_up i by none n d lost e) = rw e (void_issuing X f s t i by g (rw e at k) n d (elim g.firm [
  | inr may ↦ may
  | inl firm ↦ let out = outside_parts i.set.bits t.present by lost in absurd (both_ways (has t.present by) out.1 (firm i n d none by out.0))
]))
move_issuing X f s t m g k (second i none n d all needed e) =
    rw e (push_issuing X f s t (fresh t.instances Rlk2 i.set i.id 0) g (rw e at k) refl refl refl
    (g.owes Rlk2 needed none (condition_second f t Rlk2 refl ∙ done_here Rlk1 t.instances i n d)) (λ p h. none_outside i.set.bits t.present p all h))
move_issuing X f s t m g k (other σ no_second none many needed e) =
    rw e (push_issuing X f s t (fresh t.instances σ (chosen_present f t) 0 0) g (rw e at k) refl refl refl
    (g.owes σ needed none (condition_other f t σ no_second ∙ le-leb f.threshold (count t.present) many)) (λ p h. chosen_parties f t p h))

-- where only some signatures may be issued, and no first round is given up or it may be issued anew, only those are issued
pub issue_stems : (X : Signature → Type 0) (f : Fixed) (s : State) → Kept f s → Owes X f s → (IsFirm s) ⊎ X Rlk1 → Stems X s (issue f s).instances
issue_stems X f s k owes firm =
    (issue_keeps f (Issuing X f s) (λ t m g e. let it = move_is f t m e in move_issuing X f s t m g (move_kept f t m g.kept it) it) s
    (record { kept = k; beside = record { present = refl; given = refl; circuits = refl }; owes = owes; firm = firm; longer = omega arith; stems = λ i m. stayed m })).stems

-- issuing completes nothing
pub issue_done : (f : Fixed) (s : State) (σ : Signature) → Kept f s → has_done σ (issue f s).instances ≡ true → has_done σ s.instances ≡ true
issue_done f s σ k h =
    let d = done_one σ (issue f s).instances h in
    let c = d.done.complete in
    elim (issue_stems (λ τ. ⊤) f s k (λ τ a b e. tt) (inr tt) d.item d.within) [
      | stayed m ↦ done_here σ s.instances d.item m d.done
      | lapsed void ↦ absurd (both_ways (is_void d.item.stage) (complete_lives d.item c) void)
      | came it ↦ let o = it.opened in cc
    ]
