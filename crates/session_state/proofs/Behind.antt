-- The instances that steps put behind others and give up, and what a store has of them.
use Rattle.std.proofs.Common.{◌≡◌, ◌∙◌, sym, ap, subst, refl, ℕ, zero, suc, ◌<◌, Bool, true, false, ◌⊎◌, inl, inr, List, [], ◌∷◌, ◌++◌, length, map, drop, get_or, fold, Contains, Option, Some, None, arith, eqb-true}
use Rattle.std.specs.Prelude.{All, replicate, nat_eq, if◌then◌else◌, ⊤}
use Rattle.std.proofs.Math.Seq.{drop-append_seam}
use Rattle.std.proofs.lemmas.List.{append_assoc, append-nil, drop_all}
use Rattle.std.proofs.lemmas.List.Elements.{All-head, All-tail, All-nil, All-cons}
use Rattle.param_set.specs.declared.params.Params.{Params}
use Rattle.param_set.specs.Moduli.{digit_rows}
use Rattle.proto_names.specs.Names.{is_void, rows_of}
use Rattle.proto_names.specs.Instances.{fresh, given_up, after_void}
use Rattle.proto_names.specs.declared.signature.Signature.{Signature}
use Rattle.proto_names.specs.declared.signature.Signature.TheVariants.{Rlk1}
use Rattle.proto_names.specs.declared.instance.Instance.{Instance}
use Rattle.proto_names.specs.declared.instance.Stage.TheVariants.{Opened, Void}
use Rattle.instance_table.specs.Tables.{no_sums}
use Rattle.session_rules.specs.declared.fixed.Fixed.{Fixed}
use Rattle.session_rules.specs.declared.moves.Move.{Move}
use Rattle.session_rules.specs.declared.moves.Move.TheVariants.{GiveUp}
use Rattle.session_rules.specs.States.{State}
use Rattle.session_rules.specs.Issues.{next_move, instances_after, moved, moves_in}
use Rattle.session_rules.specs.Facts.{IsLive, Kept}
use Rattle.session_rules.proofs.Contained.{contains_nil, contains_cases, contains_here, contains_there}
use Rattle.session_rules.proofs.Keeps.{move_next}
use Rattle.session_rules.proofs.Marks.{IsDone, one_number}
use Rattle.session_rules.proofs.MoveKinds.{MoveIs, gives_up, second, other, move_is}
use Rattle.session_spec.specs.Settings.{Setting}
use Rattle.session_spec.specs.Stores.{Store, polys_by, polys_told as polys_for, zero_sums, grown}
use Rattle.session_spec.specs.Honesty.{Matches}
use Rattle.session_state.specs.Parts.{polys_in}
use Rattle.session_state.specs.Issuings.{move_of, issued, polys_told, brief_of, sums_of, polys_due, IsFresh}
use Rattle.session_state.specs.declared.issuing.Fresh.{Fresh}
use Rattle.session_state.specs.declared.issuing.Step.{Step}
use Rattle.session_state.specs.declared.issuing.Step.TheVariants.{GivesUp, Issues}

-- ---- the instances, as steps leave them

-- what goes into what an instance is told, and into its sums
pub record Asking : Type 0 where
  pub signature : Signature
  pub round1 : ℕ

abbrev pub asking_of : Instance → Asking
asking_of i = record { signature = i.signature; round1 = i.round1 }

abbrev pub asking_told : Fresh → Asking
asking_told x = record { signature = x.signature; round1 = x.brief.value.round1 }

abbrev pub IsOpened : Instance → Type 0
IsOpened i = i.stage ≡ Opened

-- an instance, and the same one later: it is as it was, or was a complete first round and is void
abbrev pub Aged : Instance → Instance → Type 0
Aged i j = (j ≡ i) ⊎ (IsDone Rlk1 i × (is_void j.stage ≡ true))

abbrev pub AreAged : List Instance → List Instance → Type 0
AreAged [] [] = ⊤
AreAged [] (j ∷ js) = ⊥
AreAged (i ∷ is) [] = ⊥
AreAged (i ∷ is) (j ∷ js) = Aged i j × AreAged is js

pub aged_length : (is js : List Instance) → AreAged is js → length js ≡ length is
aged_length [] [] a = refl
aged_length [] (j ∷ js) a = absurd a
aged_length (i ∷ is) [] a = absurd a
aged_length (i ∷ is) (j ∷ js) a = ap suc (aged_length is js a.1)

pub aged_at : (is js : List Instance) (k : ℕ) (d : Instance) → AreAged is js → k < length is → Aged (get_or is k d) (get_or js k d)
aged_at [] js k d a l = absurd (omega arith)
aged_at (i ∷ is) [] k d a l = absurd a
aged_at (i ∷ is) (j ∷ js) zero d a l = a.0
aged_at (i ∷ is) (j ∷ js) (suc k) d a l = aged_at is js k d a.1 (omega arith)

aged_then : (i j k : Instance) → Aged i j → Aged j k → Aged i k
aged_then i j k (inl a) b = subst (λ (z : Instance). Aged z k) a b
aged_then i j k (inr a) (inl b) = inr (a.0, rw b a.1)
aged_then i j k (inr a) (inr b) = inr (a.0, b.1)

all_aged_then : (is js ks : List Instance) → AreAged is js → AreAged js ks → AreAged is ks
all_aged_then [] [] ks a b = b
all_aged_then [] (j ∷ js) ks a b = absurd a
all_aged_then (i ∷ is) [] ks a b = absurd a
all_aged_then (i ∷ is) (j ∷ js) [] a b = absurd b
all_aged_then (i ∷ is) (j ∷ js) (k ∷ ks) a b = (aged_then i j k a.0 b.0, all_aged_then is js ks a.1 b.1)

all_aged_by : (g : Instance → Instance) (is : List Instance) → ((i : Instance) → Contains is i → Aged i (g i)) → AreAged is (map g is)
all_aged_by g [] h = tt
all_aged_by g (i ∷ is) h = (h i (contains_here i is), all_aged_by g is (λ j m. h j (contains_there i is j m)))

all_aged_same : (is : List Instance) → AreAged is is
all_aged_same [] = tt
all_aged_same (i ∷ is) = (inl refl, all_aged_same is)

-- the instance that an old one is now, and the one that a new one was
pub record Now (is js : List Instance) (i : Instance) : Type 0 where
  pub now : Instance
  pub within : Contains js now
  pub aged : Aged i now

pub aged_now : (is js : List Instance) (i : Instance) → AreAged is js → Contains is i → Now is js i
aged_now [] js i a m = absurd (contains_nil i m)
aged_now (x ∷ is) [] i a m = absurd a
aged_now (x ∷ is) (y ∷ js) i a m = elim (contains_cases x is i m) [
  | inl here ↦ record { now = y; within = contains_here y js; aged = subst (λ (z : Instance). Aged z y) here a.0 }
  | inr there ↦ let n = aged_now is js i a.1 there in record { now = n.now; within = contains_there y js n.now n.within; aged = n.aged }
]

pub record Once (is js : List Instance) (j : Instance) : Type 0 where
  pub once : Instance
  pub within : Contains is once
  pub aged : Aged once j

pub aged_once : (is js : List Instance) (j : Instance) → AreAged is js → Contains js j → Once is js j
aged_once is [] j a m = absurd (contains_nil j m)
aged_once [] (y ∷ js) j a m = absurd a
aged_once (x ∷ is) (y ∷ js) j a m = elim (contains_cases y js j m) [
  | inl here ↦ record { once = x; within = contains_here x is; aged = subst (λ (z : Instance). Aged x z) here a.0 }
  | inr there ↦ let n = aged_once is js j a.1 there in record { once = n.once; within = contains_there x is n.once n.within; aged = n.aged }
]

pub live_same : (i j : Instance) → Aged i j → IsLive j → j ≡ i
live_same i j (inl a) live = a
live_same i j (inr a) live = absurd (let void = a.1 in cc)

-- the instances behind steps: the old ones, which may be given up, and the new ones, which are opened
pub record Behind (is js : List Instance) (xs : List Step) : Type 0 where
  pub old : List Instance
  pub more : List Instance
  pub all : js ≡ old ++ more
  pub aged : AreAged is old
  pub askings : map asking_of more ≡ map asking_told (issued xs)
  pub opened : All IsOpened more

record Ends (is : List Instance) (y : Instance) (old : List Instance) : Type 0 where
  front : List Instance
  all : old ≡ front ++ y ∷ []
  aged : AreAged is front

opened_same : (y z : Instance) → IsOpened y → Aged y z → z ≡ y
opened_same y z opened (inl a) = a
opened_same y z opened (inr a) = absurd (let d = a.0.complete in cc)

ends : (is : List Instance) (y : Instance) (old : List Instance) → IsOpened y → AreAged (is ++ y ∷ []) old → Ends is y old
ends [] y [] opened a = absurd a
ends [] y (z ∷ []) opened a = record { front = []; all = ap (λ (x : Instance). x ∷ []) (opened_same y z opened a.0); aged = tt }
ends [] y (z ∷ x ∷ old) opened a = absurd a.1
ends (i ∷ is) y [] opened a = absurd a
ends (i ∷ is) y (j ∷ old) opened a =
    let rest = ends is y old opened a.1 in
    record { front = j ∷ rest.front; all = ap (λ (zs : List Instance). j ∷ zs) rest.all; aged = (a.0, rest.aged) }

-- one more step at the front
gives_up_aged : (f : Fixed) (s : State) (id by : ℕ) → Kept f s → MoveIs f s (GiveUp id by) → (i : Instance) → Contains s.instances i → Aged i (given_up id by i)
gives_up_aged f s id by k (second j unused within done all needed e) i m = cc
gives_up_aged f s id by k (other σ first unused many needed e) i m = cc
gives_up_aged f s id by k (gives_up j who unused within done out e) i m = at (nat_eq i.id id) refl
  where
    at : (b : Bool) → nat_eq i.id id ≡ b → Aged i (if b then record i { stage = Void by } else i)
    at true h =
        let same : i.id ≡ id = eqb-true i.id id h in
        let its : id ≡ j.id = cc in
        inr (subst (λ (z : Instance). IsDone Rlk1 z) (sym (one_number s.instances i j k.numbered m within (same ∙ its))) done, refl)
    at false h = inl refl

behind_step : (f : Fixed) (s : State) (js : List Instance) (x : Step) (ys : List Step) → Kept f s → MoveIs f s (move_of x)
    → Behind (instances_after s.instances (move_of x)) js ys → Behind s.instances js (x ∷ ys)
unfolding instances_after after_void fresh issued
behind_step f s js (GivesUp id by) ys k m b = record {
  old = b.old;
  more = b.more;
  all = b.all;
  aged = all_aged_then s.instances (map (given_up id by) s.instances) b.old (all_aged_by (given_up id by) s.instances (gives_up_aged f s id by k m)) b.aged;
  askings = b.askings;
  opened = b.opened;
}
behind_step f s js (Issues one) ys k m b =
    let y : Instance = fresh s.instances one.signature one.brief.value.set one.brief.value.round1 0 in
    let e = ends s.instances y b.old refl b.aged in
    record {
      old = e.front;
      more = y ∷ b.more;
      all = b.all ∙ ap (λ (zs : List Instance). zs ++ b.more) e.all ∙ append_assoc e.front (y ∷ []) b.more;
      aged = e.aged;
      askings = ap (λ (zs : List Asking). asking_told one ∷ zs) b.askings;
      opened = All-cons IsOpened y b.more refl b.opened;
    }

behind_none : (is : List Instance) (xs : List Step) → map move_of xs ≡ [] → Behind is (fold instances_after is (map move_of xs)) xs
unfolding issued
behind_none is [] e = record { old = is; more = []; all = sym (append-nil is); aged = all_aged_same is; askings = refl; opened = All-nil IsOpened }
behind_none is (x ∷ xs) e = cc

behind_next : (n : ℕ) (f : Fixed) (s : State) (xs : List Step) → Kept f s
    → ((t : State) (ys : List Step) → Kept f t → map move_of ys ≡ moves_in n f t → Behind t.instances (fold instances_after t.instances (map move_of ys)) ys)
    → (o : Option Move) → next_move f s ≡ o → map move_of xs ≡ (elim o as (λ x. List Move) [
      | None ↦ []
      | Some m ↦ m ∷ moves_in n f (moved s m)
    ]) → Behind s.instances (fold instances_after s.instances (map move_of xs)) xs
unfolding moved
behind_next n f s xs k more None e moves = behind_none s.instances xs moves
behind_next n f s [] k more (Some m) e moves = cc
behind_next n f s (x ∷ ys) k more (Some m) e moves =
    let head : move_of x ≡ m = cc in
    let tail : map move_of ys ≡ moves_in n f (moved s m) = cc in
    let next : next_move f s ≡ Some (move_of x) = e ∙ ap (λ (z : Move). Some z) (sym head) in
    let rest = more (moved s (move_of x)) ys (move_next f s (move_of x) k next).0 (tail ∙ ap (λ (z : Move). moves_in n f (moved s z)) (sym head)) in
    behind_step f s (fold instances_after (instances_after s.instances (move_of x)) (map move_of ys)) x ys k (move_is f s (move_of x) next) rest

pub behind : (n : ℕ) (f : Fixed) (s : State) (xs : List Step) → Kept f s → map move_of xs ≡ moves_in n f s → Behind s.instances (fold instances_after s.instances (map move_of xs)) xs
unfolding moves_in
behind zero f s xs k e = behind_none s.instances xs e
behind (suc n) f s xs k e = behind_next n f s xs k (λ t ys kept moves. behind n f t ys kept moves) (next_move f s) refl e

-- ---- the store

-- what goes by askings alone
by_askings : {X : Type 0} (F : Asking → X) (is : List Instance) (xs : List Fresh) → map asking_of is ≡ map asking_told xs → map (λ (i : Instance). F (asking_of i)) is ≡ map (λ (x : Fresh). F (asking_told x)) xs
by_askings F [] [] e = refl
by_askings F [] (x ∷ xs) e = cc
by_askings F (i ∷ is) [] e = cc
by_askings {X} F (i ∷ is) (x ∷ xs) e =
    let head : asking_of i ≡ asking_told x = cc in
    let tail : map asking_of is ≡ map asking_told xs = cc in
    ap (λ (a : Asking). F a ∷ map (λ (j : Instance). F (asking_of j)) is) head ∙ ap (λ (zs : List X). F (asking_told x) ∷ zs) (by_askings F is xs tail)

-- the new instances are told what the steps tell
pub due_again : (h : Store) (is : List Instance) (xs : List Fresh) → map asking_of is ≡ map asking_told xs → map (polys_for h) is ≡ map (polys_due h) xs
due_again h is xs e = by_askings (λ a. polys_by h a.signature a.round1) is xs e

-- and have their sums
sums_due : (p : Params) (xs : List Fresh) → All (IsFresh p) xs → map (λ (x : Fresh). replicate (rows_of x.signature (digit_rows p.q p.digit_bits)) (replicate p.n 0)) xs ≡ map sums_of xs
unfolding no_sums
sums_due p [] h = refl
sums_due p (x ∷ xs) h =
    let here = All-head (IsFresh p) x xs h in
    ap (λ (z : List (List ℕ)). z ∷ map (λ (y : Fresh). replicate (rows_of y.signature (digit_rows p.q p.digit_bits)) (replicate p.n 0)) xs) (sym here.sums)
    ∙ ap (λ (zs : List (List (List ℕ))). sums_of x ∷ zs) (sums_due p xs (All-tail (IsFresh p) x xs h))

pub zeros_again : (p : Params) (is : List Instance) (xs : List Fresh) → map asking_of is ≡ map asking_told xs → All (IsFresh p) xs
    → map (λ (i : Instance). replicate (rows_of i.signature (digit_rows p.q p.digit_bits)) (replicate p.n 0)) is ≡ map sums_of xs
zeros_again p is xs e h = by_askings (λ a. replicate (rows_of a.signature (digit_rows p.q p.digit_bits)) (replicate p.n 0)) is xs e ∙ sums_due p xs h

pub told_again : (xs : List Fresh) → map polys_in (map brief_of xs) ≡ map polys_told xs
told_again [] = refl
told_again (x ∷ xs) = ap (λ (zs : List (List (List ℕ))). polys_told x ∷ zs) (told_again xs)

-- what stands behind a list that is as long
left : {X : Type 0} (n : ℕ) (is more : List X) → n ≡ length is → drop n (is ++ more) ≡ more
left n is more e = ap (λ (k : ℕ). drop k (is ++ more)) e ∙ drop-append_seam is more

pub grown_lists : (w : Setting) (h : Store) (old more : List Instance) → length h.told ≡ length old → length h.sums ≡ length old
    → grown w (old ++ more) h ≡ record h { told = h.told ++ map (polys_for h) more; sums = h.sums ++ map (zero_sums w) more }
unfolding grown
grown_lists w h old more told sums = rw (left (length h.told) old more told, left (length h.sums) old more sums) refl

-- nothing grows where there are no more instances
pub grown_none : (w : Setting) (s : State) (h : Store) → Matches w s h → grown w s.instances h ≡ h
unfolding grown
grown_none w s h m =
    let told = m.told in
    let sums = m.sums in
    rw (drop_all (length h.told) s.instances (omega arith), drop_all (length h.sums) s.instances (omega arith), append-nil h.told, append-nil h.sums) refl
