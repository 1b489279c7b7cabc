-- A desk goes on from one call to the next, and stops at one.
use Rattle.std.proofs.Common.{◌≡◌, sym, ap, subst, refl, ℕ, ◌+◌, ◌<◌, ◌≤◌, true, List, [], ◌∷◌, ◌++◌, length, map, drop, get_or, Some, None}
use Rattle.std.proofs.lemmas.List.{append-nil, drop_more, drop_all}
use Rattle.std.specs.Prelude.{◌↔◌, Result, Ok, Err, OnOk, IsErrAnd, IfErr}
use Rattle.session_rules.specs.declared.call.Call.{Call}
use Rattle.session_rules.specs.declared.call.Entry.{Entry}
use Rattle.session_rules.specs.declared.reply.Reply.{Reply}
use Rattle.session_rules.specs.Tasks.{Task, task_call, hand_after, leaves}
use Rattle.session_rules.specs.Courses.{BreaksOff}
use Rattle.run_laws.specs.Leaving.{Leaves}
use Rattle.session_core.specs.declared.stop.Stop.{Stop}
use Rattle.session_core.specs.declared.stop.Stop.TheVariants.{Spent, NoMemory}
use Rattle.lane_workers.specs.Desks.{Fixture, View, Hands, Answered, Unanswered, known_of, rules_of}
use Rattle.lane_workers.specs.Doing.{Added, Broken, is_made_first, StopsFor, Doing, BrokeOff}
use Rattle.lane_workers.proofs.Doing.{added_one, broken_at, broken_before, leaves_one, starts, does_more, stops_within, breaks_at}

-- why it stopped at a call that wasn't answered
pub stops_for : (why : Stop) (most : ℕ) (now : List Entry) (c : Call) → ((why ≡ Spent) ↔ (length now ≡ most)) → StopsFor why most now c
stops_for Spent most now c h = h.0 refl
stops_for NoMemory most now c h = λ _ full. let never = h.1 full in cc

-- and where there was no memory for what it brings
pub stops_short : (why : Stop) (most : ℕ) (now : List Entry) (c : Call) → why ≡ NoMemory → is_made_first c ≡ true → StopsFor why most now c
stops_short Spent most now c e first = cc
stops_short NoMemory most now c e first = λ other. cc

-- a call's error is the one that is returned
pub if_err : {X : Type 0} (r : Result X Stop) (why : Stop) (P : Stop → Type 0) → IsErrAnd r (λ z. z ≡ why) → P why → IfErr r P
if_err (Ok x) why P h p = absurd h
if_err (Err e) why P h p = subst P (sym h) p

-- what a call does may be told otherwise
pub on_ok : {X : Type 0} (r : Result X Stop) (P Q : Type 0) → (P → Q) → OnOk r P → OnOk r Q
on_ok (Ok x) P Q f h = f h
on_ok (Err e) P Q f h = h

pub if_err_so : {X : Type 0} (r : Result X Stop) (P Q : Stop → Type 0) → ((why : Stop) → P why → Q why) → IfErr r P → IfErr r Q
if_err_so (Ok x) P Q f h = h
if_err_so (Err e) P Q f h = f e h

pub err_spent : {X : Type 0} (why : Stop) (Full : Type 0) → (◌≡◌ {A = Result X Stop} (Err why) (Err Spent) ↔ Full) → (why ≡ Spent) ↔ Full
err_spent why Full h = (λ e. h.0 (ap Err e), λ full. let same = h.1 full in cc)

abbrev pub rows : View → ℕ
rows v = (rules_of v).rows

pub rows_are : (u v : View) → v.fixed ≡ u.fixed → rows v ≡ rows u
rows_are u v e = ap (λ (f : Fixture). (rules_of (record { fixed = f; seen = []; mine = [] })).rows) e

pub begins : (ts : List Task) (v : View) → Doing ts ts v v
begins ts v = starts (rows v) ts v

-- tasks are done, before others
pub does_on : (ts us vs rest : List Task) (u v w : View) → v.fixed ≡ u.fixed → Doing ts (us ++ rest) u v → Doing us vs v w → Doing ts (vs ++ rest) u w
does_on ts us vs rest u v w same x y =
    does_more (rows u) ts us vs rest u v w same x (subst (λ (l : ℕ). Added (Leaves l us vs) v w) (rows_are u v same) y)

-- a call is answered
pub calls : {X : Type 0} (t : Task) (c : Call) (r : Reply) (H : Hands X) (x : X) (v w : View) → task_call None t ≡ Some c → hand_after (rows v) t r None ≡ None → Answered v w c r H x → Doing (t ∷ []) (leaves (rows v) t r) v w
calls t c r H x v w e none a = added_one (Leaves (rows v) (t ∷ []) (leaves (rows v) t r)) v w c r H x a (leaves_one (rows v) v.fixed.caller t c r e none)

pub calls_on : {X : Type 0} (ts rest : List Task) (t : Task) (c : Call) (r : Reply) (H : Hands X) (x : X) (u v w : View) → v.fixed ≡ u.fixed → Doing ts (t ∷ rest) u v → task_call None t ≡ Some c
    → hand_after (rows v) t r None ≡ None → Answered v w c r H x → Doing ts (leaves (rows u) t r ++ rest) u w
calls_on ts rest t c r H x u v w same d e none a =
    subst (λ (l : ℕ). Doing ts (leaves l t r ++ rest) u w) (rows_are u v same) (does_on ts (t ∷ []) (leaves (rows v) t r) rest u v w same d (calls t c r H x v w e none a))

-- it stops within some tasks
pub stops_in : (ts us rest : List Task) (why : Stop) (u v w : View) → v.fixed ≡ u.fixed → Doing ts (us ++ rest) u v → BrokeOff us v w why → BrokeOff ts u w why
stops_in ts us rest why u v w same x y =
    stops_within (rows u) why ts us rest u v w same x (subst (λ (l : ℕ). Broken why (BreaksOff l us) v w) (rows_are u v same) y)

-- a call isn't answered
pub stops : (t : Task) (c : Call) (why : Stop) (v w : View) → task_call None t ≡ Some c → Unanswered v w why → BrokeOff (t ∷ []) v w why
stops t c why v w e a = broken_at (BreaksOff (rows v) (t ∷ [])) why v w c a (breaks_at (rows v) t c e) (stops_for why (known_of v).most w.seen c a.spent)

pub stops_on : (ts rest : List Task) (t : Task) (c : Call) (why : Stop) (u v w : View) → v.fixed ≡ u.fixed → Doing ts (t ∷ rest) u v → task_call None t ≡ Some c → Unanswered v w why → BrokeOff ts u w why
stops_on ts rest t c why u v w same x e a = stops_in ts (t ∷ []) rest why u v w same x (stops t c why v w e a)

-- what a call brings isn't made
pub lacks : (t : Task) (c : Call) (why : Stop) (v : View) → task_call None t ≡ Some c → why ≡ NoMemory → is_made_first c ≡ true → BrokeOff (t ∷ []) v v why
lacks t c why v e short first = broken_before (BreaksOff (rows v) (t ∷ [])) why v c (breaks_at (rows v) t c e) (stops_short why (known_of v).most v.seen c short first)

-- tasks are done, and none behind them
pub does_rest : (ts us : List Task) (u v w : View) → v.fixed ≡ u.fixed → Doing ts us u v → Doing us [] v w → Doing ts [] u w
does_rest ts us u v w same x y = does_on ts us [] [] u v w same (subst (λ (z : List Task). Doing ts z u v) (sym (append-nil us)) x) y

pub stops_rest : (ts us : List Task) (why : Stop) (u v w : View) → v.fixed ≡ u.fixed → Doing ts us u v → BrokeOff us v w why → BrokeOff ts u w why
stops_rest ts us why u v w same x y = stops_in ts us [] why u v w same (subst (λ (z : List Task). Doing ts z u v) (sym (append-nil us)) x) y

-- a task for each item of a list
pub one_there : {X : Type 0} (ts : List Task) (f : X → Task) (xs : List X) (k : ℕ) (d : X) (u v : View) → k < length xs
    → Doing ts (map f (drop k xs)) u v → Doing ts (f (get_or xs k d) ∷ map f (drop (k + 1) xs)) u v
one_there ts f xs k d u v less x = subst (λ z. Doing ts (map f z) u v) (drop_more xs k d less) x

pub none_there : {X : Type 0} (ts : List Task) (f : X → Task) (xs : List X) (k : ℕ) (u v : View) → length xs ≤ k
    → Doing ts (map f (drop k xs)) u v → Doing ts [] u v
none_there ts f xs k u v more x = subst (λ z. Doing ts (map f z) u v) (drop_all k xs more) x

-- what is left may be told otherwise
pub told_so : (ts us vs : List Task) (v w : View) → us ≡ vs → Doing ts us v w → Doing ts vs v w
told_so ts us vs v w e x = subst (λ (z : List Task). Doing ts z v w) e x
