-- What a caller has taken is still to be ended by it, whoever else calls.
use Rattle.std.proofs.Common.{◌≡◌, ◌≢◌, ◌∙◌, sym, ap, subst, refl, ℕ, zero, suc, Bool, true, false, nat_eq, ◌⊎◌, inl, inr, List, [], ◌∷◌, ◌++◌, map, Contains, Option, Some, None, length, arith}
use Rattle.std.specs.Option.{option_map}
use Rattle.std.proofs.lemmas.Bool.{both_ways, cases_eq, cases_lt, eq-eqb, eqb-true}
use Rattle.std.proofs.lemmas.List.{get_or_past, get_or-map, length-map}
use Rattle.std.proofs.lemmas.List.Elements.{Contains-append_left, Contains-append_right}
use Rattle.session_rules.specs.declared.call.Call.{Call}
use Rattle.session_rules.specs.declared.call.Call.TheVariants as call
use Rattle.session_rules.specs.declared.call.Entry.{Entry}
use Rattle.session_rules.specs.declared.reply.Reply.{Reply}
use Rattle.session_rules.specs.declared.line.Line.{Line}
use Rattle.session_rules.specs.declared.line.Line.TheVariants as line
use Rattle.session_rules.specs.declared.state.CircuitState.TheVariants.{Taken, Answered}
use Rattle.session_rules.specs.declared.fixed.Fixed.{Fixed}
use Rattle.session_rules.specs.States.{State, circuit, no_plan, plan, opening_of, opening}
use Rattle.session_rules.specs.Steps.{step}
use Rattle.session_rules.specs.Histories.{after, state_after}
use Rattle.session_rules.specs.Facts.{NoneBy, is_begun}
use Rattle.session_rules.specs.Grounds.{IsWhole}
use Rattle.session_rules.specs.Tasks.{Task, begin, does, shares, delivers, gives, finishes, returns, exhausts, Held, Left, job, delivery, task_call, passed, dropped, at_call, evaluating, returning, exhausting, line_leaves, leaves, hand_after, left, own}
use Rattle.session_rules.specs.Courses.{to_do, Follows, is_settled, round_tasks, serial_tasks, Settles, rounds}
use Rattle.session_rules.proofs.Runs.{after_append}
use Rattle.session_rules.proofs.Contained.{contains_nil, contains_cases, contains_here}
use Rattle.run_laws.specs.Taken.{Ends, TookNone, EndsTaken, TakenIsEnded, NoneIsTaken, NothingStaysTaken, UntakenStays, OthersTookNone, SerialTookNone}
use Rattle.run_laws.proofs.Dropped.{drop_none, drop_some, left_nil, Heads, left_heads}
use Rattle.run_laws.proofs.Replies.{AreBy, own_all, own_yes, own_no, all_own, by_first, by_second, Replied, replayed_replied, replied_first, replied_second}
use Rattle.run_laws.proofs.Alone.{some_call, its_call}
use Rattle.run_laws.proofs.Serial.{Rounds}
use Rattle.run_laws.proofs.Turns.{Had, before, taken, had, finished_none, returned_none}

-- ---- in lists of tasks

ends_right : (more ts : List Task) (c : ℕ) → Ends ts c → Ends (more ++ ts) c
ends_right more ts c (inl m) = inl (Contains-append_right more ts (finishes c) m)
ends_right more ts c (inr m) = inr (Contains-append_right more ts (returns c) m)

ends_left : (more ts : List Task) (c : ℕ) → Ends more c → Ends (more ++ ts) c
ends_left more ts c (inl m) = inl (Contains-append_left more ts (finishes c) m)
ends_left more ts c (inr m) = inr (Contains-append_left more ts (returns c) m)

pub ends_none : (c : ℕ) → Ends [] c → ⊥
ends_none c (inl m) = contains_nil (finishes c) m
ends_none c (inr m) = contains_nil (returns c) m

-- the first task does, or one behind it
pub data Where (t : Task) (ts : List Task) (c : ℕ) : Type 0 where
  finish_first : t ≡ finishes c → Where t ts c
  return_first : t ≡ returns c → Where t ts c
  later : Ends ts c → Where t ts c

pub ends_where : (t : Task) (ts : List Task) (c : ℕ) → Ends (t ∷ ts) c → Where t ts c
ends_where t ts c (inl m) = elim (contains_cases t ts (finishes c) m) [
  | inl same ↦ finish_first same
  | inr more ↦ later (inl more)
]
ends_where t ts c (inr m) = elim (contains_cases t ts (returns c) m) [
  | inl same ↦ return_first same
  | inr more ↦ later (inr more)
]

-- such a task calls: it isn't dropped
dropped_then : (hand : Option Held) (t : Task) (ts : List Task) (c : ℕ) → Ends (t ∷ ts) c → Where t ts c → (Ends ts c → Ends (dropped (passed hand t) ts).tasks c)
    → (o : Option Call) → task_call hand t ≡ o → Ends (dropped hand (t ∷ ts)).tasks c
dropped_then hand t ts c all w more (Some x) e = subst (λ (z : Left). Ends z.tasks c) (sym (drop_some hand t ts x e)) all
dropped_then hand t ts c all (later m) more None e = subst (λ (z : Left). Ends z.tasks c) (sym (drop_none hand t ts e)) (more m)
dropped_then hand t ts c all (finish_first same) more None e = let none : task_call hand (finishes c) ≡ None = subst (λ (z : Task). task_call hand z ≡ None) same e in cc
dropped_then hand t ts c all (return_first same) more None e = let none : task_call hand (returns c) ≡ None = subst (λ (z : Task). task_call hand z ≡ None) same e in cc

ends_dropped : (hand : Option Held) (ts : List Task) (c : ℕ) → Ends ts c → Ends (dropped hand ts).tasks c
ends_dropped hand [] c m = absurd (ends_none c m)
ends_dropped hand (t ∷ ts) c m = dropped_then hand t ts c m (ends_where t ts c m) (ends_dropped (passed hand t) ts c) (task_call hand t) refl

ends_at : (todo : Left) (c : ℕ) → Ends todo.tasks c → Ends (at_call todo).tasks c
unfolding at_call
ends_at todo c m = ends_dropped todo.hand todo.tasks c m

-- ---- one call

-- a job that is taken is to be ended
ends_evaluating : (o : Option ℕ) (c : ℕ) → o ≡ Some c → Ends (evaluating o) c
unfolding evaluating
ends_evaluating None c e = cc
ends_evaluating (Some d) c e = let same : d ≡ c = cc in inl (subst (λ (z : ℕ). Contains (finishes d ∷ []) (finishes z)) same (contains_here (finishes d) []))

ends_returning : (o : Option ℕ) (c : ℕ) → o ≡ Some c → Ends (returning o) c
unfolding returning
ends_returning None c e = cc
ends_returning (Some d) c e = let same : d ≡ c = cc in inr (subst (λ (z : ℕ). Contains (returns d ∷ []) (returns z)) same (contains_here (returns d) []))

ends_exhausting : (o : Option ℕ) (c : ℕ) → o ≡ Some c → Ends (exhausting o) c
unfolding exhausting
ends_exhausting None c e = cc
ends_exhausting (Some d) c e =
    let same : d ≡ c = cc in inl (subst (λ (z : ℕ). Contains (finishes d ∷ exhausts ∷ []) (finishes z)) same (contains_here (finishes d) (exhausts ∷ [])))

hand_calls : (hand : Option Held) → option_map delivery hand ≡ Some call.Take → ⊥
hand_calls None e = cc
hand_calls (Some share) e = cc

line_takes : (l : ℕ) (hand : Option Held) (x : Line) (r : Reply) (c : ℕ) → task_call hand (does x) ≡ Some call.Take → job r ≡ Some c → Ends (line_leaves l x r) c
line_takes l hand (line.Join p) r c e j = cc
line_takes l hand (line.Lose p) r c e j = cc
line_takes l hand (line.Send p) r c e j = cc
line_takes l hand (line.Hold p id) r c e j = cc
line_takes l hand line.Give r c e j = absurd (hand_calls hand e)
line_takes l hand line.Work r c e j = ends_evaluating (job r) c j
line_takes l hand line.Quit r c e j = ends_returning (job r) c j

takes_leave : (l : ℕ) (hand : Option Held) (t : Task) (r : Reply) (c : ℕ) → task_call hand t ≡ Some call.Take → job r ≡ Some c → Ends (leaves l t r) c
takes_leave l hand begin r c e j = cc
takes_leave l hand (does x) r c e j = line_takes l hand x r c e j
takes_leave l hand (shares p id) r c e j = cc
takes_leave l hand (delivers share) r c e j = cc
takes_leave l hand (gives d k) r c e j = cc
takes_leave l hand (finishes d) r c e j = cc
takes_leave l hand (returns d) r c e j = cc
takes_leave l hand exhausts r c e j = ends_exhausting (job r) c j

still_ends : (f : Fixed) (who : ℕ) (s : State) (hand : Option Held) (t : Task) (ts : List Task) (c : Call) (d : ℕ) → task_call hand t ≡ Some c → circuit (step f s who c).1.circuits d ≡ Taken who → Where t ts d → Ends ts d
still_ends f who s hand t ts c d e h (later m) = m
still_ends f who s hand t ts c d e h (finish_first same) =
    let it : call.Finish d ≡ c = some_call (call.Finish d) c (subst (λ (z : Task). task_call hand z ≡ Some c) same e) in
    absurd (finished_none f s who d (subst (λ (z : Call). circuit (step f s who z).1.circuits d ≡ Taken who) (sym it) h))
still_ends f who s hand t ts c d e h (return_first same) =
    let it : call.GiveBack d ≡ c = some_call (call.GiveBack d) c (subst (λ (z : Task). task_call hand z ≡ Some c) same e) in
    absurd (returned_none f s who d (subst (λ (z : Call). circuit (step f s who z).1.circuits d ≡ Taken who) (sym it) h))

own_then : (f : Fixed) (who : ℕ) (s : State) (hand : Option Held) (t : Task) (ts : List Task) (c : Call) (d : ℕ) → task_call hand t ≡ Some c → EndsTaken who s (t ∷ ts)
    → circuit (step f s who c).1.circuits d ≡ Taken who → Had f s who c who d → Ends (leaves f.rows t (step f s who c).0 ++ ts) d
own_then f who s hand t ts c d e owed h (before was) =
    ends_right (leaves f.rows t (step f s who c).0) ts d (still_ends f who s hand t ts c d e h (ends_where t ts d (owed d was)))
own_then f who s hand t ts c d e owed h (taken mine it j) =
    ends_left (leaves f.rows t (step f s who c).0) ts d (takes_leave f.rows hand t (step f s who c).0 d (e ∙ ap (λ (z : Call). Some z) it) j)

own_call : (f : Fixed) (who : ℕ) (s : State) (hand : Option Held) (t : Task) (ts : List Task) (c : Call) → task_call hand t ≡ Some c → EndsTaken who s (t ∷ ts)
    → EndsTaken who (step f s who c).1 (leaves f.rows t (step f s who c).0 ++ ts)
own_call f who s hand t ts c e owed d h = own_then f who s hand t ts c d e owed h (had f s who c who d h)

other_then : (f : Fixed) (who caller : ℕ) (s : State) (c : Call) (d : ℕ) → caller ≢ who → Had f s caller c who d → circuit s.circuits d ≡ Taken who
other_then f who caller s c d n (before was) = was
other_then f who caller s c d n (taken mine it j) = absurd (n mine)

-- who doesn't call takes nothing
pub other_call : (f : Fixed) (who caller : ℕ) (s : State) (c : Call) (d : ℕ) → caller ≢ who → circuit (step f s caller c).1.circuits d ≡ Taken who → circuit s.circuits d ≡ Taken who
other_call f who caller s c d n h = other_then f who caller s c d n (had f s caller c who d h)

-- ---- all calls

ended_own : (f : Fixed) (who : ℕ) (s : State) (todo rest : Left) (e : Entry) (es : List Entry) → e.caller ≡ who → EndsTaken who s todo.tasks → e.reply ≡ (step f s e.caller e.call).0
    → Heads f.rows todo e (own who es) rest
    → ((next : Left) → EndsTaken who (step f s e.caller e.call).1 next.tasks → left f.rows next (own who es) ≡ Some rest → EndsTaken who (after f (step f s e.caller e.call).1 es) rest.tasks)
    → EndsTaken who (after f (step f s e.caller e.call).1 es) rest.tasks
ended_own f who s todo rest e es mine owed said h more =
    let next : Left = record { hand = hand_after f.rows h.task e.reply h.hand; tasks = leaves f.rows h.task e.reply ++ h.tasks } in
    let now : EndsTaken who s (h.task ∷ h.tasks) = λ c was. subst (λ (z : Left). Ends z.tasks c) h.at (ends_at todo c (owed c was)) in
    let its = its_call (task_call h.hand h.task) e h.calls in
    let there : EndsTaken who (step f s who e.call).1 (leaves f.rows h.task (step f s who e.call).0 ++ h.tasks) = own_call f who s h.hand h.task h.tasks e.call its now in
    let here : EndsTaken who (step f s e.caller e.call).1 (leaves f.rows h.task (step f s e.caller e.call).0 ++ h.tasks) =
    subst (λ (z : ℕ). EndsTaken who (step f s z e.call).1 (leaves f.rows h.task (step f s z e.call).0 ++ h.tasks)) (sym mine) there in
    more next (subst (λ (z : Reply). EndsTaken who (step f s e.caller e.call).1 (leaves f.rows h.task z ++ h.tasks)) (sym said) here) h.goes

ended_other : (f : Fixed) (who : ℕ) (s : State) (todo : Left) (e : Entry) → e.caller ≢ who → EndsTaken who s todo.tasks → EndsTaken who (step f s e.caller e.call).1 todo.tasks
ended_other f who s todo e n owed c h = owed c (other_call f who e.caller s e.call c n h)

ended_then : (f : Fixed) (who : ℕ) (s : State) (todo rest : Left) (e : Entry) (es : List Entry) → EndsTaken who s todo.tasks → e.reply ≡ (step f s e.caller e.call).0
    → ((next : Left) → EndsTaken who (step f s e.caller e.call).1 next.tasks → left f.rows next (own who es) ≡ Some rest → EndsTaken who (after f (step f s e.caller e.call).1 es) rest.tasks)
    → (b : Bool) → nat_eq e.caller who ≡ b → left f.rows todo (own who (e ∷ es)) ≡ Some rest → EndsTaken who (after f (step f s e.caller e.call).1 es) rest.tasks
ended_then f who s todo rest e es owed said more true yes_ h =
    let mine : e.caller ≡ who = eqb-true e.caller who yes_ in
    let follows : left f.rows todo (e ∷ own who es) ≡ Some rest = subst (λ (z : List Entry). left f.rows todo z ≡ Some rest) (own_yes who e es mine) h in
    ended_own f who s todo rest e es mine owed said (left_heads f.rows todo e (own who es) rest follows) more
ended_then f who s todo rest e es owed said more false no_ h =
    more todo (ended_other f who s todo e (ne_eqb_from e.caller who no_) owed) (subst (λ (z : List Entry). left f.rows todo z ≡ Some rest) (own_no who e es no_) h)
  where
    ne_eqb_from : (a b : ℕ) → nat_eq a b ≡ false → a ≢ b
    ne_eqb_from a b e same = both_ways (nat_eq a b) e (eq-eqb a b same)

pub ended : (f : Fixed) (who : ℕ) (s : State) (todo rest : Left) (es : List Entry) → EndsTaken who s todo.tasks → Replied f s es → left f.rows todo (own who es) ≡ Some rest
    → EndsTaken who (after f s es) rest.tasks
unfolding after
ended f who s todo rest [] owed replied h =
    let is : at_call todo ≡ rest = let its : Some (at_call todo) ≡ Some rest = sym (left_nil f.rows todo) ∙ h in cc in
    λ c was. subst (λ (z : Left). Ends z.tasks c) is (ends_at todo c (owed c was))
ended f who s todo rest (e ∷ es) owed replied h =
    ended_then f who s todo rest e es owed replied.0 (λ next o g. ended f who (step f s e.caller e.call).1 next rest es o replied.1 g) (nat_eq e.caller who) refl h

pub taken_is_ended : TakenIsEnded
taken_is_ended f who s todo rest es owed legal h = ended f who s todo rest es owed (replayed_replied f s es legal) h

-- ---- from the beginning on

pub opening_none : NoneIsTaken
unfolding opening
opening_none f who w c h = elim (cases_lt c (length f.plans)) [
  | inl less ↦
      let its : circuit (map opening_of f.plans) c ≡ (plan f c).opening = get_or-map opening_of f.plans c no_plan Answered less in
      let now : (plan f c).opening ≡ Taken who = sym its ∙ h in
      let begun : is_begun (plan f c).opening ≡ true = ap is_begun now in
      both_ways (is_begun (plan f c).opening) (w.begins c less) begun
  | inr more ↦
      let past : circuit (map opening_of f.plans) c ≡ Answered = get_or_past (map opening_of f.plans) c Answered (omega (arith, length-map f.plans opening_of)) in
      let both : Answered ≡ Taken who = sym past ∙ h in cc
]

pub none_ends : (who : ℕ) (s : State) (ts : List Task) → TookNone who s → EndsTaken who s ts
none_ends who s ts none c h = absurd (none c h)

ends_took_none : (who : ℕ) (s : State) → EndsTaken who s [] → TookNone who s
ends_took_none who s owed c h = ends_none c (owed c h)

pub nothing_stays_taken : NothingStaysTaken
nothing_stays_taken f who todo rest es w legal h =
    ended f who (opening f) todo rest es (none_ends who (opening f) todo.tasks (opening_none f who w)) (replayed_replied f (opening f) es legal) h

-- ---- without calls

pub untaken_stays : UntakenStays
unfolding after
untaken_stays f s [] who c none h = h
untaken_stays f s (e ∷ es) who c none h =
    untaken_stays f (step f s e.caller e.call).1 es who c none.1 (λ now. h (other_call f who e.caller s e.call c (λ same. none.0 (sym same)) now))

pub others_took_none : OthersTookNone
others_took_none f es who w none c = untaken_stays f (opening f) es who c none (opening_none f who w c)

-- ---- to the end of some tasks, and of settling

-- entries that follow tasks to the end, by one caller
pub follows_none_taken : (f : Fixed) (who : ℕ) (s : State) (ts : List Task) (es : List Entry) → TookNone who s → AreBy who es → Replied f s es → Follows f.rows ts es → TookNone who (after f s es)
follows_none_taken f who s ts es none by replied follows =
    let h : left f.rows (to_do ts) (own who es) ≡ Some (record { hand = follows.hand; tasks = [] }) = ap (left f.rows (to_do ts)) (own_all who es by) ∙ follows.follows in
    ends_took_none who (after f s es) (ended f who s (to_do ts) (record { hand = follows.hand; tasks = [] }) es (none_ends who s ts none) replied h)

after_none : (f : Fixed) (s : State) (who : ℕ) → TookNone who s → TookNone who (after f s [])
unfolding after
after_none f s who none = none

settles_then : (n : ℕ) (f : Fixed) (who : ℕ) (s : State) (es : List Entry) → TookNone who s → AreBy who es → Replied f s es
    → ((t : State) (more : List Entry) → TookNone who t → AreBy who more → Replied f t more → Settles n f who t more → TookNone who (after f t more))
    → (b : Bool) → Rounds n f who s b es → TookNone who (after f s es)
settles_then n f who s es none by replied more true h = subst (λ (z : List Entry). TookNone who (after f s z)) (sym h) (after_none f s who none)
settles_then n f who s es none by replied more false h =
    let here = h.0 in
    let rest = h.1 in
    let by_ : AreBy who (here ++ rest) = subst (AreBy who) h.2 by in
    let replied_ : Replied f s (here ++ rest) = subst (Replied f s) h.2 replied in
    let first = follows_none_taken f who s (round_tasks s) here none (by_first who here rest by_) (replied_first f s here rest replied_) h.3 in
    let second = more (after f s here) rest first (by_second who here rest by_) (replied_second f s here rest replied_) h.4 in
    subst (λ (z : List Entry). TookNone who (after f s z)) (sym h.2) (subst (λ (z : State). TookNone who z) (sym (after_append f s here rest)) second)

pub settles_none_taken : (n : ℕ) (f : Fixed) (who : ℕ) (s : State) (es : List Entry) → TookNone who s → AreBy who es → Replied f s es → Settles n f who s es → TookNone who (after f s es)
settles_none_taken zero f who s es none by replied h = subst (λ (z : List Entry). TookNone who (after f s z)) (sym h) (after_none f s who none)
settles_none_taken (suc n) f who s es none by replied h = settles_then n f who s es none by replied (settles_none_taken n f who) (is_settled s) h

-- ---- the serial course

not_by : (who : ℕ) (es : List Entry) → who ≢ 0 → AreBy 0 es → NoneBy who es
not_by who [] n by = tt
not_by who (e ∷ es) n by = (λ same. n (same ∙ by.0), not_by who es n by.1)

serial_none : (f : Fixed) (es acts settling : List Entry) (ts : List Task) (who : ℕ) → IsWhole f → AreBy 0 (acts ++ settling) → Replied f (opening f) (acts ++ settling) → Follows f.rows ts acts
    → Settles rounds f 0 (state_after f acts) settling → es ≡ acts ++ settling → (who ≡ 0) ⊎ (who ≢ 0) → TookNone who (state_after f acts) × TookNone who (state_after f es)
serial_none f es acts settling ts who w by replied follows settles parts (inl zero_) =
    let first = follows_none_taken f 0 (opening f) ts acts (opening_none f 0 w) (by_first 0 acts settling by) (replied_first f (opening f) acts settling replied) follows in
    let second = settles_none_taken rounds f 0 (state_after f acts) settling first (by_second 0 acts settling by) (replied_second f (opening f) acts settling replied) settles in
    let all : TookNone 0 (state_after f es) =
    subst (λ (z : List Entry). TookNone 0 (state_after f z)) (sym parts) (subst (λ (z : State). TookNone 0 z) (sym (after_append f (opening f) acts settling)) second) in
    (subst (λ (z : ℕ). TookNone z (state_after f acts)) (sym zero_) first, subst (λ (z : ℕ). TookNone z (state_after f es)) (sym zero_) all)
serial_none f es acts settling ts who w by replied follows settles parts (inr other) = (
  others_took_none f acts who w (not_by who acts other (by_first 0 acts settling by)),
  others_took_none f es who w (subst (λ (z : List Entry). NoneBy who z) (sym parts) (not_by who (acts ++ settling) other by)),
)

pub serial_took_none : SerialTookNone
serial_took_none f present lanes es is who w legal =
    serial_none f es is.acts is.settling (serial_tasks present lanes) who w (subst (AreBy 0) is.parts (all_own 0 es is.alone))
    (subst (Replied f (opening f)) is.parts (replayed_replied f (opening f) es legal)) is.follows is.settles is.parts (cases_eq who 0)
