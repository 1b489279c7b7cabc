-- Where a caller stops, the call that is next would end what it has taken.
use Rattle.std.proofs.Common.{◌≡◌, ◌∙◌, sym, ap, subst, refl, ℕ, zero, suc, Bool, true, false, ◌⊎◌, inl, inr, List, [], ◌∷◌, ◌++◌, Option, Some, None}
use Rattle.std.specs.Prelude.{⊤}
use Rattle.std.specs.List.{list_any}
use Rattle.std.specs.Option.{option_map}
use Rattle.std.proofs.lemmas.Bool.{both_ways}
use Rattle.session_rules.specs.declared.call.Call.{Call}
use Rattle.session_rules.specs.declared.call.Call.TheVariants as call
use Rattle.session_rules.specs.declared.call.Entry.{Entry}
use Rattle.session_rules.specs.declared.reply.Reply.{Reply}
use Rattle.session_rules.specs.declared.line.Line.{Line}
use Rattle.session_rules.specs.declared.line.Line.TheVariants as line
use Rattle.session_rules.specs.declared.state.CircuitState.TheVariants.{Taken}
use Rattle.session_rules.specs.declared.fixed.Fixed.{Fixed}
use Rattle.session_rules.specs.States.{State, circuit, opening}
use Rattle.session_rules.specs.Steps.{step}
use Rattle.session_rules.specs.Histories.{after, state_after}
use Rattle.session_rules.specs.Tasks.{Task, begin, does, shares, delivers, gives, finishes, returns, exhausts, Held, Left, listed, briefed, job, task_call, passed, dropped, at_call, owing, share_for, delivering, evaluating, returning, exhausting, line_leaves, leaves, hand_after, next_call, left, own}
use Rattle.session_rules.specs.Grounds.{IsWhole}
use Rattle.session_rules.specs.Courses.{to_do, BreaksOff, is_settled, round_tasks, serial_tasks, Unsettled, rounds}
use Rattle.session_rules.proofs.Runs.{after_append}
use Rattle.session_rules.proofs.Contained.{any_from}
use Rattle.run_laws.specs.Alone.{Stops, in_lanes, in_rounds}
use Rattle.run_laws.specs.Taken.{TookNone, Ends, is_end, HasNoEnd, TakenIsNext, StopsLeaveNone, SerialTakenIsNext, SerialStopsLeaveNone}
use Rattle.run_laws.proofs.Dropped.{drop_none, drop_some, drop_nil, Stands, over, calls, next_at, stands_at, left_nil, Heads, left_heads, left_stands}
use Rattle.run_laws.proofs.Without.{none_behind, none_dropped, owing_none, serial_none, round_none}
use Rattle.run_laws.proofs.Replies.{AreBy, own_all, all_own, by_first, by_second, Replied, replayed_replied, replied_first, replied_second}
use Rattle.run_laws.proofs.Alone.{some_call}
use Rattle.run_laws.proofs.Serial.{Stopping}
use Rattle.run_laws.proofs.Turns.{Had, before, taken, had, returned_none}
use Rattle.run_laws.proofs.Taken.{Where, finish_first, return_first, later, ends_where, ends_none, ended, none_ends, opening_none, follows_none_taken}

-- ---- a task that ends what is taken stands first, if anywhere

abbrev IsNeat : List Task → Type 0
IsNeat [] = ⊤
IsNeat (t ∷ ts) = HasNoEnd ts

neat_from : (ts : List Task) → HasNoEnd ts → IsNeat ts
neat_from [] n = tt
neat_from (t ∷ ts) n = none_behind is_end t ts n

neat_then : (hand : Option Held) (t : Task) (ts : List Task) → HasNoEnd ts → (o : Option Call) → task_call hand t ≡ o → IsNeat (dropped hand (t ∷ ts)).tasks
neat_then hand t ts n None e = subst (λ (z : Left). IsNeat z.tasks) (sym (drop_none hand t ts e)) (neat_from (dropped (passed hand t) ts).tasks (none_dropped is_end (passed hand t) ts n))
neat_then hand t ts n (Some c) e = subst (λ (z : Left). IsNeat z.tasks) (sym (drop_some hand t ts c e)) n

neat_dropped : (hand : Option Held) (ts : List Task) → IsNeat ts → IsNeat (dropped hand ts).tasks
neat_dropped hand [] n = subst (λ (z : Left). IsNeat z.tasks) (sym (drop_nil hand)) tt
neat_dropped hand (t ∷ ts) n = neat_then hand t ts n (task_call hand t) refl

neat_at : (todo : Left) → IsNeat todo.tasks → IsNeat (at_call todo).tasks
unfolding at_call
neat_at todo n = neat_dropped todo.hand todo.tasks n

-- ---- what a reply leaves

delivering_neat : (o : Option Held) (ts : List Task) → HasNoEnd ts → IsNeat (delivering o ++ ts)
unfolding delivering
delivering_neat None ts n = neat_from ts n
delivering_neat (Some share) ts n = n

evaluating_neat : (o : Option ℕ) (ts : List Task) → HasNoEnd ts → IsNeat (evaluating o ++ ts)
unfolding evaluating
evaluating_neat None ts n = neat_from ts n
evaluating_neat (Some c) ts n = n

returning_neat : (o : Option ℕ) (ts : List Task) → HasNoEnd ts → IsNeat (returning o ++ ts)
unfolding returning
returning_neat None ts n = neat_from ts n
returning_neat (Some c) ts n = n

exhausting_neat : (o : Option ℕ) (ts : List Task) → HasNoEnd ts → IsNeat (exhausting o ++ ts)
unfolding exhausting
exhausting_neat None ts n = neat_from ts n
exhausting_neat (Some c) ts n = n

line_neat : (l : ℕ) (x : Line) (r : Reply) (ts : List Task) → HasNoEnd ts → IsNeat (line_leaves l x r ++ ts)
line_neat l (line.Join p) r ts n = neat_from ts n
line_neat l (line.Lose p) r ts n = neat_from ts n
line_neat l (line.Send p) r ts n = neat_from (owing p (listed r) ++ ts) (owing_none is_end (λ q id. refl) (λ c k. refl) p (listed r) ts n)
line_neat l (line.Hold p id) r ts n = neat_from ts n
line_neat l line.Give r ts n = neat_from ts n
line_neat l line.Work r ts n = evaluating_neat (job r) ts n
line_neat l line.Quit r ts n = returning_neat (job r) ts n

leaves_neat : (l : ℕ) (t : Task) (r : Reply) (ts : List Task) → HasNoEnd ts → IsNeat (leaves l t r ++ ts)
leaves_neat l begin r ts n = neat_from ts n
leaves_neat l (does x) r ts n = line_neat l x r ts n
leaves_neat l (shares p id) r ts n = delivering_neat (option_map (share_for l p id) (briefed r)) ts n
leaves_neat l (delivers share) r ts n = neat_from ts n
leaves_neat l (gives c k) r ts n = neat_from ts n
leaves_neat l (finishes c) r ts n = neat_from ts n
leaves_neat l (returns c) r ts n = neat_from ts n
leaves_neat l exhausts r ts n = exhausting_neat (job r) ts n

-- ---- all calls

neat_more : (l : ℕ) (todo rest : Left) (e : Entry) (es : List Entry) → IsNeat todo.tasks → Heads l todo e es rest
    → ((next : Left) → IsNeat next.tasks → left l next es ≡ Some rest → IsNeat rest.tasks) → IsNeat rest.tasks
neat_more l todo rest e es n h more =
    let none : HasNoEnd h.tasks = subst (λ (z : Left). IsNeat z.tasks) h.at (neat_at todo n) in
    more (record { hand = hand_after l h.task e.reply h.hand; tasks = leaves l h.task e.reply ++ h.tasks }) (leaves_neat l h.task e.reply h.tasks none) h.goes

left_neat : (l : ℕ) (todo rest : Left) (es : List Entry) → IsNeat todo.tasks → left l todo es ≡ Some rest → IsNeat rest.tasks
left_neat l todo rest [] n h =
    let is : at_call todo ≡ rest = let its : Some (at_call todo) ≡ Some rest = sym (left_nil l todo) ∙ h in cc in
    subst (λ (z : Left). IsNeat z.tasks) is (neat_at todo n)
left_neat l todo rest (e ∷ es) n h = neat_more l todo rest e es n (left_heads l todo e es rest h) (λ next m g. left_neat l next rest es m g)

has_end : (ts : List Task) (c : ℕ) → Ends ts c → HasNoEnd ts → ⊥
has_end ts c (inl m) n = both_ways (list_any is_end ts) n (any_from is_end ts (finishes c) m refl)
has_end ts c (inr m) n = both_ways (list_any is_end ts) n (any_from is_end ts (returns c) m refl)

-- ---- what is next

next_where : (rest : Left) (hand : Option Held) (t : Task) (ts : List Task) (c : ℕ) → at_call rest ≡ record { hand = hand; tasks = t ∷ ts } → HasNoEnd ts → Where t ts c
    → (next_call rest ≡ Some (call.Finish c)) ⊎ (next_call rest ≡ Some (call.GiveBack c))
next_where rest hand t ts c e n (finish_first same) = inl (next_at rest hand t ts e ∙ ap (task_call hand) same)
next_where rest hand t ts c e n (return_first same) = inr (next_at rest hand t ts e ∙ ap (task_call hand) same)
next_where rest hand t ts c e n (later m) = absurd (has_end ts c m n)

next_ends : (rest : Left) (c : ℕ) → Stands rest → IsNeat rest.tasks → Ends rest.tasks c → (next_call rest ≡ Some (call.Finish c)) ⊎ (next_call rest ≡ Some (call.GiveBack c))
next_ends rest c (over hand is) n m = absurd (ends_none c (subst (λ (z : Left). Ends z.tasks c) is m))
next_ends rest c (calls hand t ts x its is) n m =
    next_where rest hand t ts c (stands_at rest (calls hand t ts x its is) ∙ is) (subst (λ (z : Left). IsNeat z.tasks) is n) (ends_where t ts c (subst (λ (z : Left). Ends z.tasks c) is m))

next_is : (f : Fixed) (who c : ℕ) (s : State) (todo rest : Left) (es : List Entry) → TookNone who s → HasNoEnd todo.tasks → Replied f s es → left f.rows todo (own who es) ≡ Some rest
    → circuit (after f s es).circuits c ≡ Taken who → (next_call rest ≡ Some (call.Finish c)) ⊎ (next_call rest ≡ Some (call.GiveBack c))
next_is f who c s todo rest es none no_end replied h was =
    next_ends rest c (left_stands f.rows todo (own who es) rest h) (left_neat f.rows todo rest (own who es) (neat_from todo.tasks no_end) h)
    (ended f who s todo rest es (none_ends who s todo.tasks none) replied h c was)

pub taken_is_next : TakenIsNext
taken_is_next f who c s todo rest es none no_end legal h was = next_is f who c s todo rest es none no_end (replayed_replied f s es legal) h was

other_circuit : (c d : ℕ) (next : Option Call) → next ≡ Some (call.Finish c) → (next ≡ Some (call.Finish d)) ⊎ (next ≡ Some (call.GiveBack d)) → c ≡ d
other_circuit c d next e (inl same) = let both : Some (call.Finish c) ≡ Some (call.Finish d) = sym e ∙ same in cc
other_circuit c d next e (inr same) = let both : Some (call.Finish c) ≡ Some (call.GiveBack d) = sym e ∙ same in cc

gave_back : (f : Fixed) (s : State) (who c d : ℕ) → (circuit s.circuits d ≡ Taken who → c ≡ d) → circuit (step f s who (call.GiveBack c)).1.circuits d ≡ Taken who → Had f s who (call.GiveBack c) who d → ⊥
gave_back f s who c d one h (before was) = returned_none f s who c (subst (λ (z : ℕ). circuit (step f s who (call.GiveBack c)).1.circuits z ≡ Taken who) (sym (one was)) h)
gave_back f s who c d one h (taken mine it j) = cc

pub stops_leave_none : StopsLeaveNone
stops_leave_none f who c s todo rest es none no_end legal h next d now =
    let t = after f s es in
    gave_back f t who c d (λ was. other_circuit c d (next_call rest) next (taken_is_next f who d s todo rest es none no_end legal h was)) now (had f t who (call.GiveBack c) who d now)

-- ---- the serial course

-- a call that is next, as the one that ends what is taken
next_either : (o : Option Call) (next : Call) (c : ℕ) → o ≡ Some next → (o ≡ Some (call.Finish c)) ⊎ (o ≡ Some (call.GiveBack c)) → (next ≡ call.Finish c) ⊎ (next ≡ call.GiveBack c)
next_either o next c e (inl same) = inl (some_call next (call.Finish c) (sym e ∙ same))
next_either o next c e (inr same) = inr (some_call next (call.GiveBack c) (sym e ∙ same))

breaks_next : (f : Fixed) (who c : ℕ) (s : State) (ts : List Task) (es : List Entry) (next : Call) → TookNone who s → HasNoEnd ts → AreBy who es → Replied f s es → BreaksOff f.rows ts es next
    → circuit (after f s es).circuits c ≡ Taken who → (next ≡ call.Finish c) ⊎ (next ≡ call.GiveBack c)
breaks_next f who c s ts es next none no_end by replied b was =
    next_either (next_call b.rest) next c b.more
    (next_is f who c s (to_do ts) b.rest es none no_end replied (ap (left f.rows (to_do ts)) (own_all who es by) ∙ b.begins) was)

stopping_next : (n : ℕ) (f : Fixed) (who c : ℕ) (s : State) (es : List Entry) (next : Call) → TookNone who s → AreBy who es → Replied f s es
    → ((t : State) (more : List Entry) → TookNone who t → AreBy who more → Replied f t more → Unsettled n f who t more next → circuit (after f t more).circuits c ≡ Taken who
    → (next ≡ call.Finish c) ⊎ (next ≡ call.GiveBack c))
    → (b : Bool) → Stopping n f who s b es next → circuit (after f s es).circuits c ≡ Taken who → (next ≡ call.Finish c) ⊎ (next ≡ call.GiveBack c)
stopping_next n f who c s es next none by replied more true h was = absurd h
stopping_next n f who c s es next none by replied more false (inl b) was = breaks_next f who c s (round_tasks s) es next none (round_none is_end (λ l. refl) refl s) by replied b was
stopping_next n f who c s es next none by replied more false (inr h) was =
    let here = h.0 in
    let rest = h.1 in
    let by_ : AreBy who (here ++ rest) = subst (AreBy who) h.2 by in
    let replied_ : Replied f s (here ++ rest) = subst (Replied f s) h.2 replied in
    let first = follows_none_taken f who s (round_tasks s) here none (by_first who here rest by_) (replied_first f s here rest replied_) h.3 in
    let state_ : after f s es ≡ after f (after f s here) rest = ap (after f s) h.2 ∙ after_append f s here rest in
    more (after f s here) rest first (by_second who here rest by_) (replied_second f s here rest replied_) h.4 (subst (λ (z : State). circuit z.circuits c ≡ Taken who) state_ was)

unsettled_next : (n : ℕ) (f : Fixed) (who c : ℕ) (s : State) (es : List Entry) (next : Call) → TookNone who s → AreBy who es → Replied f s es → Unsettled n f who s es next
    → circuit (after f s es).circuits c ≡ Taken who → (next ≡ call.Finish c) ⊎ (next ≡ call.GiveBack c)
unsettled_next zero f who c s es next none by replied h was = absurd h
unsettled_next (suc n) f who c s es next none by replied h was =
    stopping_next n f who c s es next none by replied (λ t more o b r u now. unsettled_next n f who c t more next o b r u now) (is_settled s) h was

serial_next : (f : Fixed) (present : List ℕ) (lanes : List (List Line)) (es : List Entry) (next : Call) (c : ℕ) → IsWhole f → AreBy 0 es → Replied f (opening f) es → Stops f present lanes es next
    → circuit (state_after f es).circuits c ≡ Taken 0 → (next ≡ call.Finish c) ⊎ (next ≡ call.GiveBack c)
serial_next f present lanes es next c w by replied (in_lanes b) was =
    breaks_next f 0 c (opening f) (serial_tasks present lanes) es next (opening_none f 0 w) (serial_none is_end (λ l. refl) refl present lanes) by replied b was
serial_next f present lanes es next c w by replied (in_rounds acts settling parts follows unsettled) was =
    let by_ : AreBy 0 (acts ++ settling) = subst (AreBy 0) parts by in
    let replied_ : Replied f (opening f) (acts ++ settling) = subst (Replied f (opening f)) parts replied in
    let first = follows_none_taken f 0 (opening f) (serial_tasks present lanes) acts (opening_none f 0 w) (by_first 0 acts settling by_) (replied_first f (opening f) acts settling replied_) follows in
    let state_ : state_after f es ≡ after f (state_after f acts) settling = ap (state_after f) parts ∙ after_append f (opening f) acts settling in
    unsettled_next rounds f 0 c (state_after f acts) settling next first (by_second 0 acts settling by_) (replied_second f (opening f) acts settling replied_) unsettled
    (subst (λ (z : State). circuit z.circuits c ≡ Taken 0) state_ was)

pub serial_taken_is_next : SerialTakenIsNext
serial_taken_is_next f present lanes es next c w legal alone stops was = serial_next f present lanes es next c w (all_own 0 es alone) (replayed_replied f (opening f) es legal) stops was

same_finish : (c d : ℕ) → (call.Finish c ≡ call.Finish d) ⊎ (call.Finish c ≡ call.GiveBack d) → c ≡ d
same_finish c d (inl e) = cc
same_finish c d (inr e) = cc

pub serial_stops_leave_none : SerialStopsLeaveNone
serial_stops_leave_none f present lanes es c w legal alone stops d now =
    let t = state_after f es in
    gave_back f t 0 c d (λ was. same_finish c d (serial_taken_is_next f present lanes es (call.Finish c) d w legal alone stops was)) now (had f t 0 (call.GiveBack c) 0 d now)
