-- How many calls a caller makes for its tasks, whoever else calls in between.
use Rattle.std.proofs.Common.{◌≡◌, ◌∙◌, sym, ap, subst, refl, ℕ, suc, ◌+◌, ◌*◌, ◌≤◌, Bool, true, false, nat_eq, List, [], ◌∷◌, ◌++◌, length, map, Option, Some, None, arith}
use Rattle.std.specs.List.{list_any}
use Rattle.std.specs.Option.{option_map}
use Rattle.std.proofs.lemmas.Bool.{eqb-true}
use Rattle.std.proofs.lemmas.List.Sums.{sum_by-cons, sum_by-append}
use Rattle.session_rules.specs.declared.call.Call.{Call}
use Rattle.session_rules.specs.declared.call.Call.TheVariants as call
use Rattle.session_rules.specs.declared.call.Entry.{Entry}
use Rattle.session_rules.specs.declared.reply.Reply.{Reply}
use Rattle.session_rules.specs.declared.line.Line.{Line}
use Rattle.session_rules.specs.declared.line.Line.TheVariants as line
use Rattle.session_rules.specs.declared.fixed.Fixed.{Fixed}
use Rattle.session_rules.specs.States.{State}
use Rattle.session_rules.specs.Steps.{step}
use Rattle.session_rules.specs.Histories.{state_after}
use Rattle.session_rules.specs.Tasks.{Task, begin, does, shares, delivers, gives, finishes, returns, exhausts, Held, Left, Lists, listed, briefed, job, task_call, passed, dropped, at_call, gives_at, owing, share_for, delivering, evaluating, returning, line_leaves, leaves, hand_after, next_call, left, own}
use Rattle.session_rules.proofs.Grounds.{KeptWell, step_grounds, state_grounds}
use Rattle.run_laws.specs.Lengths.{signatures, inputs, most_sent, most_line, most_task, most_of, is_exhaust, CallsAreFew, StopsAreShort}
use Rattle.run_laws.proofs.Owed.{few_asked}
use Rattle.run_laws.proofs.Dropped.{drop_none, drop_some, drop_nil, Stands, over, calls, next_over, stands_at, left_nil, Heads, left_heads, left_stands}
use Rattle.run_laws.proofs.Replies.{own_yes, own_no, Replied, replayed_replied}
use Rattle.run_laws.proofs.Without.{none_first, none_behind, none_at, owing_none}
use Rattle.run_laws.proofs.Alone.{some_call, its_call}

-- ---- sums over tasks

pub most_nil : (f : Fixed) → most_of f [] ≡ 0
unfolding most_of
most_nil f = refl

pub most_cons : (f : Fixed) (t : Task) (ts : List Task) → most_of f (t ∷ ts) ≡ most_task f t + most_of f ts
unfolding most_of
most_cons f t ts = sum_by-cons (most_task f) t ts

pub most_append : (f : Fixed) (ts us : List Task) → most_of f (ts ++ us) ≡ most_of f ts + most_of f us
unfolding most_of
most_append f ts us = sum_by-append (most_task f) ts us

pub sent_one : (f : Fixed) → 1 ≤ most_sent f
unfolding most_sent
sent_one f = omega arith

dropped_then : (f : Fixed) (hand : Option Held) (t : Task) (ts : List Task) → most_of f (dropped (passed hand t) ts).tasks ≤ most_of f ts → (o : Option Call) → task_call hand t ≡ o
    → most_of f (dropped hand (t ∷ ts)).tasks ≤ most_of f (t ∷ ts)
dropped_then f hand t ts more None e = omega (arith, more, ap (λ (z : Left). most_of f z.tasks) (drop_none hand t ts e), most_cons f t ts)
dropped_then f hand t ts more (Some c) e = omega (arith, ap (λ (z : Left). most_of f z.tasks) (drop_some hand t ts c e))

dropped_fewer : (f : Fixed) (hand : Option Held) (ts : List Task) → most_of f (dropped hand ts).tasks ≤ most_of f ts
dropped_fewer f hand [] = omega (arith, ap (λ (z : Left). most_of f z.tasks) (drop_nil hand))
dropped_fewer f hand (t ∷ ts) = dropped_then f hand t ts (dropped_fewer f (passed hand t) ts) (task_call hand t) refl

at_fewer : (f : Fixed) (todo : Left) → most_of f (at_call todo).tasks ≤ most_of f todo.tasks
unfolding at_call
at_fewer f todo = dropped_fewer f todo.hand todo.tasks

-- ---- what a reply leaves

shares_most : (f : Fixed) (p : ℕ) (ids : List ℕ) → most_of f (map (shares p) ids) ≡ 2 * length ids
shares_most f p [] = omega (arith, most_nil f)
shares_most f p (id ∷ ids) = omega (arith, most_cons f (shares p id) (map (shares p) ids), shares_most f p ids)

gives_most : (f : Fixed) (places : List (ℕ × ℕ)) → most_of f (map gives_at places) ≡ length places
gives_most f [] = omega (arith, most_nil f)
gives_most f (x ∷ xs) = omega (arith, most_cons f (gives_at x) (map gives_at xs), gives_most f xs)

owing_most : (f : Fixed) (p : ℕ) (o : Option Lists) → ((owed : Lists) → o ≡ Some owed → (length owed.ids ≤ length (signatures f)) × (length owed.inputs ≤ inputs f))
    → 1 + most_of f (owing p o) ≤ most_sent f
unfolding owing most_sent
owing_most f p None few = omega (arith, most_nil f)
owing_most f p (Some owed) few =
    let both = few owed refl in
    let a = both.0 in
    let b = both.1 in
    omega (arith, a, b, most_append f (map (shares p) owed.ids) (map gives_at owed.inputs), shares_most f p owed.ids, gives_most f owed.inputs)

delivering_most : (f : Fixed) (o : Option Held) → most_of f (delivering o) ≤ 1
unfolding delivering
delivering_most f None = omega (arith, most_nil f)
delivering_most f (Some share) = omega (arith, most_cons f (delivers share) [], most_nil f)

evaluating_most : (f : Fixed) (o : Option ℕ) → most_of f (evaluating o) ≤ 1
unfolding evaluating
evaluating_most f None = omega (arith, most_nil f)
evaluating_most f (Some c) = omega (arith, most_cons f (finishes c) [], most_nil f)

returning_most : (f : Fixed) (o : Option ℕ) → most_of f (returning o) ≤ 1
unfolding returning
returning_most f None = omega (arith, most_nil f)
returning_most f (Some c) = omega (arith, most_cons f (returns c) [], most_nil f)

-- the call of a task, and what its reply leaves
line_costs : (f : Fixed) (who : ℕ) (s : State) (hand : Option Held) (x : Line) (c : Call) → KeptWell f s → task_call hand (does x) ≡ Some c
    → 1 + most_of f (line_leaves f.rows x (step f s who c).0) ≤ most_line f x
line_costs f who s hand (line.Join p) c g e = omega (arith, most_nil f)
line_costs f who s hand (line.Lose p) c g e = omega (arith, most_nil f)
line_costs f who s hand (line.Send p) c g e =
    let its : call.Pending p ≡ c = some_call (call.Pending p) c e in
    subst (λ (z : Call). 1 + most_of f (owing p (listed (step f s who z).0)) ≤ most_sent f) its
    (owing_most f p (listed (step f s who (call.Pending p)).0) (λ owed o. few_asked f s who p owed g o))
line_costs f who s hand (line.Hold p id) c g e = omega (arith, most_nil f)
line_costs f who s hand line.Give c g e = omega (arith, most_nil f)
line_costs f who s hand line.Work c g e = omega (arith, evaluating_most f (job (step f s who c).0))
line_costs f who s hand line.Quit c g e = omega (arith, returning_most f (job (step f s who c).0))

task_costs : (f : Fixed) (who : ℕ) (s : State) (hand : Option Held) (t : Task) (c : Call) → KeptWell f s → is_exhaust t ≡ false → task_call hand t ≡ Some c
    → 1 + most_of f (leaves f.rows t (step f s who c).0) ≤ most_task f t
task_costs f who s hand begin c g n e = cc
task_costs f who s hand (does x) c g n e = line_costs f who s hand x c g e
task_costs f who s hand (shares p id) c g n e = omega (arith, delivering_most f (option_map (share_for f.rows p id) (briefed (step f s who c).0)))
task_costs f who s hand (delivers share) c g n e = omega (arith, most_nil f)
task_costs f who s hand (gives d k) c g n e = omega (arith, most_nil f)
task_costs f who s hand (finishes d) c g n e = omega (arith, most_nil f)
task_costs f who s hand (returns d) c g n e = omega (arith, most_nil f)
task_costs f who s hand exhausts c g n e = cc

-- a task that calls makes a call at least
line_one : (f : Fixed) (x : Line) → 1 ≤ most_line f x
line_one f (line.Join p) = omega arith
line_one f (line.Lose p) = omega arith
line_one f (line.Send p) = sent_one f
line_one f (line.Hold p id) = omega arith
line_one f line.Give = omega arith
line_one f line.Work = omega arith
line_one f line.Quit = omega arith

task_one : (f : Fixed) (hand : Option Held) (t : Task) (c : Call) → task_call hand t ≡ Some c → 1 ≤ most_task f t
task_one f hand begin c e = cc
task_one f hand (does x) c e = line_one f x
task_one f hand (shares p id) c e = omega arith
task_one f hand (delivers share) c e = omega arith
task_one f hand (gives d k) c e = omega arith
task_one f hand (finishes d) c e = omega arith
task_one f hand (returns d) c e = omega arith
task_one f hand exhausts c e = omega arith

pub next_one : (f : Fixed) (rest : Left) (next : Call) → Stands rest → next_call rest ≡ Some next → 1 ≤ most_of f rest.tasks
next_one f rest next (over hand is) e =
    let none : None ≡ Some next = sym (next_over rest hand (stands_at rest (over hand is) ∙ is)) ∙ e in cc
next_one f rest next (calls hand t ts c its is) e =
    omega (arith, task_one f hand t c its, most_cons f t ts, ap (λ (z : Left). most_of f z.tasks) is)

-- ---- no task that is bounded only where nobody else calls

abbrev pub IsBounded : List Task → Type 0
IsBounded ts = list_any is_exhaust ts ≡ false

delivering_bounded : (o : Option Held) (ts : List Task) → IsBounded ts → IsBounded (delivering o ++ ts)
unfolding delivering
delivering_bounded None ts n = n
delivering_bounded (Some share) ts n = n

evaluating_bounded : (o : Option ℕ) (ts : List Task) → IsBounded ts → IsBounded (evaluating o ++ ts)
unfolding evaluating
evaluating_bounded None ts n = n
evaluating_bounded (Some c) ts n = n

returning_bounded : (o : Option ℕ) (ts : List Task) → IsBounded ts → IsBounded (returning o ++ ts)
unfolding returning
returning_bounded None ts n = n
returning_bounded (Some c) ts n = n

line_bounded : (l : ℕ) (x : Line) (r : Reply) (ts : List Task) → IsBounded ts → IsBounded (line_leaves l x r ++ ts)
line_bounded l (line.Join p) r ts n = n
line_bounded l (line.Lose p) r ts n = n
line_bounded l (line.Send p) r ts n = owing_none is_exhaust (λ q id. refl) (λ c k. refl) p (listed r) ts n
line_bounded l (line.Hold p id) r ts n = n
line_bounded l line.Give r ts n = n
line_bounded l line.Work r ts n = evaluating_bounded (job r) ts n
line_bounded l line.Quit r ts n = returning_bounded (job r) ts n

leaves_bounded : (l : ℕ) (t : Task) (r : Reply) (ts : List Task) → is_exhaust t ≡ false → IsBounded ts → IsBounded (leaves l t r ++ ts)
leaves_bounded l begin r ts e n = n
leaves_bounded l (does x) r ts e n = line_bounded l x r ts n
leaves_bounded l (shares p id) r ts e n = delivering_bounded (option_map (share_for l p id) (briefed r)) ts n
leaves_bounded l (delivers share) r ts e n = n
leaves_bounded l (gives c k) r ts e n = n
leaves_bounded l (finishes c) r ts e n = n
leaves_bounded l (returns c) r ts e n = n
leaves_bounded l exhausts r ts e n = cc

-- ---- all calls

own_few : (f : Fixed) (who : ℕ) (s : State) (todo rest : Left) (e : Entry) (es : List Entry) → e.caller ≡ who → KeptWell f s → IsBounded todo.tasks → e.reply ≡ (step f s e.caller e.call).0
    → Heads f.rows todo e (own who es) rest
    → ((next : Left) → IsBounded next.tasks → left f.rows next (own who es) ≡ Some rest → length (own who es) + most_of f rest.tasks ≤ most_of f next.tasks)
    → suc (length (own who es)) + most_of f rest.tasks ≤ most_of f todo.tasks
own_few f who s todo rest e es mine g n said h more =
    let now : IsBounded (h.task ∷ h.tasks) = subst (λ (z : Left). IsBounded z.tasks) h.at (none_at is_exhaust todo n) in
    let first = none_first is_exhaust h.task h.tasks now in
    let its = its_call (task_call h.hand h.task) e h.calls in
    let reply_ : (step f s who e.call).0 ≡ e.reply = sym (said ∙ ap (λ (z : ℕ). (step f s z e.call).0) mine) in
    let costs : 1 + most_of f (leaves f.rows h.task e.reply) ≤ most_task f h.task =
    subst (λ (z : Reply). 1 + most_of f (leaves f.rows h.task z) ≤ most_task f h.task) reply_ (task_costs f who s h.hand h.task e.call g first its) in
    let few = more (record { hand = hand_after f.rows h.task e.reply h.hand; tasks = leaves f.rows h.task e.reply ++ h.tasks }) (leaves_bounded f.rows h.task e.reply h.tasks first (none_behind is_exhaust h.task h.tasks now)) h.goes in
    omega (arith, costs, few, most_append f (leaves f.rows h.task e.reply) h.tasks, most_cons f h.task h.tasks, ap (λ (z : Left). most_of f z.tasks) h.at, at_fewer f todo)

few_then : (f : Fixed) (who : ℕ) (s : State) (todo rest : Left) (e : Entry) (es : List Entry) → KeptWell f s → IsBounded todo.tasks → e.reply ≡ (step f s e.caller e.call).0
    → ((next : Left) → IsBounded next.tasks → left f.rows next (own who es) ≡ Some rest → length (own who es) + most_of f rest.tasks ≤ most_of f next.tasks)
    → (b : Bool) → nat_eq e.caller who ≡ b → left f.rows todo (own who (e ∷ es)) ≡ Some rest → length (own who (e ∷ es)) + most_of f rest.tasks ≤ most_of f todo.tasks
few_then f who s todo rest e es g n said more true yes_ h =
    let mine : e.caller ≡ who = eqb-true e.caller who yes_ in
    let same_ = own_yes who e es mine in
    let follows : left f.rows todo (e ∷ own who es) ≡ Some rest = subst (λ (z : List Entry). left f.rows todo z ≡ Some rest) same_ h in
    let few = own_few f who s todo rest e es mine g n said (left_heads f.rows todo e (own who es) rest follows) more in
    omega (arith, few, ap length same_)
few_then f who s todo rest e es g n said more false no_ h =
    let same_ = own_no who e es no_ in
    let few = more todo n (subst (λ (z : List Entry). left f.rows todo z ≡ Some rest) same_ h) in
    omega (arith, few, ap length same_)

pub few : (f : Fixed) (who : ℕ) (s : State) (todo rest : Left) (es : List Entry) → KeptWell f s → IsBounded todo.tasks → Replied f s es → left f.rows todo (own who es) ≡ Some rest
    → length (own who es) + most_of f rest.tasks ≤ most_of f todo.tasks
few f who s todo rest [] g n replied h =
    let is : at_call todo ≡ rest = let its : Some (at_call todo) ≡ Some rest = sym (left_nil f.rows todo) ∙ h in cc in
    omega (arith, at_fewer f todo, ap (λ (z : Left). most_of f z.tasks) is)
few f who s todo rest (e ∷ es) g n replied h =
    few_then f who s todo rest e es g n replied.0
    (λ next m left_. few f who (step f s e.caller e.call).1 next rest es (step_grounds f s e.caller e.call g) m replied.1 left_) (nat_eq e.caller who) refl h

pub calls_are_few : CallsAreFew
calls_are_few f who base es todo rest w m =
    few f who (state_after f base) todo rest es (state_grounds f base w) m.bounded (replayed_replied f (state_after f base) es m.legal) m.follows

pub stops_are_short : StopsAreShort
stops_are_short f who base es todo rest next w m e =
    omega (arith, calls_are_few f who base es todo rest w m, next_one f rest next (left_stands f.rows todo (own who es) rest m.follows) e)
