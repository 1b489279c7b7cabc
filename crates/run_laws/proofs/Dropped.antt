-- Tasks that call nothing are dropped: then none is left, or the first one calls.
use Rattle.std.proofs.Common.{◌≡◌, ◌≢◌, ◌∙◌, sym, ap, subst, refl, ℕ, Bool, true, false, List, [], ◌∷◌, ◌++◌, Option, Some, None}
use Rattle.session_rules.specs.declared.call.Call.{Call}
use Rattle.session_rules.specs.declared.call.Entry.{Entry}
use Rattle.session_rules.specs.declared.reply.Reply.{Reply}
use Rattle.session_rules.specs.Tasks.{Task, Held, Left, task_call, passed, dropped, at_call, leaves, hand_after, first_call, next_call, rest_of, after_reply, is_call, left}
use Rattle.run_laws.specs.Following.{and_then, DroppedIsLeft}

-- ---- one task

pub drop_none : (hand : Option Held) (t : Task) (ts : List Task) → task_call hand t ≡ None → dropped hand (t ∷ ts) ≡ dropped (passed hand t) ts
unfolding dropped
drop_none hand t ts e = rw (e, dropped) refl

pub drop_some : (hand : Option Held) (t : Task) (ts : List Task) (c : Call) → task_call hand t ≡ Some c → dropped hand (t ∷ ts) ≡ record { hand = hand; tasks = t ∷ ts }
unfolding dropped
drop_some hand t ts c e = rw (e, dropped) refl

pub drop_nil : (hand : Option Held) → dropped hand [] ≡ record { hand = hand; tasks = [] }
unfolding dropped
drop_nil hand = refl

-- ---- what comes of it

-- nothing is left, or the first task calls
pub data Stands (d : Left) : Type 0 where
  over : (hand : Option Held) → d ≡ record { hand = hand; tasks = [] } → Stands d
  calls : (hand : Option Held) (t : Task) (ts : List Task) (c : Call) → task_call hand t ≡ Some c → d ≡ record { hand = hand; tasks = t ∷ ts } → Stands d

stands_then : (hand : Option Held) (t : Task) (ts : List Task) (o : Option Call) → task_call hand t ≡ o → Stands (dropped (passed hand t) ts) → Stands (dropped hand (t ∷ ts))
stands_then hand t ts None e more = subst (λ (z : Left). Stands z) (sym (drop_none hand t ts e)) more
stands_then hand t ts (Some c) e more = calls hand t ts c e (drop_some hand t ts c e)

pub dropped_stands : (hand : Option Held) (ts : List Task) → Stands (dropped hand ts)
dropped_stands hand [] = over hand (drop_nil hand)
dropped_stands hand (t ∷ ts) = stands_then hand t ts (task_call hand t) refl (dropped_stands (passed hand t) ts)

pub stands : (todo : Left) → Stands (at_call todo)
unfolding at_call
stands todo = dropped_stands todo.hand todo.tasks

-- what is dropped once stays so
again_then : (d : Left) → Stands d → at_call d ≡ d
unfolding at_call
again_then d (over hand e) = subst (λ (z : Left). dropped z.hand z.tasks ≡ z) (sym e) (drop_nil hand)
again_then d (calls hand t ts c its e) = subst (λ (z : Left). dropped z.hand z.tasks ≡ z) (sym e) (drop_some hand t ts c its)

pub at_again : (todo : Left) → at_call (at_call todo) ≡ at_call todo
at_again todo = again_then (at_call todo) (stands todo)

pub at_none : (hand : Option Held) → at_call (record { hand = hand; tasks = [] }) ≡ record { hand = hand; tasks = [] }
unfolding at_call
at_none hand = drop_nil hand

-- with more behind it
behind_then : (us : List Task) (hand : Option Held) (t : Task) (ts : List Task) (o : Option Call) → task_call hand t ≡ o
    → dropped (dropped (passed hand t) ts).hand ((dropped (passed hand t) ts).tasks ++ us) ≡ dropped (passed hand t) (ts ++ us)
    → dropped (dropped hand (t ∷ ts)).hand ((dropped hand (t ∷ ts)).tasks ++ us) ≡ dropped hand (t ∷ ts ++ us)
behind_then us hand t ts None e more =
    ap (λ (z : Left). dropped z.hand (z.tasks ++ us)) (drop_none hand t ts e) ∙ more ∙ sym (drop_none hand t (ts ++ us) e)
behind_then us hand t ts (Some c) e more = ap (λ (z : Left). dropped z.hand (z.tasks ++ us)) (drop_some hand t ts c e)

dropped_behind : (us : List Task) (hand : Option Held) (ts : List Task) → dropped (dropped hand ts).hand ((dropped hand ts).tasks ++ us) ≡ dropped hand (ts ++ us)
dropped_behind us hand [] = ap (λ (z : Left). dropped z.hand (z.tasks ++ us)) (drop_nil hand)
dropped_behind us hand (t ∷ ts) = behind_then us hand t ts (task_call hand t) refl (dropped_behind us (passed hand t) ts)

pub at_behind : (todo : Left) (us : List Task) → at_call (and_then (at_call todo) us) ≡ at_call (and_then todo us)
unfolding at_call
at_behind todo us = dropped_behind us todo.hand todo.tasks

-- ---- the next call, and what a reply leaves

pub next_at : (todo : Left) (hand : Option Held) (t : Task) (ts : List Task) → at_call todo ≡ record { hand = hand; tasks = t ∷ ts } → next_call todo ≡ task_call hand t
unfolding next_call
next_at todo hand t ts e = ap (λ (z : Left). first_call z.hand z.tasks) e

pub next_over : (todo : Left) (hand : Option Held) → at_call todo ≡ record { hand = hand; tasks = [] } → next_call todo ≡ None
unfolding next_call
next_over todo hand e = ap (λ (z : Left). first_call z.hand z.tasks) e

pub after_at : (l : ℕ) (todo : Left) (r : Reply) (hand : Option Held) (t : Task) (ts : List Task) → at_call todo ≡ record { hand = hand; tasks = t ∷ ts }
    → after_reply l todo r ≡ record { hand = hand_after l t r hand; tasks = leaves l t r ++ ts }
unfolding after_reply
after_at l todo r hand t ts e = ap (λ (z : Left). rest_of l z.hand z.tasks r) e

-- where two drop to the same, they call the same, and the same is left
pub next_same : (a b : Left) → at_call a ≡ at_call b → next_call a ≡ next_call b
unfolding next_call
next_same a b e = ap (λ (z : Left). first_call z.hand z.tasks) e

pub after_same : (l : ℕ) (a b : Left) (r : Reply) → at_call a ≡ at_call b → after_reply l a r ≡ after_reply l b r
unfolding after_reply
after_same l a b r e = ap (λ (z : Left). rest_of l z.hand z.tasks r) e

pub left_nil : (l : ℕ) (todo : Left) → left l todo [] ≡ Some (at_call todo)
unfolding left
left_nil l todo = refl

pub left_yes : (l : ℕ) (todo : Left) (e : Entry) (es : List Entry) → is_call (next_call todo) e ≡ true → left l todo (e ∷ es) ≡ left l (after_reply l todo e.reply) es
unfolding left
left_yes l todo e es yes_ = rw (yes_, left) refl

pub left_no : (l : ℕ) (todo : Left) (e : Entry) (es : List Entry) → is_call (next_call todo) e ≡ false → left l todo (e ∷ es) ≡ None
unfolding left
left_no l todo e es no_ = rw (no_, left) refl

-- an entry is the next call, where something is left after it
pub record First (l : ℕ) (todo : Left) (e : Entry) (es : List Entry) (rest : Left) : Type 0 where
  pub calls : is_call (next_call todo) e ≡ true
  pub goes : left l (after_reply l todo e.reply) es ≡ Some rest

first_then : (l : ℕ) (todo : Left) (e : Entry) (es : List Entry) (rest : Left) (b : Bool) → is_call (next_call todo) e ≡ b → left l todo (e ∷ es) ≡ Some rest → First l todo e es rest
first_then l todo e es rest true yes_ h = record { calls = yes_; goes = sym (left_yes l todo e es yes_) ∙ h }
first_then l todo e es rest false no_ h = let none : None ≡ Some rest = sym (left_no l todo e es no_) ∙ h in cc

pub left_first : (l : ℕ) (todo : Left) (e : Entry) (es : List Entry) (rest : Left) → left l todo (e ∷ es) ≡ Some rest → First l todo e es rest
left_first l todo e es rest h = first_then l todo e es rest (is_call (next_call todo) e) refl h

-- so there is a first task, which has this call
pub record Heads (l : ℕ) (todo : Left) (e : Entry) (es : List Entry) (rest : Left) : Type 0 where
  pub hand : Option Held
  pub task : Task
  pub tasks : List Task
  pub at : at_call todo ≡ record { hand = hand; tasks = task ∷ tasks }
  pub calls : is_call (task_call hand task) e ≡ true
  pub goes : left l (record { hand = hand_after l task e.reply hand; tasks = leaves l task e.reply ++ tasks }) es ≡ Some rest

heads_then : (l : ℕ) (todo : Left) (e : Entry) (es : List Entry) (rest : Left) → Stands (at_call todo) → First l todo e es rest → Heads l todo e es rest
heads_then l todo e es rest (over hand is) h =
    let none : is_call None e ≡ true = subst (λ (z : Option Call). is_call z e ≡ true) (next_over todo hand is) h.calls in cc
heads_then l todo e es rest (calls hand t ts c its is) h = record {
  hand = hand;
  task = t;
  tasks = ts;
  at = is;
  calls = subst (λ (z : Option Call). is_call z e ≡ true) (next_at todo hand t ts is) h.calls;
  goes = subst (λ (z : Left). left l z es ≡ Some rest) (after_at l todo e.reply hand t ts is) h.goes;
}

pub left_heads : (l : ℕ) (todo : Left) (e : Entry) (es : List Entry) (rest : Left) → left l todo (e ∷ es) ≡ Some rest → Heads l todo e es rest
left_heads l todo e es rest h = heads_then l todo e es rest (stands todo) (left_first l todo e es rest h)

left_same_then : (l : ℕ) (a b : Left) (e : Entry) (es : List Entry) → at_call a ≡ at_call b → (x : Bool) → is_call (next_call a) e ≡ x → left l a (e ∷ es) ≡ left l b (e ∷ es)
left_same_then l a b e es same true h =
    left_yes l a e es h ∙ ap (λ (z : Left). left l z es) (after_same l a b e.reply same) ∙ sym (left_yes l b e es (ap (λ (z : Option Call). is_call z e) (sym (next_same a b same)) ∙ h))
left_same_then l a b e es same false h =
    left_no l a e es h ∙ sym (left_no l b e es (ap (λ (z : Option Call). is_call z e) (sym (next_same a b same)) ∙ h))

pub left_same : (l : ℕ) (a b : Left) (es : List Entry) → at_call a ≡ at_call b → left l a es ≡ left l b es
left_same l a b [] same = left_nil l a ∙ ap (λ (z : Left). Some z) same ∙ sym (left_nil l b)
left_same l a b (e ∷ es) same = left_same_then l a b e es same (is_call (next_call a) e) refl

-- dropping changes nothing
pub left_dropped : (l : ℕ) (todo : Left) (es : List Entry) → left l (at_call todo) es ≡ left l todo es
left_dropped l todo es = left_same l (at_call todo) todo es (at_again todo)

pub dropped_is_left : DroppedIsLeft
dropped_is_left = left_dropped

-- what is left stands at a call, or nothing is left
stands_on : (l : ℕ) (todo : Left) (e : Entry) (es : List Entry) (rest : Left) → ((next : Left) → left l next es ≡ Some rest → Stands rest) → left l todo (e ∷ es) ≡ Some rest → Stands rest
stands_on l todo e es rest more h = let first = left_first l todo e es rest h in more (after_reply l todo e.reply) first.goes

pub left_stands : (l : ℕ) (todo : Left) (es : List Entry) (rest : Left) → left l todo es ≡ Some rest → Stands rest
left_stands l todo [] rest h =
    let is : at_call todo ≡ rest = let its : Some (at_call todo) ≡ Some rest = sym (left_nil l todo) ∙ h in cc in
    subst (λ (z : Left). Stands z) is (stands todo)
left_stands l todo (e ∷ es) rest h = stands_on l todo e es rest (λ next g. left_stands l next es rest g) h

pub stands_at : (d : Left) → Stands d → at_call d ≡ d
stands_at d s = again_then d s

-- where none is next, nothing is left; and where one is, something is
pub next_none : (d : Left) → Stands d → next_call d ≡ None → d.tasks ≡ []
next_none d (over hand e) h = ap (λ (z : Left). z.tasks) e
next_none d (calls hand t ts c its e) h =
    let none : None ≡ Some c = sym h ∙ next_at d hand t ts (stands_at d (calls hand t ts c its e) ∙ e) ∙ its in cc

pub next_some : (d : Left) (c : Call) → Stands d → next_call d ≡ Some c → d.tasks ≢ []
next_some d c (over hand e) h = λ _. let none : None ≡ Some c = sym (next_over d hand (stands_at d (over hand e) ∙ e)) ∙ h in cc
next_some d c (calls hand t ts x its e) h = λ none. let tasks_ : t ∷ ts ≡ [] = ap (λ (z : Left). z.tasks) (sym e) ∙ none in cc
