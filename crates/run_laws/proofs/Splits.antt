-- Entries one after the other, and tasks one after the other.
use Rattle.std.proofs.Common.{◌≡◌, ◌≢◌, ◌∙◌, sym, ap, subst, refl, ℕ, Bool, true, false, List, [], ◌∷◌, ◌++◌, Option, Some, None}
use Rattle.std.proofs.lemmas.List.{append_assoc}
use Rattle.session_rules.specs.declared.call.Call.{Call}
use Rattle.session_rules.specs.declared.call.Entry.{Entry}
use Rattle.session_rules.specs.Tasks.{Task, Held, Left, task_call, dropped, at_call, leaves, hand_after, next_call, after_reply, is_call, left}
use Rattle.run_laws.specs.Following.{left_of, and_then, EntriesAppend}
use Rattle.run_laws.proofs.Dropped.{drop_some, Stands, over, calls, stands, at_behind, next_at, next_over, after_at, left_nil, left_yes, left_no, left_first, left_same, left_dropped, stands_at}

-- ---- entries

entries_then : (l : ℕ) (todo : Left) (e : Entry) (es more : List Entry)
    → left l (after_reply l todo e.reply) (es ++ more) ≡ left_of l (left l (after_reply l todo e.reply) es) more
    → (b : Bool) → is_call (next_call todo) e ≡ b → left l todo (e ∷ es ++ more) ≡ left_of l (left l todo (e ∷ es)) more
entries_then l todo e es more rest true h =
    left_yes l todo e (es ++ more) h ∙ rest ∙ ap (λ (z : Option Left). left_of l z more) (sym (left_yes l todo e es h))
entries_then l todo e es more rest false h =
    left_no l todo e (es ++ more) h ∙ ap (λ (z : Option Left). left_of l z more) (sym (left_no l todo e es h))

pub entries_append : EntriesAppend
entries_append l todo [] more = sym (left_dropped l todo more) ∙ ap (λ (z : Option Left). left_of l z more) (sym (left_nil l todo))
entries_append l todo (e ∷ es) more =
    entries_then l todo e es more (entries_append l (after_reply l todo e.reply) es more) (is_call (next_call todo) e) refl

-- where something is left after both, something is after the first
pub record Between (l : ℕ) (todo : Left) (es more : List Entry) (rest : Left) : Type 0 where
  pub between : Left
  pub first : left l todo es ≡ Some between
  pub second : left l between more ≡ Some rest

between_then : (l : ℕ) (todo : Left) (es more : List Entry) (rest : Left) (o : Option Left) → left l todo es ≡ o → left_of l o more ≡ Some rest → Between l todo es more rest
between_then l todo es more rest None e h = let none : None ≡ Some rest = h in cc
between_then l todo es more rest (Some t) e h = record { between = t; first = e; second = h }

pub entries_between : (l : ℕ) (todo : Left) (es more : List Entry) (rest : Left) → left l todo (es ++ more) ≡ Some rest → Between l todo es more rest
entries_between l todo es more rest h = between_then l todo es more rest (left l todo es) refl (sym (entries_append l todo es more) ∙ h)

pub entries_join : (l : ℕ) (todo between rest : Left) (es more : List Entry) → left l todo es ≡ Some between → left l between more ≡ Some rest → left l todo (es ++ more) ≡ Some rest
entries_join l todo between rest es more a b = entries_append l todo es more ∙ ap (λ (z : Option Left). left_of l z more) a ∙ b

-- ---- tasks with more behind them

-- where the first task calls, it does so too with more behind it
pub at_calls : (todo : Left) (us : List Task) (hand : Option Held) (t : Task) (ts : List Task) (c : Call) → task_call hand t ≡ Some c → at_call todo ≡ record { hand = hand; tasks = t ∷ ts }
    → at_call (and_then todo us) ≡ record { hand = hand; tasks = t ∷ ts ++ us }
unfolding at_call
at_calls todo us hand t ts c its e =
    sym (at_behind todo us) ∙ ap (λ (z : Left). dropped z.hand (z.tasks ++ us)) e ∙ drop_some hand t (ts ++ us) c its

pub at_over : (todo : Left) (us : List Task) (hand : Option Held) → at_call todo ≡ record { hand = hand; tasks = [] } → at_call (and_then todo us) ≡ at_call (record { hand = hand; tasks = us })
at_over todo us hand e = sym (at_behind todo us) ∙ ap (λ (z : Left). at_call (and_then z us)) e

after_calls : (l : ℕ) (todo : Left) (us : List Task) (e : Entry) (hand : Option Held) (t : Task) (ts : List Task) (c : Call) → task_call hand t ≡ Some c → at_call todo ≡ record { hand = hand; tasks = t ∷ ts }
    → after_reply l (and_then todo us) e.reply ≡ and_then (after_reply l todo e.reply) us
after_calls l todo us e hand t ts c its is =
    after_at l (and_then todo us) e.reply hand t (ts ++ us) (at_calls todo us hand t ts c its is)
    ∙ ap (λ (z : List Task). record { hand = hand_after l t e.reply hand; tasks = z }) (sym (append_assoc (leaves l t e.reply) ts us))
    ∙ ap (λ (z : Left). and_then z us) (sym (after_at l todo e.reply hand t ts is))

next_calls : (todo : Left) (us : List Task) (hand : Option Held) (t : Task) (ts : List Task) (c : Call) → task_call hand t ≡ Some c → at_call todo ≡ record { hand = hand; tasks = t ∷ ts }
    → next_call (and_then todo us) ≡ next_call todo
next_calls todo us hand t ts c its is = next_at (and_then todo us) hand t (ts ++ us) (at_calls todo us hand t ts c its is) ∙ sym (next_at todo hand t ts is)

-- what is next with more behind it
pub next_behind : (todo : Left) (us : List Task) → Stands todo → todo.tasks ≢ [] → next_call (and_then todo us) ≡ next_call todo
next_behind todo us (over hand is) some_ = absurd (some_ (ap (λ (z : Left). z.tasks) is))
next_behind todo us (calls hand t ts c its is) some_ = next_calls todo us hand t ts c its (stands_at todo (calls hand t ts c its is) ∙ is)

-- what is left with more behind it
then_behind : (l : ℕ) (todo here : Left) (us : List Task) (e : Entry) (es : List Entry)
    → ((next : Left) → left l next es ≡ Some here → left l (and_then next us) es ≡ Some (at_call (and_then here us)))
    → Stands (at_call todo) → left l todo (e ∷ es) ≡ Some here → left l (and_then todo us) (e ∷ es) ≡ Some (at_call (and_then here us))
then_behind l todo here us e es more (over hand is) h =
    let first = left_first l todo e es here h in
    let none : is_call None e ≡ true = subst (λ (z : Option Call). is_call z e ≡ true) (next_over todo hand is) first.calls in cc
then_behind l todo here us e es more (calls hand t ts c its is) h =
    let first = left_first l todo e es here h in
    left_yes l (and_then todo us) e es (ap (λ (z : Option Call). is_call z e) (next_calls todo us hand t ts c its is) ∙ first.calls)
    ∙ ap (λ (z : Left). left l z es) (after_calls l todo us e hand t ts c its is)
    ∙ more (after_reply l todo e.reply) first.goes

pub left_behind : (l : ℕ) (todo here : Left) (us : List Task) (es : List Entry) → left l todo es ≡ Some here → left l (and_then todo us) es ≡ Some (at_call (and_then here us))
left_behind l todo here us [] h =
    let is : at_call todo ≡ here = let its : Some (at_call todo) ≡ Some here = sym (left_nil l todo) ∙ h in cc in
    left_nil l (and_then todo us) ∙ ap (λ (z : Left). Some z) (sym (at_behind todo us) ∙ ap (λ (z : Left). at_call (and_then z us)) is)
left_behind l todo here us (e ∷ es) h = then_behind l todo here us e es (λ next g. left_behind l next here us es g) (stands todo) h

-- tasks to the end, and those behind them from there
pub tasks_join : (l : ℕ) (todo rest : Left) (us : List Task) (hand : Option Held) (a b : List Entry) → left l todo a ≡ Some (record { hand = hand; tasks = [] })
    → left l (record { hand = hand; tasks = us }) b ≡ Some rest → left l (and_then todo us) (a ++ b) ≡ Some rest
tasks_join l todo rest us hand a b x y =
    let all : Left = record { hand = hand; tasks = us } in
    entries_join l (and_then todo us) (at_call all) rest a b (left_behind l todo (record { hand = hand; tasks = [] }) us a x) (left_dropped l all b ∙ y)

-- ---- and back: the entries are within the first tasks, or beyond them

pub data Split (l : ℕ) (todo : Left) (us : List Task) (es : List Entry) (rest : Left) : Type 0 where
  within : (here : Left) → left l todo es ≡ Some here → here.tasks ≢ [] → rest ≡ and_then here us → Split l todo us es rest
  beyond : (first second : List Entry) (hand : Option Held) → es ≡ first ++ second → left l todo first ≡ Some (record { hand = hand; tasks = [] })
      → left l (record { hand = hand; tasks = us }) second ≡ Some rest → Split l todo us es rest

one_more : (l : ℕ) (todo : Left) (us : List Task) (e : Entry) (es : List Entry) (rest : Left) → is_call (next_call todo) e ≡ true → Split l (after_reply l todo e.reply) us es rest → Split l todo us (e ∷ es) rest
one_more l todo us e es rest its (within here h some_ is) = within here (left_yes l todo e es its ∙ h) some_ is
one_more l todo us e es rest its (beyond first second hand parts h g) = beyond (e ∷ first) second hand (ap (λ (z : List Entry). e ∷ z) parts) (left_yes l todo e first its ∙ h) g

split_nil : (l : ℕ) (todo : Left) (us : List Task) (rest : Left) → Stands (at_call todo) → at_call (and_then todo us) ≡ rest → Split l todo us [] rest
split_nil l todo us rest (over hand is) h =
    beyond [] [] hand refl (left_nil l todo ∙ ap (λ (z : Left). Some z) is) (left_nil l (record { hand = hand; tasks = us }) ∙ ap (λ (z : Left). Some z) (sym (at_over todo us hand is) ∙ h))
split_nil l todo us rest (calls hand t ts c its is) h =
    within (record { hand = hand; tasks = t ∷ ts }) (left_nil l todo ∙ ap (λ (z : Left). Some z) is) (λ e. cc) (sym h ∙ at_calls todo us hand t ts c its is)

split_one : (l : ℕ) (todo : Left) (us : List Task) (e : Entry) (es : List Entry) (rest : Left)
    → ((next : Left) → left l (and_then next us) es ≡ Some rest → Split l next us es rest)
    → Stands (at_call todo) → left l (and_then todo us) (e ∷ es) ≡ Some rest → Split l todo us (e ∷ es) rest
split_one l todo us e es rest more (over hand is) h =
    beyond [] (e ∷ es) hand refl (left_nil l todo ∙ ap (λ (z : Left). Some z) is)
    (left_same l (record { hand = hand; tasks = us }) (and_then todo us) (e ∷ es) (sym (at_over todo us hand is)) ∙ h)
split_one l todo us e es rest more (calls hand t ts c its is) h =
    let first = left_first l (and_then todo us) e es rest h in
    one_more l todo us e es rest (ap (λ (z : Option Call). is_call z e) (sym (next_calls todo us hand t ts c its is)) ∙ first.calls)
    (more (after_reply l todo e.reply) (subst (λ (z : Left). left l z es ≡ Some rest) (after_calls l todo us e hand t ts c its is) first.goes))

pub split : (l : ℕ) (todo : Left) (us : List Task) (es : List Entry) (rest : Left) → left l (and_then todo us) es ≡ Some rest → Split l todo us es rest
split l todo us [] rest h =
    split_nil l todo us rest (stands todo) (let its : Some (at_call (and_then todo us)) ≡ Some rest = sym (left_nil l (and_then todo us)) ∙ h in cc)
split l todo us (e ∷ es) rest h = split_one l todo us e es rest (λ next g. split l next us es rest g) (stands todo) h
