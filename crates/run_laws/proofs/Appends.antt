-- Entries that follow tasks, and more of them behind.
use Rattle.std.proofs.Common.{◌≡◌, ◌∙◌, sym, ap, subst, refl, ℕ, true, false, List, [], ◌∷◌, ◌++◌, map, Option, Some, None}
use Rattle.std.specs.List.{flat_map}
use Rattle.std.specs.Option.{option_map}
use Rattle.std.proofs.lemmas.List.{append_assoc}
use Rattle.share_spec.specs.Sets.{members}
use Rattle.session_rules.specs.declared.call.Call.{Call}
use Rattle.session_rules.specs.declared.call.Entry.{Entry}
use Rattle.session_rules.specs.declared.reply.Reply.{Reply}
use Rattle.session_rules.specs.declared.line.Line.{Line}
use Rattle.session_rules.specs.declared.line.Line.TheVariants as line
use Rattle.session_rules.specs.States.{State}
use Rattle.session_rules.specs.Tasks.{Task, begin, does, shares, delivers, gives, finishes, returns, exhausts, Held, Left, Lists, listed, briefed, job, task_call, dropped, at_call, owing, gives_at, delivering, evaluating, returning, exhausting, share_for, leaves, hand_after, next_call, is_call, left}
use Rattle.session_rules.specs.Courses.{to_do, joins, sends, lane_tasks, round_tasks, Follows, BreaksOff}
use Rattle.run_laws.specs.Following.{looks, TasksAppend, Parts, TasksSplit, BreaksAt, early, late, TasksBreak}
use Rattle.run_laws.proofs.Dropped.{drop_none, drop_some, drop_nil, left_nil, left_yes, left_same, next_same, next_at, next_over, after_at, at_none, Heads, left_heads, left_stands}
use Rattle.run_laws.proofs.Splits.{next_behind, tasks_join, Split, within, beyond, split}

-- ---- two hands

-- the same is to be done; what is in hand is the same, or isn't looked at
pub data Alike (a b : Left) : Type 0 where
  same : a ≡ b → Alike a b
  unseen : (x y : Option Held) (ts : List Task) → looks ts ≡ false → a ≡ record { hand = x; tasks = ts } → b ≡ record { hand = y; tasks = ts } → Alike a b

pub alike_self : (a : Left) → Alike a a
alike_self a = same refl

pub alike_tasks : (a b : Left) → Alike a b → b.tasks ≡ a.tasks
alike_tasks a b (same e) = ap (λ (z : Left). z.tasks) (sym e)
alike_tasks a b (unseen x y ts no_ p q) = ap (λ (z : Left). z.tasks) q ∙ ap (λ (z : Left). z.tasks) (sym p)

-- a task that calls, whatever is in hand
drop_both : (x y : Option Held) (t : Task) (ts : List Task) (c : Call) → looks (t ∷ ts) ≡ false → task_call x t ≡ Some c → task_call y t ≡ Some c → Alike (dropped x (t ∷ ts)) (dropped y (t ∷ ts))
drop_both x y t ts c no_ p q = unseen x y (t ∷ ts) no_ (drop_some x t ts c p) (drop_some y t ts c q)

line_alike : (x y : Option Held) (l : Line) (ts : List Task) → looks (does l ∷ ts) ≡ false → Alike (dropped x (does l ∷ ts)) (dropped y (does l ∷ ts))
line_alike x y (line.Join p) ts no_ = drop_both x y (does (line.Join p)) ts _ no_ refl refl
line_alike x y (line.Lose p) ts no_ = drop_both x y (does (line.Lose p)) ts _ no_ refl refl
line_alike x y (line.Send p) ts no_ = drop_both x y (does (line.Send p)) ts _ no_ refl refl
line_alike x y (line.Hold p id) ts no_ = drop_both x y (does (line.Hold p id)) ts _ no_ refl refl
line_alike x y line.Give ts no_ = cc
line_alike x y line.Work ts no_ = drop_both x y (does line.Work) ts _ no_ refl refl
line_alike x y line.Quit ts no_ = drop_both x y (does line.Quit) ts _ no_ refl refl

dropped_alike : (x y : Option Held) (ts : List Task) → looks ts ≡ false → Alike (dropped x ts) (dropped y ts)
dropped_alike x y [] no_ = unseen x y [] refl (drop_nil x) (drop_nil y)
dropped_alike x y (begin ∷ ts) no_ = same (drop_none x begin ts refl ∙ sym (drop_none y begin ts refl))
dropped_alike x y (does l ∷ ts) no_ = line_alike x y l ts no_
dropped_alike x y (shares p id ∷ ts) no_ = drop_both x y (shares p id) ts _ no_ refl refl
dropped_alike x y (delivers share ∷ ts) no_ = drop_both x y (delivers share) ts _ no_ refl refl
dropped_alike x y (gives c k ∷ ts) no_ = drop_both x y (gives c k) ts _ no_ refl refl
dropped_alike x y (finishes c ∷ ts) no_ = drop_both x y (finishes c) ts _ no_ refl refl
dropped_alike x y (returns c ∷ ts) no_ = drop_both x y (returns c) ts _ no_ refl refl
dropped_alike x y (exhausts ∷ ts) no_ = drop_both x y exhausts ts _ no_ refl refl

at_alike : (a b : Left) → Alike a b → Alike (at_call a) (at_call b)
unfolding at_call
at_alike a b (same e) = same (ap (λ (z : Left). dropped z.hand z.tasks) e)
at_alike a b (unseen x y ts no_ p q) =
    subst (λ (z : Left). Alike (dropped z.hand z.tasks) (dropped b.hand b.tasks)) (sym p)
    (subst (λ (z : Left). Alike (dropped x ts) (dropped z.hand z.tasks)) (sym q) (dropped_alike x y ts no_))

-- ---- what a reply leaves looks at nothing

pub shares_look : (p : ℕ) (ids : List ℕ) (ts : List Task) → looks (map (shares p) ids ++ ts) ≡ looks ts
shares_look p [] ts = refl
shares_look p (id ∷ ids) ts = shares_look p ids ts

pub gives_look : (places : List (ℕ × ℕ)) (ts : List Task) → looks (map gives_at places ++ ts) ≡ looks ts
gives_look [] ts = refl
gives_look (x ∷ xs) ts = gives_look xs ts

pub owing_look : (p : ℕ) (o : Option Lists) (ts : List Task) → looks (owing p o ++ ts) ≡ looks ts
unfolding owing
owing_look p None ts = refl
owing_look p (Some owed) ts =
    ap looks (append_assoc (map (shares p) owed.ids) (map gives_at owed.inputs) ts) ∙ shares_look p owed.ids (map gives_at owed.inputs ++ ts) ∙ gives_look owed.inputs ts

pub delivering_look : (o : Option Held) (ts : List Task) → looks (delivering o ++ ts) ≡ looks ts
unfolding delivering
delivering_look None ts = refl
delivering_look (Some share) ts = refl

pub evaluating_look : (o : Option ℕ) (ts : List Task) → looks (evaluating o ++ ts) ≡ looks ts
unfolding evaluating
evaluating_look None ts = refl
evaluating_look (Some c) ts = refl

pub returning_look : (o : Option ℕ) (ts : List Task) → looks (returning o ++ ts) ≡ looks ts
unfolding returning
returning_look None ts = refl
returning_look (Some c) ts = refl

pub exhausting_look : (o : Option ℕ) (ts : List Task) → looks (exhausting o ++ ts) ≡ looks ts
unfolding exhausting
exhausting_look None ts = refl
exhausting_look (Some c) ts = refl

-- nor do those who join or send, nor lanes

pub joins_look : (ps : List ℕ) (ts : List Task) → looks (map joins ps ++ ts) ≡ looks ts
joins_look [] ts = refl
joins_look (p ∷ ps) ts = joins_look ps ts

pub sends_look : (ps : List ℕ) (ts : List Task) → looks (map sends ps ++ ts) ≡ looks ts
sends_look [] ts = refl
sends_look (p ∷ ps) ts = sends_look ps ts

pub lanes_look : (lanes : List (List Line)) → looks (flat_map lane_tasks lanes) ≡ false
lanes_look [] = refl
lanes_look (lane ∷ lanes) = refl

pub round_look : (s : State) → looks (round_tasks s) ≡ false
unfolding round_tasks
round_look s = sends_look (members s.present) (exhausts ∷ [])

-- ---- one call more

abbrev then_left : ℕ → Option Held → Task → List Task → Reply → Left
then_left l x t ts r = record { hand = hand_after l t r x; tasks = leaves l t r ++ ts }

stay : (x y : Option Held) (more ts : List Task) → looks (more ++ ts) ≡ looks ts → looks ts ≡ false → Alike (record { hand = x; tasks = more ++ ts }) (record { hand = y; tasks = more ++ ts })
stay x y more ts e no_ = unseen x y (more ++ ts) (e ∙ no_) refl refl

line_then : (l : ℕ) (x y : Option Held) (it : Line) (ts : List Task) (r : Reply) → looks (does it ∷ ts) ≡ false → Alike (then_left l x (does it) ts r) (then_left l y (does it) ts r)
line_then l x y (line.Join p) ts r no_ = stay x y [] ts refl no_
line_then l x y (line.Lose p) ts r no_ = stay x y [] ts refl no_
line_then l x y (line.Send p) ts r no_ = stay x y (owing p (listed r)) ts (owing_look p (listed r) ts) no_
line_then l x y (line.Hold p id) ts r no_ = same refl
line_then l x y line.Give ts r no_ = cc
line_then l x y line.Work ts r no_ = stay x y (evaluating (job r)) ts (evaluating_look (job r) ts) no_
line_then l x y line.Quit ts r no_ = stay x y (returning (job r)) ts (returning_look (job r) ts) no_

then_alike : (l : ℕ) (x y : Option Held) (t : Task) (ts : List Task) (e : Entry) → looks (t ∷ ts) ≡ false → is_call (task_call x t) e ≡ true
    → Alike (then_left l x t ts e.reply) (then_left l y t ts e.reply)
then_alike l x y begin ts e no_ its = cc
then_alike l x y (does it) ts e no_ its = line_then l x y it ts e.reply no_
then_alike l x y (shares p id) ts e no_ its =
    stay x y (delivering (option_map (share_for l p id) (briefed e.reply))) ts (delivering_look (option_map (share_for l p id) (briefed e.reply)) ts) no_
then_alike l x y (delivers share) ts e no_ its = stay x y [] ts refl no_
then_alike l x y (gives d k) ts e no_ its = stay x y [] ts refl no_
then_alike l x y (finishes d) ts e no_ its = stay x y [] ts refl no_
then_alike l x y (returns d) ts e no_ its = stay x y [] ts refl no_
then_alike l x y exhausts ts e no_ its = stay x y (exhausting (job e.reply)) ts (exhausting_look (job e.reply) ts) no_

line_calls : (x y : Option Held) (l : Line) (ts : List Task) → looks (does l ∷ ts) ≡ false → task_call y (does l) ≡ task_call x (does l)
line_calls x y (line.Join p) ts no_ = refl
line_calls x y (line.Lose p) ts no_ = refl
line_calls x y (line.Send p) ts no_ = refl
line_calls x y (line.Hold p id) ts no_ = refl
line_calls x y line.Give ts no_ = cc
line_calls x y line.Work ts no_ = refl
line_calls x y line.Quit ts no_ = refl

calls_alike : (x y : Option Held) (t : Task) (ts : List Task) → looks (t ∷ ts) ≡ false → task_call y t ≡ task_call x t
calls_alike x y begin ts no_ = refl
calls_alike x y (does l) ts no_ = line_calls x y l ts no_
calls_alike x y (shares p id) ts no_ = refl
calls_alike x y (delivers share) ts no_ = refl
calls_alike x y (gives c k) ts no_ = refl
calls_alike x y (finishes c) ts no_ = refl
calls_alike x y (returns c) ts no_ = refl
calls_alike x y exhausts ts no_ = refl

-- ---- all calls

-- what is left of the one, and of the other
pub record Likewise (l : ℕ) (b : Left) (es : List Entry) (rest : Left) : Type 0 where
  pub other : Left
  pub goes : left l b es ≡ Some other
  pub alike : Alike rest other

likewise_head : (l : ℕ) (a b : Left) (e : Entry) (es : List Entry) (rest : Left) (x y : Option Held) (t : Task) (ts : List Task) → looks (t ∷ ts) ≡ false
    → at_call b ≡ record { hand = y; tasks = t ∷ ts } → is_call (task_call x t) e ≡ true → Likewise l (then_left l y t ts e.reply) es rest → Likewise l b (e ∷ es) rest
likewise_head l a b e es rest x y t ts no_ q its w = record {
  other = w.other;
  goes = left_yes l b e es (ap (λ (z : Option Call). is_call z e) (next_at b y t ts q ∙ calls_alike x y t ts no_) ∙ its)
      ∙ ap (λ (z : Left). left l z es) (after_at l b e.reply y t ts q) ∙ w.goes;
  alike = w.alike;
}

likewise_then : (l : ℕ) (a b : Left) (e : Entry) (es : List Entry) (rest : Left)
    → ((c d : Left) → Alike c d → left l c es ≡ Some rest → Likewise l d es rest)
    → Alike (at_call a) (at_call b) → left l a (e ∷ es) ≡ Some rest → Heads l a e es rest → Likewise l b (e ∷ es) rest
likewise_then l a b e es rest more (same is) h heads = record { other = rest; goes = left_same l b a (e ∷ es) (sym is) ∙ h; alike = same refl }
likewise_then l a b e es rest more (unseen x y ts no_ p q) h heads =
    let is : record { hand = x; tasks = ts } ≡ record { hand = heads.hand; tasks = heads.task ∷ heads.tasks } = sym p ∙ heads.at in
    let tasks_ : ts ≡ heads.task ∷ heads.tasks = ap (λ (z : Left). z.tasks) is in
    let no : looks (heads.task ∷ heads.tasks) ≡ false = subst (λ (z : List Task). looks z ≡ false) tasks_ no_ in
    let its : at_call b ≡ record { hand = y; tasks = heads.task ∷ heads.tasks } = q ∙ ap (λ (z : List Task). record { hand = y; tasks = z }) tasks_ in
    likewise_head l a b e es rest heads.hand y heads.task heads.tasks no its heads.calls
    (more (then_left l heads.hand heads.task heads.tasks e.reply) (then_left l y heads.task heads.tasks e.reply) (then_alike l heads.hand y heads.task heads.tasks e no heads.calls) heads.goes)

pub likewise : (l : ℕ) (a b : Left) (es : List Entry) (rest : Left) → Alike a b → left l a es ≡ Some rest → Likewise l b es rest
likewise l a b [] rest it h =
    let is : at_call a ≡ rest = let its : Some (at_call a) ≡ Some rest = sym (left_nil l a) ∙ h in cc in
    record { other = at_call b; goes = left_nil l b; alike = subst (λ (z : Left). Alike z (at_call b)) is (at_alike a b it) }
likewise l a b (e ∷ es) rest it h = likewise_then l a b e es rest (λ c d i g. likewise l c d es rest i g) (at_alike a b it) h (left_heads l a e es rest h)

-- whatever is in hand
pub any_hand : (l : ℕ) (x y : Option Held) (us : List Task) (es : List Entry) (rest : Left) → looks us ≡ false → left l (record { hand = x; tasks = us }) es ≡ Some rest
    → Likewise l (record { hand = y; tasks = us }) es rest
any_hand l x y us es rest no_ h = likewise l (record { hand = x; tasks = us }) (record { hand = y; tasks = us }) es rest (unseen x y us no_ refl refl) h

-- so to the end
pub to_end : (l : ℕ) (x y : Option Held) (us : List Task) (es : List Entry) (hand : Option Held) → looks us ≡ false → left l (record { hand = x; tasks = us }) es ≡ Some (record { hand = hand; tasks = [] })
    → (other : Option Held) × (left l (record { hand = y; tasks = us }) es ≡ Some (record { hand = other; tasks = [] }))
to_end l x y us es hand no_ h =
    let w = any_hand l x y us es (record { hand = hand; tasks = [] }) no_ h in
    let none : w.other.tasks ≡ [] = alike_tasks (record { hand = hand; tasks = [] }) w.other w.alike in
    (w.other.hand, w.goes ∙ ap (λ (z : List Task). Some (record { hand = w.other.hand; tasks = z })) none)

-- ---- tasks to the end

pub tasks_append : TasksAppend
tasks_append l ts us a b no_ x y =
    let z = to_end l None x.hand us b y.hand no_ y.follows in
    record { hand = z.0; follows = tasks_join l (to_do ts) (record { hand = z.0; tasks = [] }) us x.hand a b x.follows z.1 }

append_nil_left : {A : Type 0} (xs ys : List A) → [] ≡ xs ++ ys → xs ≡ []
append_nil_left [] ys e = refl
append_nil_left (x ∷ xs) ys e = cc

parts_of : (l : ℕ) (ts us : List Task) (es : List Entry) (hand : Option Held) → looks us ≡ false → Split l (to_do ts) us es (record { hand = hand; tasks = [] }) → Parts l ts us es
parts_of l ts us es hand no_ (within here h some_ is) = absurd (some_ (append_nil_left here.tasks us (ap (λ (z : Left). z.tasks) is)))
parts_of l ts us es hand no_ (beyond first second x both h g) =
    let z = to_end l x None us second hand no_ g in
    record { first = first; second = second; both = both; firsts = record { hand = x; follows = h }; seconds = record { hand = z.0; follows = z.1 } }

pub tasks_split : TasksSplit
tasks_split l ts us es no_ x = parts_of l ts us es x.hand no_ (split l (to_do ts) us es (record { hand = x.hand; tasks = [] }) x.follows)

-- ---- tasks that are broken off

-- the same call is next
pub next_alike : (a b : Left) → Alike a b → next_call b ≡ next_call a
next_alike a b it = then_next (at_alike a b it)
  where
    then_next : Alike (at_call a) (at_call b) → next_call b ≡ next_call a
    then_next (same e) = next_same b a (sym e)
    then_next (unseen x y [] no_ p q) = next_over b y q ∙ sym (next_over a x p)
    then_next (unseen x y (t ∷ ts) no_ p q) = next_at b y t ts q ∙ calls_alike x y t ts no_ ∙ sym (next_at a x t ts p)

breaks_then : (l : ℕ) (ts us : List Task) (es : List Entry) (next : Call) (b : BreaksOff l (ts ++ us) es next) → looks us ≡ false → Split l (to_do ts) us es b.rest → BreaksAt l ts us es next
breaks_then l ts us es next b no_ (within here h some_ is) =
    early (record { rest = here; begins = h; more = sym (next_behind here us (left_stands l (to_do ts) es here h) some_) ∙ ap next_call (sym is) ∙ b.more })
breaks_then l ts us es next b no_ (beyond first second x both h g) =
    let w = any_hand l x None us second b.rest no_ g in
    late first second both (record { hand = x; follows = h }) (record { rest = w.other; begins = w.goes; more = next_alike b.rest w.other w.alike ∙ b.more })

pub breaks_split : TasksBreak
breaks_split l ts us es next no_ b = breaks_then l ts us es next b no_ (split l (to_do ts) us es b.rest b.begins)

-- ---- no tasks

pub follows_none : (l : ℕ) → Follows l [] []
follows_none l = record { hand = None; follows = left_nil l (to_do []) ∙ ap (λ (z : Left). Some z) (at_none None) }
