-- Tasks that leave what is in hand, and lines from what is in hand.
use Rattle.std.proofs.Common.{◌≡◌, ◌∙◌, sym, ap, subst, refl, ℕ, true, List, [], ◌∷◌, ◌++◌, map, Option, Some, None}
use Rattle.std.specs.Prelude.{⊤}
use Rattle.std.proofs.lemmas.List.{append-nil, append_assoc}
use Rattle.session_rules.specs.declared.call.Call.{Call}
use Rattle.session_rules.specs.declared.call.Call.TheVariants as call
use Rattle.session_rules.specs.declared.call.Entry.{Entry}
use Rattle.session_rules.specs.declared.reply.Reply.{Reply}
use Rattle.session_rules.specs.declared.line.Line.{Line}
use Rattle.session_rules.specs.declared.line.Line.TheVariants as line
use Rattle.session_rules.specs.Tasks.{Task, begin, does, shares, delivers, gives, finishes, returns, exhausts, Held, Left, Lists, listed, briefed, job, task_call, at_call, owing, gives_at, share_for, delivering, evaluating, returning, exhausting, leaves, hand_after, is_call, next_call, left, entry}
use Rattle.session_rules.specs.Courses.{to_do, lane_tasks, Follows, BreaksOff}
use Rattle.std.specs.Option.{option_map}
use Rattle.run_laws.specs.Following.{left_of, and_then}
use Rattle.run_laws.specs.Leaving.{Leaves}
use Rattle.run_laws.proofs.Alone.{same_self}
use Rattle.run_laws.proofs.Dropped.{drop_none, drop_some, drop_nil, at_again, at_none, next_at, next_over, next_same, next_some, after_at, left_nil, left_yes, left_first, left_same, left_dropped, left_stands}
use Rattle.run_laws.proofs.Splits.{entries_append, left_behind, next_behind}
use Rattle.lane_workers.specs.Doing.{Goes, Cuts, Passes}

-- ---- tasks that call, and neither look at what is in hand nor change it

abbrev pub QuietLine : Line → Type 0
QuietLine (line.Hold p id) = ⊥
QuietLine line.Give = ⊥
QuietLine other = ⊤

abbrev pub QuietTask : Task → Type 0
QuietTask begin = ⊥
QuietTask (does x) = QuietLine x
QuietTask other = ⊤

abbrev pub Quiet : List Task → Type 0
Quiet [] = ⊤
Quiet (t ∷ ts) = QuietTask t × Quiet ts

line_calls : (x y : Option Held) (a : Line) → QuietLine a → (c : Call) × (task_call x (does a) ≡ Some c) × (task_call y (does a) ≡ Some c)
line_calls x y (line.Join p) q = (call.Join p, refl, refl)
line_calls x y (line.Lose p) q = (call.Lose p, refl, refl)
line_calls x y (line.Send p) q = (call.Pending p, refl, refl)
line_calls x y (line.Hold p id) q = absurd q
line_calls x y line.Give q = absurd q
line_calls x y line.Work q = (call.Take, refl, refl)
line_calls x y line.Quit q = (call.Take, refl, refl)

quiet_calls : (x y : Option Held) (t : Task) → QuietTask t → (c : Call) × (task_call x t ≡ Some c) × (task_call y t ≡ Some c)
quiet_calls x y begin q = absurd q
quiet_calls x y (does a) q = line_calls x y a q
quiet_calls x y (shares p id) q = (call.Brief id, refl, refl)
quiet_calls x y (delivers share) q = (call.Deliver share.id share.party share.rows, refl, refl)
quiet_calls x y (gives c k) q = (call.Input c k, refl, refl)
quiet_calls x y (finishes c) q = (call.Finish c, refl, refl)
quiet_calls x y (returns c) q = (call.GiveBack c, refl, refl)
quiet_calls x y exhausts q = (call.Take, refl, refl)

line_stays : (l : ℕ) (x : Option Held) (a : Line) (r : Reply) → QuietLine a → hand_after l (does a) r x ≡ x
line_stays l x (line.Join p) r q = refl
line_stays l x (line.Lose p) r q = refl
line_stays l x (line.Send p) r q = refl
line_stays l x (line.Hold p id) r q = absurd q
line_stays l x line.Give r q = refl
line_stays l x line.Work r q = refl
line_stays l x line.Quit r q = refl

hand_stays : (l : ℕ) (x : Option Held) (t : Task) (r : Reply) → QuietTask t → hand_after l t r x ≡ x
hand_stays l x begin r q = refl
hand_stays l x (does a) r q = line_stays l x a r q
hand_stays l x (shares p id) r q = refl
hand_stays l x (delivers share) r q = refl
hand_stays l x (gives c k) r q = refl
hand_stays l x (finishes c) r q = refl
hand_stays l x (returns c) r q = refl
hand_stays l x exhausts r q = refl

-- what their replies leave is such again
quiet_shares : (p : ℕ) (ids : List ℕ) (ts : List Task) → Quiet ts → Quiet (map (shares p) ids ++ ts)
quiet_shares p [] ts q = q
quiet_shares p (id ∷ ids) ts q = (tt, quiet_shares p ids ts q)

quiet_gives : (places : List (ℕ × ℕ)) (ts : List Task) → Quiet ts → Quiet (map gives_at places ++ ts)
quiet_gives [] ts q = q
quiet_gives (x ∷ xs) ts q = (tt, quiet_gives xs ts q)

quiet_owing : (p : ℕ) (o : Option Lists) (ts : List Task) → Quiet ts → Quiet (owing p o ++ ts)
unfolding owing
quiet_owing p None ts q = q
quiet_owing p (Some owed) ts q =
    subst Quiet (sym (append_assoc (map (shares p) owed.ids) (map gives_at owed.inputs) ts)) (quiet_shares p owed.ids (map gives_at owed.inputs ++ ts) (quiet_gives owed.inputs ts q))

quiet_delivering : (o : Option Held) (ts : List Task) → Quiet ts → Quiet (delivering o ++ ts)
unfolding delivering
quiet_delivering None ts q = q
quiet_delivering (Some share) ts q = (tt, q)

quiet_evaluating : (o : Option ℕ) (ts : List Task) → Quiet ts → Quiet (evaluating o ++ ts)
unfolding evaluating
quiet_evaluating None ts q = q
quiet_evaluating (Some c) ts q = (tt, q)

quiet_returning : (o : Option ℕ) (ts : List Task) → Quiet ts → Quiet (returning o ++ ts)
unfolding returning
quiet_returning None ts q = q
quiet_returning (Some c) ts q = (tt, q)

quiet_exhausting : (o : Option ℕ) (ts : List Task) → Quiet ts → Quiet (exhausting o ++ ts)
unfolding exhausting
quiet_exhausting None ts q = q
quiet_exhausting (Some c) ts q = (tt, (tt, q))

quiet_line : (l : ℕ) (a : Line) (r : Reply) (ts : List Task) → Quiet ts → Quiet (leaves l (does a) r ++ ts)
quiet_line l (line.Join p) r ts q = q
quiet_line l (line.Lose p) r ts q = q
quiet_line l (line.Send p) r ts q = quiet_owing p (listed r) ts q
quiet_line l (line.Hold p id) r ts q = q
quiet_line l line.Give r ts q = q
quiet_line l line.Work r ts q = quiet_evaluating (job r) ts q
quiet_line l line.Quit r ts q = quiet_returning (job r) ts q

quiet_leaves : (l : ℕ) (t : Task) (r : Reply) (ts : List Task) → Quiet ts → Quiet (leaves l t r ++ ts)
quiet_leaves l begin r ts q = q
quiet_leaves l (does a) r ts q = quiet_line l a r ts q
quiet_leaves l (shares p id) r ts q = quiet_delivering (option_map (share_for l p id) (briefed r)) ts q
quiet_leaves l (delivers share) r ts q = q
quiet_leaves l (gives c k) r ts q = q
quiet_leaves l (finishes c) r ts q = q
quiet_leaves l (returns c) r ts q = q
quiet_leaves l exhausts r ts q = quiet_exhausting (job r) ts q

-- ---- so they go whatever is in hand

abbrev pub with_hand : Option Held → List Task → Left
with_hand x ts = record { hand = x; tasks = ts }

at_quiet : (x : Option Held) (us : List Task) → Quiet us → at_call (with_hand x us) ≡ with_hand x us
unfolding at_call
at_quiet x [] q = drop_nil x
at_quiet x (t ∷ ts) q = let c = quiet_calls x x t q.0 in drop_some x t ts c.0 c.1

next_quiet : (x y : Option Held) (us : List Task) → Quiet us → next_call (with_hand x us) ≡ next_call (with_hand y us)
next_quiet x y [] q = next_over (with_hand x []) x (at_quiet x [] q) ∙ sym (next_over (with_hand y []) y (at_quiet y [] q))
next_quiet x y (t ∷ ts) q =
    let c = quiet_calls x y t q.0 in
    next_at (with_hand x (t ∷ ts)) x t ts (at_quiet x (t ∷ ts) q) ∙ c.1 ∙ sym (next_at (with_hand y (t ∷ ts)) y t ts (at_quiet y (t ∷ ts) q) ∙ c.2)

record Kept (l : ℕ) (x : Option Held) (us : List Task) (es : List Entry) (rest : Left) : Type 0 where
  pub tasks : List Task
  pub is : rest ≡ with_hand None tasks
  pub quiet : Quiet tasks
  pub goes : left l (with_hand x us) es ≡ Some (with_hand x tasks)

kept_then : (l : ℕ) (x : Option Held) (t : Task) (ts : List Task) (e : Entry) (es : List Entry) (rest : Left) → Quiet (t ∷ ts) → left l (with_hand None (t ∷ ts)) (e ∷ es) ≡ Some rest
    → (left l (with_hand None (leaves l t e.reply ++ ts)) es ≡ Some rest → Kept l x (leaves l t e.reply ++ ts) es rest) → Kept l x (t ∷ ts) (e ∷ es) rest
kept_then l x t ts e es rest q h more =
    let none = with_hand None (t ∷ ts) in
    let some_ = with_hand x (t ∷ ts) in
    let r = e.reply in
    let first = left_first l none e es rest h in
    let goes : left l (with_hand None (leaves l t r ++ ts)) es ≡ Some rest =
    ap (λ (z : Option Held). left l (with_hand z (leaves l t r ++ ts)) es) (sym (hand_stays l None t r q.0))
    ∙ ap (λ (z : Left). left l z es) (sym (after_at l none r None t ts (at_quiet None (t ∷ ts) q))) ∙ first.goes in
    let k = more goes in
    record {
      tasks = k.tasks;
      is = k.is;
      quiet = k.quiet;
      goes = left_yes l some_ e es (ap (λ (z : Option Call). is_call z e) (next_quiet x None (t ∷ ts) q) ∙ first.calls)
          ∙ ap (λ (z : Left). left l z es) (after_at l some_ r x t ts (at_quiet x (t ∷ ts) q))
          ∙ ap (λ (z : Option Held). left l (with_hand z (leaves l t r ++ ts)) es) (hand_stays l x t r q.0) ∙ k.goes;
    }

kept : (l : ℕ) (x : Option Held) (us : List Task) (es : List Entry) (rest : Left) → Quiet us → left l (with_hand None us) es ≡ Some rest → Kept l x us es rest
kept l x us [] rest q h =
    let is : at_call (with_hand None us) ≡ rest = let its : Some (at_call (with_hand None us)) ≡ Some rest = sym (left_nil l (with_hand None us)) ∙ h in cc in
    record { tasks = us; is = sym is ∙ at_quiet None us q; quiet = q; goes = left_nil l (with_hand x us) ∙ ap Some (at_quiet x us q) }
kept l x [] (e ∷ es) rest q h =
    let first = left_first l (with_hand None []) e es rest h in
    let none : is_call None e ≡ true = subst (λ (z : Option Call). is_call z e ≡ true) (next_over (with_hand None []) None (at_quiet None [] q)) first.calls in cc
kept l x (t ∷ ts) (e ∷ es) rest q h = kept_then l x t ts e es rest q h (λ g. kept l x (leaves l t e.reply ++ ts) es rest (quiet_leaves l t e.reply ts q.1) g)

-- none is left
nothing : (l : ℕ) (x : Option Held) → left l (with_hand x []) [] ≡ Some (with_hand x [])
nothing l x = left_nil l (with_hand x []) ∙ ap Some (at_none x)

pub goes_quiet : (l : ℕ) (x : Option Held) (t : Task) (es : List Entry) → QuietTask t → Leaves l (t ∷ []) [] es → Goes l (with_hand x (t ∷ [])) (with_hand x []) es
goes_quiet l x t es q h =
    let k = kept l x (t ∷ []) es (with_hand None []) (q, tt) (h.leaves ∙ nothing l None) in
    let none : k.tasks ≡ [] = ap (λ (z : Left). z.tasks) (sym k.is) in
    record { goes = k.goes ∙ ap (λ (z : List Task). Some (with_hand x z)) none ∙ sym (nothing l x) }

pub cuts_quiet : (l : ℕ) (x : Option Held) (t : Task) (es : List Entry) (next : Call) → QuietTask t → BreaksOff l (t ∷ []) es next → Cuts l (with_hand x (t ∷ [])) es next
cuts_quiet l x t es next q h =
    let k = kept l x (t ∷ []) es h.rest (q, tt) h.begins in
    record { rest = with_hand x k.tasks; begins = k.goes; more = next_quiet x None k.tasks k.quiet ∙ ap next_call (sym k.is) ∙ h.more }

-- ---- a call

at_one : (x : Option Held) (t : Task) (c : Call) → task_call x t ≡ Some c → at_call (with_hand x (t ∷ [])) ≡ with_hand x (t ∷ [])
unfolding at_call
at_one x t c e = drop_some x t [] c e

pub one_goes : (l : ℕ) (x : Option Held) (t : Task) (c : Call) (r : Reply) → task_call x t ≡ Some c
    → Goes l (with_hand x (t ∷ [])) (with_hand (hand_after l t r x) (leaves l t r)) (entry 0 c r ∷ [])
one_goes l x t c r e = record {
  goes = left_yes l (with_hand x (t ∷ [])) (entry 0 c r) []
      (ap (λ (z : Option Call). is_call z (entry 0 c r)) (next_at (with_hand x (t ∷ [])) x t [] (at_one x t c e) ∙ e) ∙ same_self c)
      ∙ ap (λ (z : Left). left l z []) (after_at l (with_hand x (t ∷ [])) r x t [] (at_one x t c e))
      ∙ ap (λ (z : List Task). left l (with_hand (hand_after l t r x) z) []) (append-nil (leaves l t r));
}

pub first_cut : (l : ℕ) (x : Option Held) (t : Task) (c : Call) → task_call x t ≡ Some c → Cuts l (with_hand x (t ∷ [])) [] c
first_cut l x t c e = record {
  rest = with_hand x (t ∷ []);
  begins = left_nil l (with_hand x (t ∷ [])) ∙ ap Some (at_one x t c e);
  more = next_at (with_hand x (t ∷ [])) x t [] (at_one x t c e) ∙ e;
}

-- a task that calls nothing is passed over
pub none_goes : (l : ℕ) → Goes l (with_hand None (does line.Give ∷ [])) (with_hand None []) []
unfolding at_call
none_goes l = record { goes = left_same l (with_hand None (does line.Give ∷ [])) (with_hand None []) [] (drop_none None (does line.Give) [] refl) }

-- ---- one after the other

chain : (l : ℕ) (from mid : Left) (a b : List Entry) → left l from a ≡ left l mid [] → left l from (a ++ b) ≡ left l mid b
chain l from mid a b e = entries_append l from a b ∙ ap (λ (z : Option Left). left_of l z b) (e ∙ left_nil l mid) ∙ left_dropped l mid b

-- what is next with more behind it, where nothing is passed over
next_on : (l : ℕ) (from rest : Left) (us : List Task) (b : List Entry) (next : Call) → left l from b ≡ Some rest → next_call rest ≡ Some next → next_call (at_call (and_then rest us)) ≡ Some next
next_on l from rest us b next h e =
    let s = left_stands l from b rest h in
    next_same (at_call (and_then rest us)) (and_then rest us) (at_again (and_then rest us)) ∙ next_behind rest us s (next_some rest next s e) ∙ e

pub goes_more : (l : ℕ) (from : Left) (x y : Option Held) (t : Task) (rest : List Task) (a b : List Entry) → Goes l from (with_hand x (t ∷ rest)) a → Goes l (with_hand x (t ∷ [])) (with_hand y []) b
    → Goes l from (with_hand y rest) (a ++ b)
goes_more l from x y t rest a b h g = record {
  goes = chain l from (with_hand x (t ∷ rest)) a b h.goes
      ∙ left_behind l (with_hand x (t ∷ [])) (with_hand y []) rest b (g.goes ∙ nothing l y) ∙ sym (left_nil l (with_hand y rest));
}

pub cuts_more : (l : ℕ) (from : Left) (x : Option Held) (t : Task) (rest : List Task) (a b : List Entry) (next : Call) → Goes l from (with_hand x (t ∷ rest)) a → Cuts l (with_hand x (t ∷ [])) b next
    → Cuts l from (a ++ b) next
cuts_more l from x t rest a b next h g = record {
  rest = at_call (and_then g.rest rest);
  begins = chain l from (with_hand x (t ∷ rest)) a b h.goes ∙ left_behind l (with_hand x (t ∷ [])) g.rest rest b g.begins;
  more = next_on l (with_hand x (t ∷ [])) g.rest rest b next g.begins g.more;
}

-- ---- a lane begins with an empty hand

from_none : (x : Option Held) (ts : List Task) → at_call (with_hand x (begin ∷ ts)) ≡ at_call (with_hand None ts)
unfolding at_call
from_none x ts = drop_none x begin ts refl

pub lane_follows : (l : ℕ) (lane : List Line) (y : Option Held) (es : List Entry) → Goes l (to_do (map does lane)) (with_hand y []) es → Follows l (lane_tasks lane) es
lane_follows l lane y es h = record { hand = y; follows = left_same l (to_do (lane_tasks lane)) (to_do (map does lane)) es (from_none None (map does lane)) ∙ h.goes ∙ nothing l y }

pub lane_breaks : (l : ℕ) (lane : List Line) (es : List Entry) (next : Call) → Cuts l (to_do (map does lane)) es next → BreaksOff l (lane_tasks lane) es next
lane_breaks l lane es next h = record { rest = h.rest; begins = left_same l (to_do (lane_tasks lane)) (to_do (map does lane)) es (from_none None (map does lane)) ∙ h.begins; more = h.more }

-- whatever is in hand before it
lane_from : (l : ℕ) (ts : List Task) (x : Option Held) (lane : List Line) (rest : List Task) (a b : List Entry) → Goes l (to_do ts) (with_hand x (lane_tasks lane ++ rest)) a
    → left l (to_do ts) (a ++ b) ≡ left l (and_then (to_do (lane_tasks lane)) rest) b
lane_from l ts x lane rest a b h =
    let more = map does lane ++ rest in
    chain l (to_do ts) (with_hand x (begin ∷ more)) a b h.goes
    ∙ left_same l (with_hand x (begin ∷ more)) (with_hand None (begin ∷ more)) b (from_none x more ∙ sym (from_none None more))

pub passes_lane : (l : ℕ) (ts : List Task) (lane : List Line) (rest : List Task) (a b : List Entry) → Passes l ts (lane_tasks lane ++ rest) a → Follows l (lane_tasks lane) b → Passes l ts rest (a ++ b)
passes_lane l ts lane rest a b h g = record {
  hand = g.hand;
  goes = record {
    goes = lane_from l ts h.hand lane rest a b h.goes ∙ left_behind l (to_do (lane_tasks lane)) (with_hand g.hand []) rest b g.follows ∙ sym (left_nil l (with_hand g.hand rest));
  };
}

pub passes_breaks : (l : ℕ) (ts : List Task) (lane : List Line) (rest : List Task) (a b : List Entry) (next : Call) → Passes l ts (lane_tasks lane ++ rest) a → BreaksOff l (lane_tasks lane) b next
    → BreaksOff l ts (a ++ b) next
passes_breaks l ts lane rest a b next h g = record {
  rest = at_call (and_then g.rest rest);
  begins = lane_from l ts h.hand lane rest a b h.goes ∙ left_behind l (to_do (lane_tasks lane)) g.rest rest b g.begins;
  more = next_on l (to_do (lane_tasks lane)) g.rest rest b next g.begins g.more;
}

pub passes_all : (l : ℕ) (ts : List Task) (es : List Entry) → Passes l ts [] es → Follows l ts es
passes_all l ts es h = record { hand = h.hand; follows = h.goes.goes ∙ nothing l h.hand }
