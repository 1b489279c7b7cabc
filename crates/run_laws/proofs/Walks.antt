-- The calls that do the tasks of settling, one after the other: each of these begins with a call, whatever
-- is in hand.
use Rattle.std.proofs.Common.{◌≡◌, ◌∙◌, sym, ap, subst, refl, ℕ, zero, suc, true, inl, inr, List, [], ◌∷◌, ◌++◌, length, map, Contains, Option, Some, None, append_assoc}
use Rattle.std.specs.Prelude.{⊤}
use Rattle.std.proofs.lemmas.List.Elements.{Contains-append_right}
use Rattle.std.proofs.lemmas.Option.{same_Some}
use Rattle.session_rules.specs.declared.call.Call.{Call}
use Rattle.session_rules.specs.declared.call.Call.TheVariants as call
use Rattle.session_rules.specs.declared.call.Entry.{Entry}
use Rattle.session_rules.specs.declared.reply.Reply.{Reply}
use Rattle.session_rules.specs.declared.line.Line.{Line}
use Rattle.session_rules.specs.declared.line.Line.TheVariants as line
use Rattle.session_rules.specs.declared.fixed.Fixed.{Fixed}
use Rattle.session_rules.specs.States.{State}
use Rattle.session_rules.specs.Steps.{step}
use Rattle.session_rules.specs.Histories.{after}
use Rattle.session_rules.specs.Tasks.{Held, Lists, Task, begin, does, shares, delivers, gives, finishes, returns, exhausts, Left, delivery, gives_at, task_call, at_call, owing, delivering, exhausting, leaves, hand_after, next_call, left, is_call}
use Rattle.session_rules.proofs.Contained.{contains_nil, contains_cases}
use Rattle.run_laws.proofs.Dropped.{drop_some, at_none, next_at, next_over, after_at, left_nil, left_first}
use Rattle.run_laws.proofs.Replies.{AreBy, Replied}
use Rattle.run_laws.proofs.Alone.{its_call}

-- ---- which tasks

abbrev LineSettles : Line → Type 0
LineSettles (line.Send p) = ⊤
LineSettles other = ⊥

-- a task of settling; whether circuits are taken and finished is said by `Works`
abbrev pub Settles : Type 0 → Task → Type 0
Settles Works (does l) = LineSettles l
Settles Works begin = ⊥
Settles Works (returns c) = ⊥
Settles Works (finishes c) = Works
Settles Works exhausts = Works
Settles Works other = ⊤

-- the call with which it begins
abbrev line_asks : Line → Call
line_asks (line.Send p) = call.Pending p
line_asks other = call.Take

abbrev pub asks : Task → Call
asks (does l) = line_asks l
asks begin = call.Take
asks (shares p id) = call.Brief id
asks (delivers share) = delivery share
asks (gives c k) = call.Input c k
asks (finishes c) = call.Finish c
asks (returns c) = call.GiveBack c
asks exhausts = call.Take

asked : (Works : Type 0) (hand : Option Held) (x : Task) → Settles Works x → task_call hand x ≡ Some (asks x)
asked W hand (does (line.Send p)) h = refl
asked W hand (shares p id) h = refl
asked W hand (delivers share) h = refl
asked W hand (gives c k) h = refl
asked W hand (finishes c) h = refl
asked W hand exhausts h = refl
asked W hand other h = absurd h

abbrev pub AllSettle : Type 0 → List Task → Type 0
AllSettle Works [] = ⊤
AllSettle Works (x ∷ xs) = Settles Works x × AllSettle Works xs

-- what its replies leave is such too
pub all_map : {X : Type 0} (W : Type 0) (g : X → Task) (xs : List X) → ((x : X) → Settles W (g x)) → AllSettle W (map g xs)
all_map W g [] h = tt
all_map W g (x ∷ xs) h = (h x, all_map W g xs h)

pub all_append : (W : Type 0) (xs ys : List Task) → AllSettle W xs → AllSettle W ys → AllSettle W (xs ++ ys)
all_append W [] ys a b = b
all_append W (x ∷ xs) ys a b = (a.0, all_append W xs ys a.1 b)

owing_settles : (W : Type 0) (p : ℕ) (o : Option Lists) → AllSettle W (owing p o)
unfolding owing
owing_settles W p None = tt
owing_settles W p (Some owed) = all_append W _ _ (all_map W (shares p) owed.ids (λ id. tt)) (all_map W gives_at owed.inputs (λ place. tt))

delivering_settles : (W : Type 0) (o : Option Held) → AllSettle W (delivering o)
unfolding delivering
delivering_settles W None = tt
delivering_settles W (Some share) = (tt, tt)

exhausting_settles : (W : Type 0) (o : Option ℕ) → W → AllSettle W (exhausting o)
unfolding exhausting
exhausting_settles W None h = tt
exhausting_settles W (Some c) h = (h, (h, tt))

leaves_settle : (W : Type 0) (l : ℕ) (x : Task) (r : Reply) → Settles W x → AllSettle W (leaves l x r)
leaves_settle W l (does (line.Send p)) r h = owing_settles W p _
leaves_settle W l (shares p id) r h = delivering_settles W _
leaves_settle W l (delivers share) r h = tt
leaves_settle W l (gives c k) r h = tt
leaves_settle W l (finishes c) r h = tt
leaves_settle W l exhausts r h = exhausting_settles W _ h
leaves_settle W l other r h = absurd h

-- ---- calls

-- n calls of one caller alone, each answered by the rules, do some tasks, and lead from one state to another
abbrev pub Leads : Fixed → ℕ → ℕ → State → List Task → State → Type 0
Leads f who zero s ts t = (ts ≡ []) × (t ≡ s)
Leads f who (suc n) s [] t = ⊥
Leads f who (suc n) s (x ∷ ts) t = Leads f who n (step f s who (asks x)).1 (leaves f.rows x (step f s who (asks x)).0 ++ ts) t

-- with tasks behind others, they lead over a state between
pub record Between (f : Fixed) (who : ℕ) (s : State) (ts us : List Task) (t : State) : Type 0 where
  pub here : ℕ
  pub more : ℕ
  pub between : State
  pub first : Leads f who here s ts between
  pub second : Leads f who more between us t

pub leads_between : (f : Fixed) (who n : ℕ) (s : State) (ts us : List Task) (t : State) → Leads f who n s (ts ++ us) t → Between f who s ts us t
leads_between f who n s [] us t h = record { here = 0; more = n; between = s; first = (refl, refl); second = h }
leads_between f who zero s (x ∷ ts) us t h = let none : x ∷ ts ++ us ≡ [] = h.0 in cc
leads_between f who (suc n) s (x ∷ ts) us t h =
    let r = (step f s who (asks x)).0 in
    let u = (step f s who (asks x)).1 in
    let b = leads_between f who n u (leaves f.rows x r ++ ts) us t (subst (λ (z : List Task). Leads f who n u z t) (sym (append_assoc (leaves f.rows x r) ts us)) h) in
    record { here = suc b.here; more = b.more; between = b.between; first = b.first; second = b.second }

-- the first of them
pub leads_first : (f : Fixed) (who n : ℕ) (s : State) (x : Task) (ts : List Task) (t : State) → Leads f who n s (x ∷ ts) t
    → (m : ℕ) × Leads f who m (step f s who (asks x)).1 (leaves f.rows x (step f s who (asks x)).0 ++ ts) t
leads_first f who zero s x ts t h = let none : x ∷ ts ≡ [] = h.0 in cc
leads_first f who (suc n) s x ts t h = (n, h)

-- what every call keeps is kept
pub leads_keep : (f : Fixed) (who : ℕ) (P : State → Type 0) → ((s : State) (c : Call) → P s → P (step f s who c).1) → (n : ℕ) (s : State) (ts : List Task) (t : State) → Leads f who n s ts t → P s → P t
leads_keep f who P one zero s ts t h k = subst P (sym h.1) k
leads_keep f who P one (suc n) s [] t h k = absurd h
leads_keep f who P one (suc n) s (x ∷ ts) t h k = leads_keep f who P one n _ _ t h (one s (asks x) k)

-- what the calls of such tasks keep is kept, also up to each of them
module _ (f : Fixed) (who : ℕ) (W : Type 0) (P : State → Type 0) (one : (s : State) (x : Task) → Settles W x → P s → P (step f s who (asks x)).1) where
  pub tasks_keep : (n : ℕ) (s : State) (ts : List Task) (t : State) → Leads f who n s ts t → AllSettle W ts → P s → P t
  tasks_keep zero s ts t h all k = subst P (sym h.1) k
  tasks_keep (suc n) s [] t h all k = absurd h
  tasks_keep (suc n) s (x ∷ ts) t h all k = tasks_keep n _ _ t h (all_append W _ ts (leaves_settle W f.rows x _ all.0) all.1) (one s x all.0 k)

  pub record Arrives (x : Task) (t : State) : Type 0 where
    pub calls : ℕ
    pub at : State
    pub behind : List Task
    pub leads : Leads f who calls at (x ∷ behind) t
    pub all : AllSettle W (x ∷ behind)
    pub kept : P at

  pub arrives : (n : ℕ) (s : State) (ts : List Task) (t : State) (x : Task) → Leads f who n s ts t → AllSettle W ts → Contains ts x → P s → Arrives x t
  arrives n s [] t x h all m k = absurd (contains_nil x m)
  arrives zero s (y ∷ ts) t x h all m k = let none : y ∷ ts ≡ [] = h.0 in cc
  arrives (suc n) s (y ∷ ts) t x h all m k = elim (contains_cases y ts x m) [
    | inl here ↦ record { calls = suc n; at = s; behind = ts; leads = subst (λ (z : Task). Leads f who (suc n) s (z ∷ ts) t) here h; all = subst (λ (z : Task). AllSettle W (z ∷ ts)) here all; kept = k }
    | inr more ↦
        let r = (step f s who (asks y)).0 in
        arrives n _ (leaves f.rows y r ++ ts) t x h (all_append W _ ts (leaves_settle W f.rows y r all.0) all.1) (Contains-append_right (leaves f.rows y r) ts x more) (one s y all.0 k)
  ]

-- ---- from entries

-- the first task calls
at_first : (W : Type 0) (hand : Option Held) (x : Task) (xs : List Task) → Settles W x → at_call (record { hand = hand; tasks = x ∷ xs }) ≡ record { hand = hand; tasks = x ∷ xs }
unfolding at_call
at_first W hand x xs h = drop_some hand x xs (asks x) (asked W hand x h)

-- entries of one caller alone that do such tasks, and have the replies that they have to have
pub leads_from : (W : Type 0) (f : Fixed) (who : ℕ) (es : List Entry) (s : State) (hand : Option Held) (ts : List Task) (r : Left) → AllSettle W ts → AreBy who es → Replied f s es
    → left f.rows (record { hand = hand; tasks = ts }) es ≡ Some r → r.tasks ≡ [] → Leads f who (length es) s ts (after f s es)
unfolding after
leads_from W f who [] s hand [] r all by replied e over = (refl, refl)
leads_from W f who [] s hand (x ∷ xs) r all by replied e over =
    let same : record { hand = hand; tasks = x ∷ xs } ≡ r = same_Some _ _ (ap Some (sym (at_first W hand x xs all.0)) ∙ sym (left_nil f.rows (record { hand = hand; tasks = x ∷ xs })) ∙ e) in
    let none : x ∷ xs ≡ [] = ap (λ (z : Left). z.tasks) same ∙ over in cc
leads_from W f who (e ∷ es) s hand [] r all by replied is over =
    let todo : Left = record { hand = hand; tasks = [] } in
    let none : is_call None e ≡ true = subst (λ (z : Option Call). is_call z e ≡ true) (next_over todo hand (at_none hand)) (left_first f.rows todo e es r is).calls in cc
leads_from W f who (e ∷ es) s hand (x ∷ xs) r all by replied is over =
    let todo : Left = record { hand = hand; tasks = x ∷ xs } in
    let first = left_first f.rows todo e es r is in
    let at = at_first W hand x xs all.0 in
    let its : asks x ≡ e.call = same_Some _ _ (sym (asked W hand x all.0) ∙ sym (next_at todo hand x xs at) ∙ its_call (next_call todo) e first.calls) in
    let now : step f s e.caller e.call ≡ step f s who (asks x) = rw (by.0, its) refl in
    let u = (step f s e.caller e.call).1 in
    let left_ = leaves f.rows x e.reply in
    let on = leads_from W f who es u (hand_after f.rows x e.reply hand) (left_ ++ xs) r (all_append W left_ xs (leaves_settle W f.rows x e.reply all.0) all.1) by.1 replied.1
    (ap (λ (z : Left). left f.rows z es) (sym (after_at f.rows todo e.reply hand x xs at)) ∙ first.goes) over in
    subst (λ (z : Reply × State). Leads f who (length es) z.1 (leaves f.rows x z.0 ++ xs) (after f u es)) now
    (subst (λ (z : Reply). Leads f who (length es) u (leaves f.rows x z ++ xs) (after f u es)) replied.0 on)
