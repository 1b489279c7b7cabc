-- How many calls a round of settling makes, and settling.
use Rattle.std.proofs.Common.{◌≡◌, ◌∙◌, sym, ap, subst, refl, ℕ, zero, suc, ◌+◌, ◌-◌, ◌*◌, ◌<◌, ◌≤◌, Bool, true, false, inl, inr, List, [], ◌∷◌, ◌++◌, length, map, filter, set, Option, Some, None, arith}
use Rattle.std.specs.List.{range_with_len}
use Rattle.std.proofs.Math.Nat.{add-mul}
use Rattle.std.proofs.lemmas.Bool.{both_ways, cases_lt}
use Rattle.std.proofs.lemmas.List.{get_or_past, get_or-set_same, length-append, append-nil}
use Rattle.share_spec.specs.Sets.{has, members, members_to}
use Rattle.session_rules.specs.declared.call.Call.{Call}
use Rattle.session_rules.specs.declared.call.Call.TheVariants as call
use Rattle.session_rules.specs.declared.call.Entry.{Entry}
use Rattle.session_rules.specs.declared.reply.Reply.{Reply}
use Rattle.session_rules.specs.declared.state.CircuitState.{CircuitState}
use Rattle.session_rules.specs.declared.state.CircuitState.TheVariants.{Taken, Evaluated, Answered}
use Rattle.session_rules.specs.declared.fixed.Fixed.{Fixed}
use Rattle.session_rules.specs.States.{State, circuit, is_idle}
use Rattle.session_rules.specs.Deeds.{with_circuit}
use Rattle.session_rules.specs.Steps.{step}
use Rattle.session_rules.specs.Histories.{after, state_after}
use Rattle.session_rules.specs.Tasks.{Task, finishes, exhausts, Held, Left, job, task_call, at_call, exhausting, leaves, hand_after, next_call, left}
use Rattle.session_rules.specs.Courses.{to_do, sends, is_settled, round_tasks, Settles, Unsettled}
use Rattle.session_rules.proofs.Contained.{contains_range}
use Rattle.session_rules.proofs.Weights.{passing_less, passing_all, range_length}
use Rattle.session_rules.proofs.Grounds.{KeptWell, after_grounds, state_grounds}
use Rattle.run_laws.specs.Lengths.{most_sent, most_round, most_of, is_exhaust, RoundsAreShort, RoundStopsAreShort, SettlingIsShort, UnsettledIsShort}
use Rattle.run_laws.proofs.Dropped.{drop_some, at_none, left_nil, Heads, left_heads, next_over}
use Rattle.run_laws.proofs.Splits.{Split, within, beyond, split}
use Rattle.run_laws.proofs.Without.{sends_none}
use Rattle.run_laws.proofs.Replies.{AreBy, own_all, all_own, by_first, by_second, Replied, replayed_replied, replied_first, replied_second}
use Rattle.run_laws.proofs.Alone.{some_call, its_call}
use Rattle.run_laws.proofs.Serial.{Rounds, Stopping}
use Rattle.run_laws.proofs.Turns.{quiet_before, set_before, TakesOne, none, one, takes_one}
use Rattle.run_laws.proofs.Counts.{most_nil, most_cons, IsBounded, few}

-- ---- circuits that are idle

abbrev idle_at : State → ℕ → Bool
idle_at s c = is_idle (circuit s.circuits c)

-- how many of the circuits are
abbrev many_idle : Fixed → State → ℕ
many_idle f s = length (filter (idle_at s) (range_with_len 0 (length f.plans)))

idle_few : (f : Fixed) (s : State) → many_idle f s ≤ length f.plans
idle_few f s = omega (arith, passing_all (idle_at s) (range_with_len 0 (length f.plans)), range_length 0 (length f.plans))

abbrev IsIdle : CircuitState → Type 0
IsIdle now = is_idle now ≡ true

not_answered : IsIdle Answered → ⊥
not_answered e = cc

not_evaluated : IsIdle Evaluated → ⊥
not_evaluated e = cc

passing_le : {X : Type 0} (a b : X → Bool) (xs : List X) → ((x : X) → a x ≡ true → b x ≡ true) → length (filter a xs) ≤ length (filter b xs)
passing_le a b [] h = omega arith
passing_le {X} a b (x ∷ xs) h = at (a x) (b x) refl refl (passing_le a b xs h)
  where
    at : (p q : Bool) → a x ≡ p → b x ≡ q → length (filter a xs) ≤ length (filter b xs) → length (filter a (x ∷ xs)) ≤ length (filter b (x ∷ xs))
    at true true e g l = rw (e, g) (omega arith)
    at true false e g l = absurd (both_ways (b x) g (h x e))
    at false true e g l = rw (e, g) (omega arith)
    at false false e g l = rw (e, g) l

-- a circuit that is finished was not idle; one that is taken was, and isn't
finish_idle : (f : Fixed) (who : ℕ) (s : State) (c : ℕ) → many_idle f (step f s who (call.Finish c)).1 ≤ many_idle f s
finish_idle f who s c =
    passing_le (idle_at (step f s who (call.Finish c)).1) (idle_at s) (range_with_len 0 (length f.plans)) (λ d e. quiet_before IsIdle not_answered not_evaluated f s who (call.Finish c) tt d e)

idle_there : (s : State) (c : ℕ) → idle_at s c ≡ true → c < length s.circuits
idle_there s c e = elim (cases_lt c (length s.circuits)) [
  | inl less ↦ less
  | inr more ↦ absurd (both_ways (idle_at s c) (ap is_idle (get_or_past s.circuits c Answered more)) e)
]

fewer_idle : (f : Fixed) (who : ℕ) (s : State) (c : ℕ) → idle_at s c ≡ true → c < length f.plans → many_idle f (with_circuit s c (Taken who)) + 1 ≤ many_idle f s
fewer_idle f who s c idle l =
    let now : circuit (set s.circuits c (Taken who)) c ≡ Taken who = get_or-set_same s.circuits c (Taken who) Answered (idle_there s c idle) in
    passing_less (idle_at (with_circuit s c (Taken who))) (idle_at s) (range_with_len 0 (length f.plans)) c
    (λ d e. set_before IsIdle not_answered not_evaluated s.circuits c (Taken who) (λ h. cc) d e)
    (contains_range 0 (length f.plans) c (omega arith) (omega arith)) (ap is_idle now) idle

-- ---- circuits are taken and evaluated until none is ready

-- what is left of it, and for how many calls
data Exhausting (f : Fixed) (s : State) (todo : Left) (n : ℕ) : Type 0 where
  no_more : (hand : Option Held) → todo ≡ record { hand = hand; tasks = [] } → Exhausting f s todo n
  takes : (hand : Option Held) → todo ≡ record { hand = hand; tasks = exhausts ∷ [] } → 2 * many_idle f s + 1 ≤ n → Exhausting f s todo n
  ends : (hand : Option Held) (c : ℕ) → todo ≡ record { hand = hand; tasks = finishes c ∷ exhausts ∷ [] } → 2 * many_idle f s + 2 ≤ n → Exhausting f s todo n

stays_at : (hand : Option Held) (t : Task) (ts : List Task) (c : Call) → task_call hand t ≡ Some c → at_call (record { hand = hand; tasks = t ∷ ts }) ≡ record { hand = hand; tasks = t ∷ ts }
unfolding at_call
stays_at hand t ts c e = drop_some hand t ts c e

exhausts_then : (f : Fixed) (who : ℕ) (s : State) (hand : Option Held) (n : ℕ) → 2 * many_idle f s + 1 ≤ n → TakesOne f who s
    → Exhausting f (step f s who call.Take).1 (record { hand = hand; tasks = exhausting (job (step f s who call.Take).0) ++ [] }) (n - 1)
unfolding exhausting
exhausts_then f who s hand n l (none j same) = no_more hand (ap (λ (z : Option ℕ). record { hand = hand; tasks = exhausting z ++ [] }) j)
exhausts_then f who s hand n l (one c idle within_ j same) =
    let less = fewer_idle f who s c idle within_ in
    ends hand c (ap (λ (z : Option ℕ). record { hand = hand; tasks = exhausting z ++ [] }) j)
    (subst (λ (z : State). 2 * many_idle f z + 2 ≤ n - 1) (sym same) (omega arith))

takes_next : (f : Fixed) (who caller : ℕ) (s : State) (hand : Option Held) (t : Task) (ts : List Task) (c : Call) (r : Reply) (n : ℕ) → t ≡ exhausts → ts ≡ [] → r ≡ (step f s caller c).0 → caller ≡ who → c ≡ call.Take
    → 2 * many_idle f s + 1 ≤ n → Exhausting f (step f s caller c).1 (record { hand = hand_after f.rows t r hand; tasks = leaves f.rows t r ++ ts }) (n - 1)
takes_next f who caller s hand t ts c r n task_ tasks_ said mine its l = rw (task_, tasks_, said, mine, its) (exhausts_then f who s hand n l (takes_one f who s))

ends_next : (f : Fixed) (who caller : ℕ) (s : State) (hand : Option Held) (t : Task) (ts : List Task) (c : Call) (r : Reply) (d n : ℕ) → t ≡ finishes d → ts ≡ exhausts ∷ [] → caller ≡ who → c ≡ call.Finish d
    → 2 * many_idle f s + 2 ≤ n → Exhausting f (step f s caller c).1 (record { hand = hand_after f.rows t r hand; tasks = leaves f.rows t r ++ ts }) (n - 1)
ends_next f who caller s hand t ts c r d n task_ tasks_ mine its l = rw (task_, tasks_, mine, its) (takes hand refl (let less = finish_idle f who s d in omega arith))

-- the tasks that are left at a call
at_tasks : (todo : Left) (hand h_hand : Option Held) (t h_task : Task) (ts h_tasks : List Task) (c : Call) → task_call hand t ≡ Some c → todo ≡ record { hand = hand; tasks = t ∷ ts }
    → at_call todo ≡ record { hand = h_hand; tasks = h_task ∷ h_tasks } → (h_task ≡ t) × (h_tasks ≡ ts)
at_tasks todo hand h_hand t h_task ts h_tasks c its is at =
    let both : at_call todo ≡ record { hand = hand; tasks = t ∷ ts } = ap at_call is ∙ stays_at hand t ts c its in
    let same_ : h_task ∷ h_tasks ≡ t ∷ ts = ap (λ (z : Left). z.tasks) (sym at ∙ both) in
    (cc, cc)

exhausting_next : (f : Fixed) (who : ℕ) (s : State) (todo rest : Left) (e : Entry) (es : List Entry) (n : ℕ) → e.caller ≡ who → e.reply ≡ (step f s e.caller e.call).0
    → (h : Heads f.rows todo e es rest) → Exhausting f s todo n
    → (1 ≤ n) × Exhausting f (step f s e.caller e.call).1 (record { hand = hand_after f.rows h.task e.reply h.hand; tasks = leaves f.rows h.task e.reply ++ h.tasks }) (n - 1)
exhausting_next f who s todo rest e es n mine said h (no_more hand is) =
    let none_ : [] ≡ h.task ∷ h.tasks = ap (λ (z : Left). z.tasks) (sym (ap at_call is ∙ at_none hand) ∙ h.at) in cc
exhausting_next f who s todo rest e es n mine said h (takes hand is l) =
    let at = at_tasks todo hand h.hand exhausts h.task [] h.tasks call.Take refl is h.at in
    let its : call.Take ≡ e.call = some_call call.Take e.call (ap (task_call h.hand) (sym at.0) ∙ its_call (task_call h.hand h.task) e h.calls) in
    (omega arith, takes_next f who e.caller s h.hand h.task h.tasks e.call e.reply n at.0 at.1 said mine (sym its) l)
exhausting_next f who s todo rest e es n mine said h (ends hand c is l) =
    let at = at_tasks todo hand h.hand (finishes c) h.task (exhausts ∷ []) h.tasks (call.Finish c) refl is h.at in
    let its : call.Finish c ≡ e.call = some_call (call.Finish c) e.call (ap (task_call h.hand) (sym at.0) ∙ its_call (task_call h.hand h.task) e h.calls) in
    (omega arith, ends_next f who e.caller s h.hand h.task h.tasks e.call e.reply c n at.0 at.1 mine (sym its) l)

-- so many calls at most, and one fewer where one is next
pub record Short (es : List Entry) (rest : Left) (n : ℕ) : Type 0 where
  pub all : length es ≤ n
  pub stopped : (next : Call) → next_call rest ≡ Some next → length es + 1 ≤ n

none_short : (f : Fixed) (s : State) (todo rest : Left) (n : ℕ) → at_call todo ≡ rest → Exhausting f s todo n → Short [] rest n
none_short f s todo rest n is (no_more hand none_) = record {
  all = omega arith;
  stopped = λ next e. let no : None ≡ Some next = sym (next_over rest hand (ap at_call (sym is ∙ ap at_call none_ ∙ at_none hand) ∙ at_none hand)) ∙ e in cc;
}
none_short f s todo rest n is (takes hand its l) = record { all = omega arith; stopped = λ next e. omega arith }
none_short f s todo rest n is (ends hand c its l) = record { all = omega arith; stopped = λ next e. omega arith }

exhausts_short : (f : Fixed) (who : ℕ) (s : State) (todo rest : Left) (es : List Entry) (n : ℕ) → AreBy who es → Replied f s es → Exhausting f s todo n → left f.rows todo es ≡ Some rest → Short es rest n
exhausts_short f who s todo rest [] n by replied x h =
    let is : at_call todo ≡ rest = let its : Some (at_call todo) ≡ Some rest = sym (left_nil f.rows todo) ∙ h in cc in
    none_short f s todo rest n is x
exhausts_short f who s todo rest (e ∷ es) n by replied x h =
    let heads = left_heads f.rows todo e es rest h in
    let next = exhausting_next f who s todo rest e es n by.0 replied.0 heads x in
    let later : Left = record { hand = hand_after f.rows heads.task e.reply heads.hand; tasks = leaves f.rows heads.task e.reply ++ heads.tasks } in
    let more = exhausts_short f who (step f s e.caller e.call).1 later rest es (n - 1) by.1 replied.1 next.1 heads.goes in
    let l = next.0 in
    record { all = let a = more.all in omega arith; stopped = λ c its. let a = more.stopped c its in omega arith }

-- ---- a round

few_members : (set : ℕ) → length (members set) ≤ 32
unfolding members members_to
few_members set = omega (arith, passing_all (has set) (range_with_len 1 32), range_length 1 32)

sends_most : (f : Fixed) (ps : List ℕ) → most_of f (map sends ps) ≡ length ps * most_sent f
sends_most f [] = omega (arith, most_nil f)
sends_most f (p ∷ ps) = omega (arith, most_cons f (sends p) (map sends ps), sends_most f ps)

times_less : (a b m : ℕ) → a ≤ b → a * m ≤ b * m
times_less a b m l = let e = add-mul a (b - a) m in let same : a + (b - a) ≡ b = omega arith in omega (arith, e, ap (λ (z : ℕ). z * m) same)

round_most : (f : Fixed) (n : ℕ) → n ≤ 32 → n * most_sent f + (2 * length f.plans + 1) ≤ most_round f
unfolding most_round
round_most f n l = omega (arith, times_less n 32 (most_sent f) l)

sent_few : (f : Fixed) (who : ℕ) (s : State) (ps : List ℕ) (rest : Left) (es : List Entry) → KeptWell f s → AreBy who es → Replied f s es → left f.rows (to_do (map sends ps)) es ≡ Some rest → length es ≤ length ps * most_sent f
sent_few f who s ps rest es g by replied h =
    let own_ = own_all who es by in
    let l = few f who s (to_do (map sends ps)) rest es g (subst IsBounded (append-nil (map sends ps)) (sends_none is_exhaust (λ l. refl) ps [] refl)) replied (ap (left f.rows (to_do (map sends ps))) own_ ∙ h) in
    omega (arith, l, ap length own_, sends_most f ps)

round_split : (f : Fixed) (who : ℕ) (s : State) (ps : List ℕ) (rest : Left) (es : List Entry) → length ps ≤ 32 → KeptWell f s → AreBy who es → Replied f s es
    → Split f.rows (to_do (map sends ps)) (exhausts ∷ []) es rest → Short es rest (most_round f)
round_split f who s ps rest es few_ g by replied (within here h some_ is) =
    let a = sent_few f who s ps here es g by replied h in
    let b = round_most f (length ps) few_ in
    record { all = omega arith; stopped = λ next e. omega arith }
round_split f who s ps rest es few_ g by replied (beyond first second hand both h more) =
    let by_ : AreBy who (first ++ second) = subst (AreBy who) both by in
    let replied_ : Replied f s (first ++ second) = subst (Replied f s) both replied in
    let lengths : length es ≡ length first + length second = ap length both ∙ length-append first second in
    let a = sent_few f who s ps (record { hand = hand; tasks = [] }) first g (by_first who first second by_) (replied_first f s first second replied_) h in
    let b = round_most f (length ps) few_ in
    let t = after f s first in
    let x : Exhausting f t (record { hand = hand; tasks = exhausts ∷ [] }) (2 * length f.plans + 1) = takes hand refl (let l = idle_few f t in omega arith) in
    let c = exhausts_short f who t (record { hand = hand; tasks = exhausts ∷ [] }) rest second (2 * length f.plans + 1) (by_second who first second by_) (replied_second f s first second replied_) x more in
    record { all = let l = c.all in omega arith; stopped = λ next e. let l = c.stopped next e in omega arith }

pub round_short : (f : Fixed) (who : ℕ) (s of : State) (rest : Left) (es : List Entry) → KeptWell f s → AreBy who es → Replied f s es → left f.rows (to_do (round_tasks of)) es ≡ Some rest → Short es rest (most_round f)
unfolding round_tasks
round_short f who s of rest es g by replied h =
    round_split f who s (members of.present) rest es (few_members of.present) g by replied (split f.rows (to_do (map sends (members of.present))) (exhausts ∷ []) es rest h)

-- ---- settling

settling_then : (n : ℕ) (f : Fixed) (who : ℕ) (s : State) (es : List Entry) → KeptWell f s → AreBy who es → Replied f s es
    → ((t : State) (more : List Entry) → KeptWell f t → AreBy who more → Replied f t more → Settles n f who t more → length more ≤ n * most_round f)
    → (b : Bool) → Rounds n f who s b es → length es ≤ suc n * most_round f
settling_then n f who s es g by replied more true h = omega (arith, ap length h)
settling_then n f who s es g by replied more false h =
    let here = h.0 in
    let rest = h.1 in
    let by_ : AreBy who (here ++ rest) = subst (AreBy who) h.2 by in
    let replied_ : Replied f s (here ++ rest) = subst (Replied f s) h.2 replied in
    let lengths : length es ≡ length here + length rest = ap length h.2 ∙ length-append here rest in
    let first = (round_short f who s s (record { hand = h.3.hand; tasks = [] }) here g (by_first who here rest by_) (replied_first f s here rest replied_) h.3.follows).all in
    let second = more (after f s here) rest (after_grounds f s here g) (by_second who here rest by_) (replied_second f s here rest replied_) h.4 in
    omega arith

pub settling_few : (n : ℕ) (f : Fixed) (who : ℕ) (s : State) (es : List Entry) → KeptWell f s → AreBy who es → Replied f s es → Settles n f who s es → length es ≤ n * most_round f
settling_few zero f who s es g by replied h = omega (arith, ap length h)
settling_few (suc n) f who s es g by replied h = settling_then n f who s es g by replied (settling_few n f who) (is_settled s) h

stopping_then : (n : ℕ) (f : Fixed) (who : ℕ) (s : State) (es : List Entry) (next : Call) → KeptWell f s → AreBy who es → Replied f s es
    → ((t : State) (more : List Entry) → KeptWell f t → AreBy who more → Replied f t more → Unsettled n f who t more next → length more + 1 ≤ n * most_round f)
    → (b : Bool) → Stopping n f who s b es next → length es + 1 ≤ suc n * most_round f
stopping_then n f who s es next g by replied more true h = absurd h
stopping_then n f who s es next g by replied more false (inl b) =
    let l = (round_short f who s s b.rest es g by replied b.begins).stopped next b.more in omega arith
stopping_then n f who s es next g by replied more false (inr h) =
    let here = h.0 in
    let rest = h.1 in
    let by_ : AreBy who (here ++ rest) = subst (AreBy who) h.2 by in
    let replied_ : Replied f s (here ++ rest) = subst (Replied f s) h.2 replied in
    let lengths : length es ≡ length here + length rest = ap length h.2 ∙ length-append here rest in
    let first = (round_short f who s s (record { hand = h.3.hand; tasks = [] }) here g (by_first who here rest by_) (replied_first f s here rest replied_) h.3.follows).all in
    let second = more (after f s here) rest (after_grounds f s here g) (by_second who here rest by_) (replied_second f s here rest replied_) h.4 in
    omega arith

pub unsettled_few : (n : ℕ) (f : Fixed) (who : ℕ) (s : State) (es : List Entry) (next : Call) → KeptWell f s → AreBy who es → Replied f s es → Unsettled n f who s es next → length es + 1 ≤ n * most_round f
unsettled_few zero f who s es next g by replied h = absurd h
unsettled_few (suc n) f who s es next g by replied h = stopping_then n f who s es next g by replied (λ t more k b r u. unsettled_few n f who t more next k b r u) (is_settled s) h

-- ---- as laws

pub rounds_are_short : RoundsAreShort
rounds_are_short f who base es s a h =
    let t = state_after f base in
    (round_short f who t s (record { hand = h.hand; tasks = [] }) es (state_grounds f base a.whole) (all_own who es a.alone) (replayed_replied f t es a.legal) h.follows).all

pub round_stops_are_short : RoundStopsAreShort
round_stops_are_short f who base es s next a h =
    let t = state_after f base in
    (round_short f who t s h.rest es (state_grounds f base a.whole) (all_own who es a.alone) (replayed_replied f t es a.legal) h.begins).stopped next h.more

pub settling_is_short : SettlingIsShort
settling_is_short n f who base es a h =
    let t = state_after f base in settling_few n f who t es (state_grounds f base a.whole) (all_own who es a.alone) (replayed_replied f t es a.legal) h

pub unsettled_is_short : UnsettledIsShort
unsettled_is_short n f who base es next a h =
    let t = state_after f base in unsettled_few n f who t es next (state_grounds f base a.whole) (all_own who es a.alone) (replayed_replied f t es a.legal) h
