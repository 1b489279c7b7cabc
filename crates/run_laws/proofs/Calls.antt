-- What single calls answer, and what they do.
use Rattle.std.proofs.Common.{◌≡◌, ◌∙◌, sym, ap, subst, refl, ℕ, ◌<◌, Bool, true, false, inl, inr, List, [], length, get_or, set, slice_index_or, Option, Some, None, arith}
use Rattle.std.specs.Prelude.{if◌then◌else◌, nat_lt, ⊤}
use Rattle.std.proofs.lemmas.Bool.{cases_lt, and_parts, eq-eqb, ltb-true}
use Rattle.std.proofs.lemmas.List.{get_or-set_same, get_or_past}
use Rattle.share_spec.specs.Sets.{has}
use Rattle.proto_names.specs.Names.{rows_of}
use Rattle.proto_names.specs.Instances.{instance, owed_shares}
use Rattle.proto_names.specs.declared.signature.Signature.TheVariants.{Pk}
use Rattle.proto_names.specs.declared.instance.Instance.{Instance}
use Rattle.proto_names.specs.declared.instance.Stage.TheVariants.{Opened}
use Rattle.session_rules.specs.declared.call.Call.{Call}
use Rattle.session_rules.specs.declared.call.Call.TheVariants as call
use Rattle.session_rules.specs.declared.reply.Reply.{Reply}
use Rattle.session_rules.specs.declared.reply.Reply.TheVariants as reply
use Rattle.session_rules.specs.declared.deed.Deed.{Deed}
use Rattle.session_rules.specs.declared.deed.Deed.TheVariants as deed
use Rattle.session_rules.specs.declared.deed.Verdict.{Verdict}
use Rattle.session_rules.specs.declared.line.Line.TheVariants as line
use Rattle.session_rules.specs.declared.state.CircuitState.TheVariants.{Refused, Idle, Taken, Evaluated, Answered}
use Rattle.session_rules.specs.declared.fixed.Fixed.{Fixed}
use Rattle.session_rules.specs.States.{State, circuit, plan, is_taken_by, is_given, is_admitted, has_done}
use Rattle.session_rules.specs.Issues.{issue}
use Rattle.session_rules.specs.Deeds.{is_last, with_circuit, changed, done}
use Rattle.session_rules.specs.Steps.{says, does as done_with, owed_inputs, pending, told, brief, input, is_input, ready, next_ready, take, finish, judge, step}
use Rattle.session_rules.specs.Tasks.{Task, does, shares, delivers, gives, finishes, exhausts, listed, briefed, job}
use Rattle.session_rules.specs.Facts.{Kept, TakesPart}
use Rattle.session_rules.specs.Allowed.{Allows}
use Rattle.session_rules.specs.Grounds.{Grounded}
use Rattle.session_rules.proofs.Deliveries.{shares_are_wanted}
use Rattle.session_rules.proofs.Judged.{judged}
use Rattle.session_rules.proofs.Keeps.{Waits, waits}
use Rattle.session_rules.proofs.Readiness.{found_ready}
use Rattle.session_rules.proofs.Stepwise.{done_beside}
use Rattle.run_laws.proofs.Walks.{Settles, asks}

-- ---- what is pending, and what an instance is

pub pending_stays : (f : Fixed) (s : State) (who p : ℕ) → (step f s who (call.Pending p)).1 ≡ s
unfolding step judge done changed
pending_stays f s who p = refl

pub lists : (f : Fixed) (s : State) (who p : ℕ) → has s.present p ≡ true
    → listed (step f s who (call.Pending p)).0 ≡ Some (record { ids = owed_shares p s.instances; inputs = owed_inputs f s p })
unfolding step judge pending
lists f s who p h = let same_ : pending f s p ≡ reply.List (owed_shares p s.instances) (owed_inputs f s p) = rw (h, pending) refl in ap listed same_

pub brief_stays : (f : Fixed) (s : State) (who id : ℕ) → (step f s who (call.Brief id)).1 ≡ s
unfolding step judge done changed
brief_stays f s who id = refl

pub briefs : (f : Fixed) (s : State) (who : ℕ) (i : Instance) → instance s.instances i.id ≡ Some i → i.stage ≡ Opened → briefed (step f s who (call.Brief i.id)).0 ≡ Some i.signature
unfolding step judge brief told
briefs f s who i found opened = rw (found, brief) (rw (opened, told) refl)

-- ---- what those do that send

-- a share is counted; where it is the last one, instances are issued
pub data Counts (f : Fixed) (s : State) (p : ℕ) (i : Instance) (t : State) : Type 0 where
  counts : t ≡ changed (deed.Counts i p) s → Counts f s p i t
  completes : t ≡ issue f (changed (deed.Counts i p) s) → Counts f s p i t

-- whose an input is
abbrev pub owner : Fixed → ℕ → ℕ → ℕ
owner f c k = slice_index_or (plan f c).owners k 0

pub data Sends (f : Fixed) (s t : State) : Type 0 where
  stays : t ≡ s → Sends f s t
  gives_share : (i : Instance) (p : ℕ) → Waits s i p → Counts f s p i t → Sends f s t
  gives_input : (c k : ℕ) → is_input f c k ≡ true → has_done Pk s.instances ≡ true → has s.present (owner f c k) ≡ true → t ≡ changed (deed.Gives c k) s → Sends f s t

-- the calls of those who send
abbrev pub Sending : Call → Type 0
Sending (call.Pending p) = ⊤
Sending (call.Brief id) = ⊤
Sending (call.Deliver id p rows) = ⊤
Sending (call.Input c k) = ⊤
Sending _ = ⊥

counted_does : (f : Fixed) (s : State) (p : ℕ) (i : Instance) → Counts f s p i (done f (deed.Counts i p) s)
unfolding done
counted_does f s p i = at (is_last p i)
  where
    at : (b : Bool) → Counts f s p i (if b then issue f (changed (deed.Counts i p) s) else changed (deed.Counts i p) s)
    at true = completes refl
    at false = counts refl

deed_does : (f : Fixed) (s : State) (who : ℕ) (c : Call) (r : Reply) (d : Deed) → Kept f s → Sending c → Allows f s who c r d → Sends f s (done f d s)
unfolding done changed
deed_does f s who c r deed.Nothing k n a = stays refl
deed_does f s who c r (deed.Joins p) k n a = absurd (subst Sending a.call n)
deed_does f s who c r (deed.Loses p) k n a = absurd (subst Sending a.call n)
deed_does f s who c r (deed.Counts i p) k n a = gives_share i p (waits f s c r i p k a) (counted_does f s p i)
deed_does f s who c r (deed.Gives d j) k n a = gives_input d j a.input a.key a.owner refl
deed_does f s who c r (deed.Turns d (Refused place bound limit)) k n a = absurd a
deed_does f s who c r (deed.Turns d Idle) k n a = absurd (subst Sending a.call n)
deed_does f s who c r (deed.Turns d (Taken other)) k n a = absurd (subst Sending a.call n)
deed_does f s who c r (deed.Turns d Evaluated) k n a = absurd (subst Sending a.call n)
deed_does f s who c r (deed.Turns d Answered) k n a = absurd a

pub sending_does : (f : Fixed) (s : State) (who : ℕ) (c : Call) → Kept f s → Sending c → Sends f s (step f s who c).1
unfolding step
sending_does f s who c k n = deed_does f s who c (judge f s who c).reply (judge f s who c).deed k n (judged f s who c)

-- a share that is wanted is counted
pub share_counts : (f : Fixed) (s : State) (who id p : ℕ) (i : Instance) → Kept f s → TakesPart s id p i → has i.sent.bits p ≡ false → Counts f s p i (step f s who (call.Deliver id p (rows_of i.signature f.rows))).1
unfolding step judge
share_counts f s who id p i k part unsent =
    subst (λ (z : Verdict). Counts f s p i (done f z.deed s)) (sym (shares_are_wanted f s id p i k part unsent).1) (counted_does f s p i)

-- ---- an input

pub input_place : (f : Fixed) (c k : ℕ) → is_input f c k ≡ true → (is_admitted (plan f c) ≡ true) × (k < length (plan f c).owners)
unfolding is_input
input_place f c k e = let both = and_parts (is_admitted (plan f c)) (nat_lt k (length (plan f c).owners)) e in (both.0, ltb-true k (length (plan f c).owners) both.1)

now_given : (f : Fixed) (s : State) (c k : ℕ) → Grounded f s → k < length (plan f c).owners → is_given (changed (deed.Gives c k) s) c k ≡ true
unfolding changed
now_given f s c k g l =
    let row = get_or s.given c [] in
    let long = g.rows c in
    elim (cases_lt c (length s.given)) [
      | inl less ↦ ap (λ (z : List Bool). get_or z k false) (get_or-set_same s.given c (set row k true) [] less) ∙ get_or-set_same row k true false (omega arith)
      | inr more ↦ let e : length row ≡ 0 = ap length (get_or_past s.given c [] more) in absurd (omega arith)
    ]

input_is : (f : Fixed) (s : State) (c k : ℕ) → is_input f c k ≡ true → has_done Pk s.instances ≡ true → has s.present (owner f c k) ≡ true
    → input f s c k ≡ (if is_given s c k then says reply.Repeat else done_with reply.Given (deed.Gives c k))
unfolding input
input_is f s c k its done there = rw (its, input) (rw (done, input) (rw (there, input) refl))

-- one that may be given is given then
pub input_gives : (f : Fixed) (s : State) (who c k : ℕ) → Grounded f s → is_input f c k ≡ true → has_done Pk s.instances ≡ true → has s.present (owner f c k) ≡ true
    → is_given (step f s who (call.Input c k)).1 c k ≡ true
unfolding step judge done changed
input_gives f s who c k g its key there =
    subst (λ (z : Verdict). is_given (done f z.deed s) c k ≡ true) (sym (input_is f s c k its key there)) (at (is_given s c k) refl)
  where
    at : (b : Bool) → is_given s c k ≡ b → is_given (done f (if b then says reply.Repeat else done_with reply.Given (deed.Gives c k)).deed s) c k ≡ true
    at true before = before
    at false none = now_given f s c k g (input_place f c k its).1

-- ---- take and finish

pub data Takes (f : Fixed) (who : ℕ) (s : State) : Type 0 where
  nothing : next_ready f s ≡ None → job (step f s who call.Take).0 ≡ None → (step f s who call.Take).1 ≡ s → Takes f who s
  takes : (c : ℕ) → ready f s c ≡ true → c < length f.plans → job (step f s who call.Take).0 ≡ Some c → (step f s who call.Take).1 ≡ with_circuit s c (Taken who) → Takes f who s

takes_then : (f : Fixed) (who : ℕ) (s : State) (o : Option ℕ) → next_ready f s ≡ o → Takes f who s
unfolding step judge take done changed
takes_then f who s None e =
    let same_ : take f s who ≡ says reply.Nothing = rw (e, take) refl in
    nothing e (ap (λ (z : Verdict). job z.reply) same_) (ap (λ (z : Verdict). done f z.deed s) same_)
takes_then f who s (Some c) e =
    let found = found_ready f s c e in
    let same_ : take f s who ≡ done_with (reply.Job c) (deed.Turns c (Taken who)) = rw (e, take) refl in
    takes c found.0 found.1 (ap (λ (z : Verdict). job z.reply) same_) (ap (λ (z : Verdict). done f z.deed s) same_)

pub takes_is : (f : Fixed) (who : ℕ) (s : State) → Takes f who s
takes_is f who s = takes_then f who s (next_ready f s) refl

-- a circuit that is taken and finished
abbrev pub evaluated : ℕ → State → ℕ → State
evaluated who s c = with_circuit (with_circuit s c (Taken who)) c Evaluated

pub finishes_it : (f : Fixed) (who : ℕ) (s : State) (c : ℕ) → c < length s.circuits → (step f (with_circuit s c (Taken who)) who (call.Finish c)).1 ≡ issue f (evaluated who s c)
unfolding step judge finish done changed
finishes_it f who s c l =
    let mine : circuit (set s.circuits c (Taken who)) c ≡ Taken who = get_or-set_same s.circuits c (Taken who) Answered l in
    let yes_ : is_taken_by who (circuit (set s.circuits c (Taken who)) c) ≡ true = rw mine (eq-eqb who who refl) in
    rw yes_ refl

-- ---- who is present

-- neither a join nor a loss
abbrev IsSteady : Call → Type 0
IsSteady (call.Join p) = ⊥
IsSteady (call.Lose p) = ⊥
IsSteady _ = ⊤

deed_present : (f : Fixed) (s : State) (who : ℕ) (c : Call) (r : Reply) (d : Deed) → IsSteady c → Allows f s who c r d → (changed d s).present ≡ s.present
unfolding changed
deed_present f s who c r (deed.Joins p) n a = absurd (subst IsSteady a.call n)
deed_present f s who c r (deed.Loses p) n a = absurd (subst IsSteady a.call n)
deed_present f s who c r other n a = refl

-- the calls of a task of settling change it not
pub task_present : (W : Type 0) (f : Fixed) (s : State) (who : ℕ) (x : Task) → Settles W x → (step f s who (asks x)).1.present ≡ s.present
unfolding step
task_present W f s who x h =
    let v = judge f s who (asks x) in
    (done_beside f v.deed s).present ∙ deed_present f s who (asks x) v.reply v.deed (steady x h) (judged f s who (asks x))
  where
    steady : (x : Task) → Settles W x → IsSteady (asks x)
    steady (does (line.Send p)) h = tt
    steady (shares p id) h = tt
    steady (delivers it) h = tt
    steady (gives c k) h = tt
    steady (finishes c) h = tt
    steady exhausts h = tt
    steady other h = absurd h
