-- What one caller does alone: it follows, and nothing else does.
use Rattle.std.proofs.Common.{◌≡◌, ◌∙◌, sym, ap, subst, refl, ℕ, zero, suc, ◌<◌, ◌≤◌, true, ◌&&◌, List, [], ◌∷◌, length, Option, Some, None, nat_eq, arith}
use Rattle.std.proofs.lemmas.Bool.{eq-eqb, eqb-true, and_parts, and_from}
use Rattle.session_rules.specs.declared.call.Call.{Call}
use Rattle.session_rules.specs.declared.call.Call.TheVariants as call
use Rattle.session_rules.specs.declared.call.Entry.{Entry}
use Rattle.session_rules.specs.declared.reply.Reply.{Reply}
use Rattle.session_rules.specs.declared.fixed.Fixed.{Fixed}
use Rattle.session_rules.specs.States.{State}
use Rattle.session_rules.specs.Steps.{step}
use Rattle.session_rules.specs.Tasks.{Left, at_call, next_call, after_reply, same_call, is_call, left, entry, run}
use Rattle.run_laws.specs.Alone.{RunFollows, RunIsOnly}
use Rattle.run_laws.proofs.Dropped.{Stands, over, calls, stands, next_at, next_over, left_nil, left_yes, left_first}
use Rattle.run_laws.proofs.Replies.{AreBy, own_all, all_own, Replied, replied_replayed, replayed_replied}

-- ---- the same call

pub same_self : (c : Call) → same_call c c ≡ true
same_self (call.Join p) = eq-eqb p p refl
same_self (call.Lose p) = eq-eqb p p refl
same_self (call.Pending p) = eq-eqb p p refl
same_self (call.Brief id) = eq-eqb id id refl
same_self (call.Deliver id p rows) =
    and_from (nat_eq id id && nat_eq p p) (nat_eq rows rows) (and_from (nat_eq id id) (nat_eq p p) (eq-eqb id id refl) (eq-eqb p p refl)) (eq-eqb rows rows refl)
same_self (call.Input c k) = and_from (nat_eq c c) (nat_eq k k) (eq-eqb c c refl) (eq-eqb k k refl)
same_self call.Take = refl
same_self (call.Finish c) = eq-eqb c c refl
same_self (call.GiveBack c) = eq-eqb c c refl

delivers_same : (i p r j q s : ℕ) → (nat_eq i j && nat_eq p q && nat_eq r s) ≡ true → call.Deliver i p r ≡ call.Deliver j q s
delivers_same i p r j q s h =
    let both = and_parts (nat_eq i j && nat_eq p q) (nat_eq r s) h in
    let two = and_parts (nat_eq i j) (nat_eq p q) both.0 in
    let a = eqb-true i j two.0 in
    let b = eqb-true p q two.1 in
    let c = eqb-true r s both.1 in
    cc

inputs_same : (c k d j : ℕ) → (nat_eq c d && nat_eq k j) ≡ true → call.Input c k ≡ call.Input d j
inputs_same c k d j h =
    let both = and_parts (nat_eq c d) (nat_eq k j) h in
    let a = eqb-true c d both.0 in
    let b = eqb-true k j both.1 in
    cc

pub same_is : (a b : Call) → same_call a b ≡ true → a ≡ b
same_is (call.Join p) (call.Join q) h = ap call.Join (eqb-true p q h)
same_is (call.Lose p) (call.Lose q) h = ap call.Lose (eqb-true p q h)
same_is (call.Pending p) (call.Pending q) h = ap call.Pending (eqb-true p q h)
same_is (call.Brief i) (call.Brief j) h = ap call.Brief (eqb-true i j h)
same_is (call.Deliver i p r) (call.Deliver j q s) h = delivers_same i p r j q s h
same_is (call.Input c k) (call.Input d j) h = inputs_same c k d j h
same_is call.Take call.Take h = refl
same_is (call.Finish c) (call.Finish d) h = ap call.Finish (eqb-true c d h)
same_is (call.GiveBack c) (call.GiveBack d) h = ap call.GiveBack (eqb-true c d h)
same_is a b h = cc

pub some_call : (a b : Call) → Some a ≡ Some b → a ≡ b
some_call a b e = cc

-- an entry that is the next call
pub its_call : (o : Option Call) (e : Entry) → is_call o e ≡ true → o ≡ Some e.call
its_call None e h = cc
its_call (Some c) e h = ap (λ (z : Call). Some z) (same_is c e.call h)

pub is_its_call : (o : Option Call) (who : ℕ) (c : Call) (r : Reply) → o ≡ Some c → is_call o (entry who c r) ≡ true
is_its_call o who c r e = rw e (same_self c)

-- ---- a run, call by call

run_none : (n : ℕ) (f : Fixed) (who : ℕ) (s : State) (todo : Left) → next_call todo ≡ None → run n f who s todo ≡ []
unfolding run
run_none zero f who s todo e = refl
run_none (suc n) f who s todo e = rw (e, run) refl

run_some : (n : ℕ) (f : Fixed) (who : ℕ) (s : State) (todo : Left) (c : Call) → next_call todo ≡ Some c
    → run (suc n) f who s todo ≡ entry who c (step f s who c).0 ∷ run n f who (step f s who c).1 (after_reply f.rows todo (step f s who c).0)
unfolding run
run_some n f who s todo c e = rw (e, run) refl

run_zero : (f : Fixed) (who : ℕ) (s : State) (todo : Left) → run zero f who s todo ≡ []
unfolding run
run_zero f who s todo = refl

-- ---- it follows

pub record Goes (n : ℕ) (f : Fixed) (who : ℕ) (s : State) (todo : Left) (es : List Entry) : Type 0 where
  pub by : AreBy who es
  pub replied : Replied f s es
  pub rest : Left
  pub follows : left f.rows todo es ≡ Some rest
  pub ends : length es < n → rest.tasks ≡ []

goes_over : (n : ℕ) (f : Fixed) (who : ℕ) (s : State) (todo : Left) → Stands (at_call todo) → next_call todo ≡ None → Goes n f who s todo []
goes_over n f who s todo (over hand is) e = record { by = tt; replied = tt; rest = at_call todo; follows = left_nil f.rows todo; ends = λ l. ap (λ (z : Left). z.tasks) is }
goes_over n f who s todo (calls hand t ts c its is) e = let none : None ≡ Some c = sym e ∙ next_at todo hand t ts is ∙ its in cc

goes_more : (n : ℕ) (f : Fixed) (who : ℕ) (s : State) (todo : Left) (c : Call) (es : List Entry) → next_call todo ≡ Some c
    → Goes n f who (step f s who c).1 (after_reply f.rows todo (step f s who c).0) es → Goes (suc n) f who s todo (entry who c (step f s who c).0 ∷ es)
goes_more n f who s todo c es e g =
    let first = entry who c (step f s who c).0 in
    record {
      by = (refl, g.by);
      replied = (refl, g.replied);
      rest = g.rest;
      follows = left_yes f.rows todo first es (is_its_call (next_call todo) who c (step f s who c).0 e) ∙ g.follows;
      ends = λ l. g.ends (omega arith);
    }

goes_then : (n : ℕ) (f : Fixed) (who : ℕ) (s : State) (todo : Left) → ((t : State) (next : Left) → Goes n f who t next (run n f who t next))
    → (o : Option Call) → next_call todo ≡ o → Goes (suc n) f who s todo (run (suc n) f who s todo)
goes_then n f who s todo more None e =
    subst (λ (z : List Entry). Goes (suc n) f who s todo z) (sym (run_none (suc n) f who s todo e)) (goes_over (suc n) f who s todo (stands todo) e)
goes_then n f who s todo more (Some c) e =
    let t = (step f s who c).1 in
    let next = after_reply f.rows todo (step f s who c).0 in
    subst (λ (z : List Entry). Goes (suc n) f who s todo z) (sym (run_some n f who s todo c e)) (goes_more n f who s todo c (run n f who t next) e (more t next))

pub goes : (n : ℕ) (f : Fixed) (who : ℕ) (s : State) (todo : Left) → Goes n f who s todo (run n f who s todo)
goes zero f who s todo =
    subst (λ (z : List Entry). Goes zero f who s todo z) (sym (run_zero f who s todo))
    (record { by = tt; replied = tt; rest = at_call todo; follows = left_nil f.rows todo; ends = λ l. absurd (omega arith) })
goes (suc n) f who s todo = goes_then n f who s todo (goes n f who) (next_call todo) refl

pub run_follows : RunFollows
run_follows n f who s todo =
    let g = goes n f who s todo in
    let es = run n f who s todo in
    record { alone = own_all who es g.by; legal = replied_replayed f s es g.replied; rest = g.rest; follows = g.follows; ends = g.ends }

-- ---- and nothing else does

only_nil : (n : ℕ) (f : Fixed) (who : ℕ) (s : State) (todo rest : Left) → Stands (at_call todo) → at_call todo ≡ rest → rest.tasks ≡ [] → [] ≡ run n f who s todo
only_nil n f who s todo rest (over hand is) e none = sym (run_none n f who s todo (next_over todo hand is))
only_nil n f who s todo rest (calls hand t ts c its is) e none =
    let tasks_ : t ∷ ts ≡ [] = ap (λ (z : Left). z.tasks) (sym is ∙ e) ∙ none in cc

pub only : (n : ℕ) (f : Fixed) (who : ℕ) (s : State) (todo rest : Left) (es : List Entry) → AreBy who es → Replied f s es → left f.rows todo es ≡ Some rest → rest.tasks ≡ []
    → length es ≤ n → es ≡ run n f who s todo
only n f who s todo rest [] by replied h none l =
    let is : at_call todo ≡ rest = let its : Some (at_call todo) ≡ Some rest = sym (left_nil f.rows todo) ∙ h in cc in
    only_nil n f who s todo rest (stands todo) is none
only zero f who s todo rest (e ∷ es) by replied h none l = absurd (omega arith)
only (suc n) f who s todo rest (e ∷ es) by replied h none l =
    let first = left_first f.rows todo e es rest h in
    let c = e.call in
    let caller : e.caller ≡ who = by.0 in
    let said : e.reply ≡ (step f s who c).0 = replied.0 ∙ ap (λ (z : ℕ). (step f s z c).0) caller in
    let next = after_reply f.rows todo (step f s who c).0 in
    let replies : Replied f (step f s who c).1 es = subst (λ (z : ℕ). Replied f (step f s z c).1 es) caller replied.1 in
    let follows : left f.rows next es ≡ Some rest = subst (λ (z : Reply). left f.rows (after_reply f.rows todo z) es ≡ Some rest) said first.goes in
    let tail : es ≡ run n f who (step f s who c).1 next = only n f who (step f s who c).1 next rest es by.1 replies follows none (omega arith) in
    let head : e ≡ entry who c (step f s who c).0 =
    ap (λ (z : ℕ). record { caller = z; call = c; reply = e.reply }) caller ∙ ap (λ (z : Reply). entry who c z) said in
    ap (λ (z : Entry). z ∷ es) head ∙ ap (λ (z : List Entry). entry who c (step f s who c).0 ∷ z) tail ∙ sym (run_some n f who s todo c (its_call (next_call todo) e first.calls))

pub run_is_only : RunIsOnly
run_is_only n f who s todo rest es alone legal h none l = only n f who s todo rest es (all_own who es alone) (replayed_replied f s es legal) h none l
