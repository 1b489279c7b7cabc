-- Tasks are done one after the other: what is left of them, and which call is next.
use Rattle.std.proofs.Common.{◌≡◌, ◌∙◌, sym, ap, ap₂, refl, ℕ, true, List, [], ◌∷◌, ◌++◌, Option, Some, None}
use Rattle.std.proofs.lemmas.List.{append-nil}
use Rattle.std.proofs.lemmas.Bool.{eq-eqb, and_from}
use Rattle.session_rules.specs.declared.call.Call.{Call}
use Rattle.session_rules.specs.declared.call.Call.TheVariants as call
use Rattle.session_rules.specs.declared.call.Entry.{Entry}
use Rattle.session_rules.specs.declared.reply.Reply.{Reply}
use Rattle.session_rules.specs.Tasks.{Task, Held, Left, task_call, at_call, dropped, same_call, is_call, next_call, hand_after, leaves, left, entry}
use Rattle.session_rules.specs.Courses.{to_do, Follows, BreaksOff}
use Rattle.run_laws.specs.Following.{left_of, and_then}
use Rattle.run_laws.specs.Leaving.{Leaves}
use Rattle.run_laws.proofs.Dropped.{drop_some, Stands, over, calls, stands, at_again, at_behind, next_at, next_over, after_at, left_nil, left_yes, left_dropped}
use Rattle.run_laws.proofs.Splits.{entries_append, at_calls, left_behind}

-- ---- more tasks and more calls

-- what is left goes on from what was left
left_then : (l : ℕ) (ts us : List Task) (a b : List Entry) → left l (to_do ts) a ≡ left l (to_do us) [] → left l (to_do ts) (a ++ b) ≡ left l (to_do us) b
left_then l ts us a b e =
    entries_append l (to_do ts) a b ∙ ap (λ (z : Option Left). left_of l z b) (e ∙ left_nil l (to_do us)) ∙ left_dropped l (to_do us) b

-- and with more tasks behind it
left_before : (l : ℕ) (us vs rest : List Task) (b : List Entry) → left l (to_do us) b ≡ left l (to_do vs) [] → left l (to_do (us ++ rest)) b ≡ left l (to_do (vs ++ rest)) []
left_before l us vs rest b e =
    left_behind l (to_do us) (at_call (to_do vs)) rest b (e ∙ left_nil l (to_do vs)) ∙ ap Some (at_behind (to_do vs) rest) ∙ sym (left_nil l (to_do (vs ++ rest)))

pub leaves_more : (l : ℕ) (ts us vs rest : List Task) (a b : List Entry) → Leaves l ts (us ++ rest) a → Leaves l us vs b → Leaves l ts (vs ++ rest) (a ++ b)
leaves_more l ts us vs rest a b x y = record { leaves = left_then l ts (us ++ rest) a b x.leaves ∙ left_before l us vs rest b y.leaves }

pub follows_all : (l : ℕ) (ts : List Task) (es : List Entry) → Leaves l ts [] es → Follows l ts es
unfolding at_call dropped
follows_all l ts es x = record { hand = None; follows = x.leaves ∙ left_nil l (to_do []) }

-- a call that is next stays so with more tasks behind it
next_then : (todo : Left) (us : List Task) (next : Call) → Stands (at_call todo) → next_call todo ≡ Some next → next_call (at_call (and_then todo us)) ≡ Some next
next_then todo us next (over hand is) e = let none : None ≡ Some next = sym (next_over todo hand is) ∙ e in cc
next_then todo us next (calls hand t ts c its is) e =
    next_at (at_call (and_then todo us)) hand t (ts ++ us) (at_again (and_then todo us) ∙ at_calls todo us hand t ts c its is) ∙ sym (next_at todo hand t ts is) ∙ e

pub breaks_more : (l : ℕ) (ts us rest : List Task) (a b : List Entry) (next : Call) → Leaves l ts (us ++ rest) a → BreaksOff l us b next → BreaksOff l ts (a ++ b) next
breaks_more l ts us rest a b next x y = record {
  rest = at_call (and_then y.rest rest);
  begins = left_then l ts (us ++ rest) a b x.leaves ∙ left_behind l (to_do us) y.rest rest b y.begins;
  more = next_then y.rest rest next (stands y.rest) y.more;
}

-- ---- one call

same_self : (c : Call) → same_call c c ≡ true
same_self (call.Join p) = eq-eqb p p refl
same_self (call.Lose p) = eq-eqb p p refl
same_self (call.Pending p) = eq-eqb p p refl
same_self (call.Brief id) = eq-eqb id id refl
same_self (call.Deliver id p rows) = and_from _ _ (and_from _ _ (eq-eqb id id refl) (eq-eqb p p refl)) (eq-eqb rows rows refl)
same_self (call.Input c k) = and_from _ _ (eq-eqb c c refl) (eq-eqb k k refl)
same_self call.Take = refl
same_self (call.Finish c) = eq-eqb c c refl
same_self (call.GiveBack c) = eq-eqb c c refl

-- the first of some tasks calls
first_at : (t : Task) (rest : List Task) (c : Call) → task_call None t ≡ Some c → at_call (to_do (t ∷ rest)) ≡ record { hand = None; tasks = t ∷ rest }
unfolding at_call
first_at t rest c e = drop_some None t rest c e

first_next : (t : Task) (rest : List Task) (c : Call) → task_call None t ≡ Some c → next_call (to_do (t ∷ rest)) ≡ Some c
first_next t rest c e = next_at (to_do (t ∷ rest)) None t rest (first_at t rest c e) ∙ e

one_left : (l : ℕ) (t : Task) (c : Call) (r : Reply) → task_call None t ≡ Some c → hand_after l t r None ≡ None → left l (to_do (t ∷ [])) (entry 0 c r ∷ []) ≡ left l (to_do (leaves l t r)) []
one_left l t c r e none =
    left_yes l (to_do (t ∷ [])) (entry 0 c r) [] (ap (λ (z : Option Call). is_call z (entry 0 c r)) (first_next t [] c e) ∙ same_self c)
    ∙ ap (λ (z : Left). left l z []) (after_at l (to_do (t ∷ [])) r None t [] (first_at t [] c e))
    ∙ ap₂ (λ (h : Option Held) (z : List Task). left l (record { hand = h; tasks = z }) []) none (append-nil (leaves l t r))

pub one_leaves : (l : ℕ) (t : Task) (c : Call) (r : Reply) → task_call None t ≡ Some c → hand_after l t r None ≡ None → Leaves l (t ∷ []) (leaves l t r) (entry 0 c r ∷ [])
one_leaves l t c r e none = record { leaves = one_left l t c r e none }

-- it is the call that is next
pub breaks_first : (l : ℕ) (ts rest : List Task) (t : Task) (c : Call) (es : List Entry) → Leaves l ts (t ∷ rest) es → task_call None t ≡ Some c → BreaksOff l ts es c
breaks_first l ts rest t c es x e = record {
  rest = at_call (to_do (t ∷ rest));
  begins = x.leaves ∙ left_nil l (to_do (t ∷ rest));
  more = next_at (at_call (to_do (t ∷ rest))) None t rest (at_again (to_do (t ∷ rest)) ∙ first_at t rest c e) ∙ e;
}
