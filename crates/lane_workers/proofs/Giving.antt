-- A share that is in hand is given as one that is to be delivered; and a circuit that is to be finished is the one call.
use Rattle.std.proofs.Common.{◌≡◌, ◌∙◌, sym, ap, subst, refl, ℕ, Bool, true, false, List, [], ◌∷◌, Option, Some, None}
use Rattle.std.specs.Prelude.{Result, Ok, Err, OnOk, IfErr}
use Rattle.std.proofs.lemmas.Bool.{eqb-true}
use Rattle.session_rules.specs.declared.call.Call.{Call}
use Rattle.session_rules.specs.declared.call.Call.TheVariants as call
use Rattle.session_rules.specs.declared.call.Entry.{Entry}
use Rattle.session_rules.specs.declared.reply.Reply.{Reply}
use Rattle.session_rules.specs.declared.line.Line.TheVariants.{Give}
use Rattle.session_rules.specs.Tasks.{Task, does, delivers, finishes, delivery, Held, Left, task_call, at_call, same_call, is_call, next_call, after_reply, left}
use Rattle.session_rules.specs.Courses.{to_do, BreaksOff}
use Rattle.run_laws.specs.Leaving.{Leaves}
use Rattle.run_laws.proofs.Dropped.{drop_some, at_none, next_at, next_over, after_at, left_nil, left_yes, left_no, left_first}
use Rattle.session_core.specs.declared.stop.Stop.{Stop}
use Rattle.lane_workers.specs.Desks.{View}
use Rattle.lane_workers.specs.Doing.{Goes, Cuts, Did, BrokeOff, Going, CutOff}
use Rattle.lane_workers.proofs.Doing.{added_so, broken_so}
use Rattle.lane_workers.proofs.Going.{rows}
use Rattle.lane_workers.proofs.Quiet.{with_hand, goes_quiet, cuts_quiet}

at_it : (x : Option Held) (t : Task) (c : Call) → task_call x t ≡ Some c → at_call (with_hand x (t ∷ [])) ≡ with_hand x (t ∷ [])
unfolding at_call
at_it x t c e = drop_some x t [] c e

-- a task is something to be done
something : (x y : Option Held) (t : Task) → Some (with_hand x (t ∷ [])) ≡ Some (with_hand y []) → ⊥
something x y t e =
    let same : with_hand x (t ∷ []) ≡ with_hand y [] = cc in
    let none : t ∷ [] ≡ [] = ap (λ (z : Left). z.tasks) same in cc

-- ---- a share

-- to give what is in hand, and to deliver it
abbrev giving : Held → Left
giving h = with_hand (Some h) (does Give ∷ [])

abbrev delivering_it : Held → Left
delivering_it h = with_hand (Some h) (delivers h ∷ [])

next_giving : (h : Held) → next_call (giving h) ≡ Some (delivery h)
next_giving h = next_at (giving h) (Some h) (does Give) [] (at_it (Some h) (does Give) (delivery h) refl)

next_delivering : (h : Held) → next_call (delivering_it h) ≡ Some (delivery h)
next_delivering h = next_at (delivering_it h) (Some h) (delivers h) [] (at_it (Some h) (delivers h) (delivery h) refl)

same_next : (h : Held) → next_call (giving h) ≡ next_call (delivering_it h)
same_next h = next_giving h ∙ sym (next_delivering h)

same_after : (l : ℕ) (h : Held) (r : Reply) → after_reply l (giving h) r ≡ after_reply l (delivering_it h) r
same_after l h r =
    after_at l (giving h) r (Some h) (does Give) [] (at_it (Some h) (does Give) (delivery h) refl)
    ∙ sym (after_at l (delivering_it h) r (Some h) (delivers h) [] (at_it (Some h) (delivers h) (delivery h) refl))

same_by : (l : ℕ) (h : Held) (e : Entry) (es : List Entry) (b : Bool) → is_call (next_call (giving h)) e ≡ b → left l (giving h) (e ∷ es) ≡ left l (delivering_it h) (e ∷ es)
same_by l h e es true is =
    left_yes l (giving h) e es is ∙ ap (λ (z : Left). left l z es) (same_after l h e.reply)
    ∙ sym (left_yes l (delivering_it h) e es (ap (λ (z : Option Call). is_call z e) (sym (same_next h)) ∙ is))
same_by l h e es false is =
    left_no l (giving h) e es is ∙ sym (left_no l (delivering_it h) e es (ap (λ (z : Option Call). is_call z e) (sym (same_next h)) ∙ is))

-- once one call is made, the same is left of both
same_left : (l : ℕ) (h : Held) (e : Entry) (es : List Entry) → left l (giving h) (e ∷ es) ≡ left l (delivering_it h) (e ∷ es)
same_left l h e es = same_by l h e es (is_call (next_call (giving h)) e) refl

gives_then : (l : ℕ) (h : Held) (es : List Entry) → Goes l (delivering_it h) (with_hand (Some h) []) es → Goes l (giving h) (with_hand (Some h) []) es
gives_then l h [] x =
    let none : Some (delivering_it h) ≡ Some (with_hand (Some h) []) =
    ap Some (sym (at_it (Some h) (delivers h) (delivery h) refl)) ∙ sym (left_nil l (delivering_it h)) ∙ x.goes ∙ left_nil l (with_hand (Some h) []) ∙ ap Some (at_none (Some h)) in
    absurd (something (Some h) (Some h) (delivers h) none)
gives_then l h (e ∷ es) x = record { goes = same_left l h e es ∙ x.goes }

gives_as_delivers : (l : ℕ) (h : Held) (es : List Entry) → Leaves l (delivers h ∷ []) [] es → Goes l (with_hand (Some h) (does Give ∷ [])) (with_hand (Some h) []) es
gives_as_delivers l h es x = gives_then l h es (goes_quiet l (Some h) (delivers h) es tt x)

cut_then : (l : ℕ) (h : Held) (es : List Entry) (next : Call) → Cuts l (delivering_it h) es next → Cuts l (giving h) es next
cut_then l h [] next x =
    let its : Some (delivering_it h) ≡ Some x.rest = ap Some (sym (at_it (Some h) (delivers h) (delivery h) refl)) ∙ sym (left_nil l (delivering_it h)) ∙ x.begins in
    let rest : x.rest ≡ delivering_it h = cc in
    record {
      rest = giving h;
      begins = left_nil l (giving h) ∙ ap Some (at_it (Some h) (does Give) (delivery h) refl);
      more = same_next h ∙ ap next_call (sym rest) ∙ x.more;
    }
cut_then l h (e ∷ es) next x = record { rest = x.rest; begins = same_left l h e es ∙ x.begins; more = x.more }

cuts_as_delivers : (l : ℕ) (h : Held) (es : List Entry) (next : Call) → BreaksOff l (delivers h ∷ []) es next → Cuts l (with_hand (Some h) (does Give ∷ [])) es next
cuts_as_delivers l h es next x = cut_then l h es next (cuts_quiet l (Some h) (delivers h) es next tt x)

pub gives_it : (h : Held) (v w : View) → Did (delivers h ∷ []) v w → Going (with_hand (Some h) (does Give ∷ [])) (with_hand (Some h) []) v w
gives_it h v w x = added_so (Leaves (rows v) (delivers h ∷ []) []) (Goes (rows v) (giving h) (with_hand (Some h) [])) v w x (λ es its. gives_as_delivers (rows v) h es its)

pub gives_off : (h : Held) (v w : View) (why : Stop) → BrokeOff (delivers h ∷ []) v w why → CutOff (with_hand (Some h) (does Give ∷ [])) v w why
gives_off h v w why x = broken_so why (BreaksOff (rows v) (delivers h ∷ [])) (Cuts (rows v) (giving h)) v w x (λ es next its. cuts_as_delivers (rows v) h es next its)

-- what a call comes to may be said otherwise
pub on_ok_so : {X : Type 0} (r : Result X Stop) (P Q : Type 0) → (P → Q) → OnOk r P → OnOk r Q
on_ok_so (Ok x) P Q f h = f h
on_ok_so (Err e) P Q f h = h

pub if_err_so : {X : Type 0} (r : Result X Stop) (P Q : Stop → Type 0) → ((why : Stop) → P why → Q why) → IfErr r P → IfErr r Q
if_err_so (Ok x) P Q f h = h
if_err_so (Err e) P Q f h = f e h

-- ---- an output

-- nothing but this is called
pub record IsOneCall (c : Call) (es : List Entry) : Type 0 where
  pub one : Entry
  pub is : es ≡ one ∷ []
  pub call : one.call ≡ c

finish_same : (c : ℕ) (d : Call) → same_call (call.Finish c) d ≡ true → d ≡ call.Finish c
finish_same c (call.Finish d) e = ap call.Finish (sym (eqb-true c d e))
finish_same c (call.Join p) e = cc
finish_same c (call.Lose p) e = cc
finish_same c (call.Pending p) e = cc
finish_same c (call.Brief p) e = cc
finish_same c (call.Deliver id p rows) e = cc
finish_same c (call.Input d k) e = cc
finish_same c call.Take e = cc
finish_same c (call.GiveBack d) e = cc

nothing_behind : (l : ℕ) (es : List Entry) → left l (to_do []) es ≡ left l (to_do []) [] → es ≡ []
nothing_behind l [] h = refl
nothing_behind l (e ∷ es) h =
    let first = left_first l (to_do []) e es (to_do []) (h ∙ left_nil l (to_do []) ∙ ap Some (at_none None)) in
    let none : is_call None e ≡ true = subst (λ (z : Option Call). is_call z e ≡ true) (next_over (to_do []) None (at_none None)) first.calls in cc

pub one_finish : (l c : ℕ) (es : List Entry) → Leaves l (finishes c ∷ []) [] es → IsOneCall (call.Finish c) es
one_finish l c [] x =
    let at = at_it None (finishes c) (call.Finish c) refl in
    let none : Some (to_do (finishes c ∷ [])) ≡ Some (to_do []) =
    ap Some (sym at) ∙ sym (left_nil l (to_do (finishes c ∷ []))) ∙ x.leaves ∙ left_nil l (to_do []) ∙ ap Some (at_none None) in
    absurd (something None None (finishes c) none)
one_finish l c (e ∷ es) x =
    let todo = to_do (finishes c ∷ []) in
    let at = at_it None (finishes c) (call.Finish c) refl in
    let first = left_first l todo e es (to_do []) (x.leaves ∙ left_nil l (to_do []) ∙ ap Some (at_none None)) in
    let next = next_at todo None (finishes c) [] at in
    let called : same_call (call.Finish c) e.call ≡ true = subst (λ (z : Option Call). is_call z e ≡ true) next first.calls in
    let rest = nothing_behind l es
    (ap (λ (z : Left). left l z es) (sym (after_at l todo e.reply None (finishes c) [] at)) ∙ first.goes ∙ sym (left_nil l (to_do []) ∙ ap Some (at_none None))) in
    record { one = e; is = ap (λ (z : List Entry). e ∷ z) rest; call = finish_same c e.call called }
