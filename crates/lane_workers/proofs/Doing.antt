-- Those that act go on from one call to the next, and stop at one.
use Rattle.std.proofs.Common.{◌≡◌, ◌∙◌, sym, ap, ap₂, subst, refl, ℕ, Bool, inl, List, [], ◌∷◌, ◌++◌, Option, Some, None}
use Rattle.std.specs.Prelude.{if◌then◌else◌}
use Rattle.std.proofs.lemmas.Bool.{eq-eqb}
use Rattle.std.proofs.lemmas.List.{append_assoc, append-nil}
use Rattle.std.proofs.lemmas.List.Elements.{filter-append}
use Rattle.session_rules.specs.declared.call.Call.{Call}
use Rattle.session_rules.specs.declared.call.Entry.{Entry}
use Rattle.session_rules.specs.declared.reply.Reply.{Reply}
use Rattle.session_rules.specs.Tasks.{Task, Left, task_call, next_call, is_call, after_reply, hand_after, leaves, left, is_by, own, entry}
use Rattle.session_rules.specs.Courses.{BreaksOff}
use Rattle.run_laws.specs.Leaving.{Leaves}
use Rattle.run_laws.proofs.Leaving.{leaves_more, breaks_more, breaks_first, one_leaves}
use Rattle.session_core.specs.declared.stop.Stop.{Stop}
use Rattle.lane_workers.specs.Desks.{Fixture, View, Hands, Answered, Unanswered}
use Rattle.lane_workers.specs.Doing.{Added, StopsFor, GivesBack, Broken}

-- ---- entries behind entries

own_both : (who : ℕ) (a b x y : List Entry) → own who a ≡ x → own who b ≡ y → own who (a ++ b) ≡ x ++ y
own_both who a b x y e f = filter-append (is_by who) a b ∙ ap₂ (λ (p q : List Entry). p ++ q) e f

-- entries of one who acts are its own
pub own_one : (who : ℕ) (c : Call) (r : Reply) → own who (entry who c r ∷ []) ≡ entry who c r ∷ []
own_one who c r = rw (eq-eqb who who refl) refl

behind_both : (before mid now a b : List Entry) → mid ≡ before ++ a → now ≡ mid ++ b → now ≡ before ++ (a ++ b)
behind_both before mid now a b e f = f ∙ ap (λ (z : List Entry). z ++ b) e ∙ append_assoc before a b

behind_three : (before mid now a b c : List Entry) → mid ≡ before ++ a → now ≡ (mid ++ b) ++ c → now ≡ (before ++ (a ++ b)) ++ c
behind_three before mid now a b c e f = f ∙ ap (λ (z : List Entry). z ++ c) (ap (λ (z : List Entry). z ++ b) e ∙ append_assoc before a b)

pub added_more : (P Q R : List Entry → Type 0) (u v w : View) → v.fixed ≡ u.fixed → Added P u v → Added Q v w → ((a b : List Entry) → P a → Q b → R (a ++ b)) → Added R u w
added_more P Q R u v w same x y both = record {
  more = x.more ++ y.more;
  made = x.made ++ y.made;
  seen = behind_both u.seen v.seen w.seen x.more y.more x.seen y.seen;
  mine = behind_both u.mine v.mine w.mine x.made y.made x.mine y.mine;
  its = own_both u.fixed.caller x.more y.more x.made y.made x.its (ap (λ (f : Fixture). own f.caller y.more) (sym same) ∙ y.its);
  alone = λ e. ap₂ (λ (p q : List Entry). p ++ q) (x.alone e) (y.alone (ap (λ (f : Fixture). f.alone) same ∙ e));
  are = both x.made y.made x.are y.are;
}

pub broken_more : (why : Stop) (P : List Entry → Type 0) (Q R : List Entry → Call → Type 0) (u v w : View) → v.fixed ≡ u.fixed → Added P u v → Broken why Q v w
    → ((a b : List Entry) (next : Call) → P a → Q b next → R (a ++ b) next) → Broken why R u w
broken_more why P Q R u v w same x y both = record {
  more = x.more ++ y.more;
  made = x.made ++ y.made;
  back = y.back;
  seen = behind_both u.seen v.seen w.seen x.more y.more x.seen y.seen;
  mine = behind_three u.mine v.mine w.mine x.made y.made y.back x.mine y.mine;
  its = own_both u.fixed.caller x.more y.more x.made (y.made ++ y.back) x.its (ap (λ (f : Fixture). own f.caller y.more) (sym same) ∙ y.its) ∙ sym (append_assoc x.made y.made y.back);
  alone = λ e. ap₂ (λ (p q : List Entry). p ++ q) (x.alone e) (y.alone (ap (λ (f : Fixture). f.alone) same ∙ e)) ∙ sym (append_assoc x.made y.made y.back);
  next = y.next;
  are = both x.made y.made y.next x.are y.are;
  gives_back = subst (λ (f : Fixture). GivesBack f.caller why y.next y.back) same y.gives_back;
  reason = subst (λ (f : Fixture). StopsFor why f.known.most w.seen y.next) same y.reason;
}

-- the same may be said otherwise
pub added_so : (P Q : List Entry → Type 0) (v w : View) → Added P v w → ((es : List Entry) → P es → Q es) → Added Q v w
added_so P Q v w x so = record { more = x.more; made = x.made; seen = x.seen; mine = x.mine; its = x.its; alone = x.alone; are = so x.made x.are }

pub broken_so : (why : Stop) (P Q : List Entry → Call → Type 0) (v w : View) → Broken why P v w → ((es : List Entry) (next : Call) → P es next → Q es next) → Broken why Q v w
broken_so why P Q v w x so = record {
  more = x.more;
  made = x.made;
  back = x.back;
  seen = x.seen;
  mine = x.mine;
  its = x.its;
  alone = x.alone;
  next = x.next;
  are = so x.made x.next x.are;
  gives_back = x.gives_back;
  reason = x.reason;
}

-- ---- one call, and none

-- nothing is called yet
pub added_none : (P : List Entry → Type 0) (v : View) → P [] → Added P v v
added_none P v x = record { more = []; made = []; seen = sym (append-nil v.seen); mine = sym (append-nil v.mine); its = refl; alone = λ e. refl; are = x }

-- a call was answered
pub added_one : {X : Type 0} (P : List Entry → Type 0) (v w : View) (c : Call) (r : Reply) (H : Hands X) (x : X) → Answered v w c r H x → P (entry v.fixed.caller c r ∷ []) → Added P v w
added_one P v w c r H x a its = record {
  more = a.others ++ entry v.fixed.caller c r ∷ [];
  made = entry v.fixed.caller c r ∷ [];
  seen = a.seen ∙ append_assoc v.seen a.others (entry v.fixed.caller c r ∷ []);
  mine = a.mine;
  its = own_both v.fixed.caller a.others (entry v.fixed.caller c r ∷ []) [] (entry v.fixed.caller c r ∷ []) a.are.strange (own_one v.fixed.caller c r);
  alone = λ e. ap (λ (z : List Entry). z ++ entry v.fixed.caller c r ∷ []) (a.are.none e);
  are = its;
}

twice_nil : (es : List Entry) → es ≡ (es ++ []) ++ []
twice_nil es = sym (append-nil es) ∙ sym (append-nil (es ++ []))

-- it stops where a call isn't answered
pub broken_at : (P : List Entry → Call → Type 0) (why : Stop) (v w : View) (next : Call) → Unanswered v w why → P [] next → StopsFor why v.fixed.known.most w.seen next → Broken why P v w
broken_at P why v w next a its reason = record {
  more = a.others;
  made = [];
  back = [];
  seen = a.seen;
  mine = a.mine ∙ twice_nil v.mine;
  its = a.are.strange;
  alone = a.are.none;
  next = next;
  are = its;
  gives_back = inl refl;
  reason = reason;
}

-- or before one
pub broken_before : (P : List Entry → Call → Type 0) (why : Stop) (v : View) (next : Call) → P [] next → StopsFor why v.fixed.known.most v.seen next → Broken why P v v
broken_before P why v next its reason = record {
  more = [];
  made = [];
  back = [];
  seen = sym (append-nil v.seen);
  mine = twice_nil v.mine;
  its = refl;
  alone = λ e. refl;
  next = next;
  are = its;
  gives_back = inl refl;
  reason = reason;
}

-- ---- tasks

-- who calls doesn't count
is_call_by : (o : Option Call) (who : ℕ) (c : Call) (r : Reply) → is_call o (entry who c r) ≡ is_call o (entry 0 c r)
is_call_by None who c r = refl
is_call_by (Some d) who c r = refl

pub left_by : (l : ℕ) (todo : Left) (who : ℕ) (c : Call) (r : Reply) → left l todo (entry who c r ∷ []) ≡ left l todo (entry 0 c r ∷ [])
unfolding left
left_by l todo who c r = ap (λ (b : Bool). if b then left l (after_reply l todo r) [] else None) (is_call_by (next_call todo) who c r)

pub leaves_one : (l who : ℕ) (t : Task) (c : Call) (r : Reply) → task_call None t ≡ Some c → hand_after l t r None ≡ None → Leaves l (t ∷ []) (leaves l t r) (entry who c r ∷ [])
leaves_one l who t c r e none = let x = one_leaves l t c r e none in record { leaves = left_by l _ who c r ∙ x.leaves }

pub starts : (l : ℕ) (ts : List Task) (v : View) → Added (Leaves l ts ts) v v
starts l ts v = added_none (Leaves l ts ts) v (record { leaves = refl })

-- tasks are done, before others
pub does_more : (l : ℕ) (ts us vs rest : List Task) (u v w : View) → v.fixed ≡ u.fixed → Added (Leaves l ts (us ++ rest)) u v → Added (Leaves l us vs) v w → Added (Leaves l ts (vs ++ rest)) u w
does_more l ts us vs rest u v w same x y =
    added_more (Leaves l ts (us ++ rest)) (Leaves l us vs) (Leaves l ts (vs ++ rest)) u v w same x y (λ a b. leaves_more l ts us vs rest a b)

-- it stops within some tasks
pub stops_within : (l : ℕ) (why : Stop) (ts us rest : List Task) (u v w : View) → v.fixed ≡ u.fixed → Added (Leaves l ts (us ++ rest)) u v → Broken why (BreaksOff l us) v w → Broken why (BreaksOff l ts) u w
stops_within l why ts us rest u v w same x y =
    broken_more why (Leaves l ts (us ++ rest)) (BreaksOff l us) (BreaksOff l ts) u v w same x y (λ a b next. breaks_more l ts us rest a b next)

-- at the first of them
pub breaks_at : (l : ℕ) (t : Task) (c : Call) → task_call None t ≡ Some c → BreaksOff l (t ∷ []) [] c
breaks_at l t c e = breaks_first l (t ∷ []) [] t c [] (record { leaves = refl }) e
