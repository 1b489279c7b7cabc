-- Entries stand behind the log of a session.
use Rattle.std.proofs.Common.{◌≡◌, ◌∙◌, sym, ap, ap₂, refl, ℕ, List, [], ◌++◌}
use Rattle.std.proofs.lemmas.List.{append_assoc, append-nil}
use Rattle.std.proofs.lemmas.List.Elements.{filter-append}
use Rattle.session_rules.specs.declared.call.Call.{Call}
use Rattle.session_rules.specs.declared.call.Entry.{Entry}
use Rattle.session_rules.specs.Tasks.{is_by, own}
use Rattle.session_core.specs.declared.stop.Stop.{Stop}
use Rattle.lane_workers.specs.Doing.{Acted, Halted}

-- ---- entries behind entries

own_append : (a b : List Entry) → own 0 a ≡ a → own 0 b ≡ b → own 0 (a ++ b) ≡ a ++ b
own_append a b x y = filter-append (is_by 0) a b ∙ ap₂ (λ (p q : List Entry). p ++ q) x y

pub acted_more : (P Q R : List Entry → Type 0) (before mid now : List Entry) → Acted P before mid → Acted Q mid now → ((a b : List Entry) → mid ≡ before ++ a → P a → Q b → R (a ++ b)) → Acted R before now
acted_more P Q R before mid now x y both = record {
  made = x.made ++ y.made;
  log = y.log ∙ ap (λ (z : List Entry). z ++ y.made) x.log ∙ append_assoc before x.made y.made;
  alone = own_append x.made y.made x.alone y.alone;
  are = both x.made y.made x.log x.are y.are;
}

pub halted_more : (most : ℕ) (why : Stop) (P : List Entry → Type 0) (Q R : List Entry → Call → Type 0) (before mid now : List Entry) → Acted P before mid → Halted most why Q mid now
    → ((a b : List Entry) (next : Call) → mid ≡ before ++ a → P a → Q b next → R (a ++ b) next) → Halted most why R before now
halted_more most why P Q R before mid now x y both = record {
  made = x.made ++ y.made;
  back = y.back;
  log = y.log ∙ ap (λ (z : List Entry). z ++ y.back) (ap (λ (z : List Entry). z ++ y.made) x.log ∙ append_assoc before x.made y.made);
  alone = own_append x.made y.made x.alone y.alone;
  next = y.next;
  are = both x.made y.made y.next x.log x.are y.are;
  gives_back = y.gives_back;
  reason = y.reason;
}

-- the same may be said otherwise
pub acted_so : (P Q : List Entry → Type 0) (before now : List Entry) → Acted P before now → ((es : List Entry) → now ≡ before ++ es → P es → Q es) → Acted Q before now
acted_so P Q before now x so = record { made = x.made; log = x.log; alone = x.alone; are = so x.made x.log x.are }

pub halted_so : (most : ℕ) (why : Stop) (P Q : List Entry → Call → Type 0) (before now : List Entry) → Halted most why P before now → ((es : List Entry) (next : Call) → P es next → Q es next) → Halted most why Q before now
halted_so most why P Q before now x so = record {
  made = x.made;
  back = x.back;
  log = x.log;
  alone = x.alone;
  next = x.next;
  are = so x.made x.next x.are;
  gives_back = x.gives_back;
  reason = x.reason;
}

-- nothing is called yet
own_none : own 0 [] ≡ []
own_none = refl

pub acted_none : (P : List Entry → Type 0) (log : List Entry) → P [] → Acted P log log
acted_none P log x = record { made = []; log = sym (append-nil log); alone = own_none; are = x }
