-- Entries by one caller, and entries with the replies that they have to have, one by one.
use Rattle.std.proofs.Common.{◌≡◌, ◌∙◌, sym, ap, refl, ℕ, Bool, true, false, List, [], ◌∷◌, ◌++◌, length, nat_eq, arith}
use Rattle.std.specs.Prelude.{⊤}
use Rattle.std.proofs.lemmas.Bool.{both_ways, eq-eqb, eqb-true}
use Rattle.session_rules.specs.declared.call.Entry.{Entry}
use Rattle.session_rules.specs.declared.reply.Reply.{Reply}
use Rattle.session_rules.specs.declared.fixed.Fixed.{Fixed}
use Rattle.session_rules.specs.States.{State}
use Rattle.session_rules.specs.Steps.{step}
use Rattle.session_rules.specs.Histories.{after, replayed}
use Rattle.session_rules.specs.Facts.{NoneBy}
use Rattle.session_rules.specs.Tasks.{is_by, own}
use Rattle.session_rules.proofs.Weights.{passing_all}

-- ---- by one caller

abbrev pub AreBy : ℕ → List Entry → Type 0
AreBy who [] = ⊤
AreBy who (e ∷ es) = (e.caller ≡ who) × AreBy who es

pub own_yes : (who : ℕ) (e : Entry) (es : List Entry) → e.caller ≡ who → own who (e ∷ es) ≡ e ∷ own who es
own_yes who e es its = let yes_ : nat_eq e.caller who ≡ true = eq-eqb e.caller who its in rw yes_ refl

pub own_no : (who : ℕ) (e : Entry) (es : List Entry) → nat_eq e.caller who ≡ false → own who (e ∷ es) ≡ own who es
own_no who e es no_ = rw no_ refl

pub own_all : (who : ℕ) (es : List Entry) → AreBy who es → own who es ≡ es
own_all who [] by = refl
own_all who (e ∷ es) by = own_yes who e es by.0 ∙ ap (λ (z : List Entry). e ∷ z) (own_all who es by.1)

by_then : (who : ℕ) (e : Entry) (es : List Entry) → (own who es ≡ es → AreBy who es) → (b : Bool) → nat_eq e.caller who ≡ b → own who (e ∷ es) ≡ e ∷ es → AreBy who (e ∷ es)
by_then who e es more true yes_ h =
    let its : e.caller ≡ who = eqb-true e.caller who yes_ in
    let tail : e ∷ own who es ≡ e ∷ es = sym (own_yes who e es its) ∙ h in
    let same : own who es ≡ es = cc in
    (its, more same)
by_then who e es more false no_ h =
    absurd (omega (arith, passing_all (is_by who) es, ap length (sym (own_no who e es no_) ∙ h)))

pub all_own : (who : ℕ) (es : List Entry) → own who es ≡ es → AreBy who es
all_own who [] h = tt
all_own who (e ∷ es) h = by_then who e es (all_own who es) (nat_eq e.caller who) refl h

pub by_first : (who : ℕ) (es more : List Entry) → AreBy who (es ++ more) → AreBy who es
by_first who [] more by = tt
by_first who (e ∷ es) more by = (by.0, by_first who es more by.1)

pub by_second : (who : ℕ) (es more : List Entry) → AreBy who (es ++ more) → AreBy who more
by_second who [] more by = by
by_second who (e ∷ es) more by = by_second who es more by.1

pub by_both : (who : ℕ) (es more : List Entry) → AreBy who es → AreBy who more → AreBy who (es ++ more)
by_both who [] more a b = b
by_both who (e ∷ es) more a b = (a.0, by_both who es more a.1 b)

-- none is by a caller
none_then : (who : ℕ) (e : Entry) (es : List Entry) → (own who es ≡ [] → NoneBy who es) → (b : Bool) → nat_eq e.caller who ≡ b → own who (e ∷ es) ≡ [] → NoneBy who (e ∷ es)
none_then who e es more true yes_ h = let some_ : e ∷ own who es ≡ [] = sym (own_yes who e es (eqb-true e.caller who yes_)) ∙ h in cc
none_then who e es more false no_ h = (λ same. both_ways (nat_eq e.caller who) no_ (eq-eqb e.caller who (sym same)), more (sym (own_no who e es no_) ∙ h))

pub own_none : (who : ℕ) (es : List Entry) → own who es ≡ [] → NoneBy who es
own_none who [] h = tt
own_none who (e ∷ es) h = none_then who e es (own_none who es) (nat_eq e.caller who) refl h

-- ---- with their replies

abbrev pub Replied : Fixed → State → List Entry → Type 0
Replied f s [] = ⊤
Replied f s (e ∷ es) = (e.reply ≡ (step f s e.caller e.call).0) × Replied f (step f s e.caller e.call).1 es

pub replied_replayed : (f : Fixed) (s : State) (es : List Entry) → Replied f s es → replayed f s es ≡ es
unfolding replayed
replied_replayed f s [] h = refl
replied_replayed f s (e ∷ es) h =
    let first : record e { reply = (step f s e.caller e.call).0 } ≡ e = ap (λ (z : Reply). record e { reply = z }) (sym h.0) in
    ap (λ (z : Entry). z ∷ replayed f (step f s e.caller e.call).1 es) first ∙ ap (λ (z : List Entry). e ∷ z) (replied_replayed f (step f s e.caller e.call).1 es h.1)

pub replayed_replied : (f : Fixed) (s : State) (es : List Entry) → replayed f s es ≡ es → Replied f s es
unfolding replayed
replayed_replied f s [] h = tt
replayed_replied f s (e ∷ es) h =
    let t : State = (step f s e.caller e.call).1 in
    let first : record e { reply = (step f s e.caller e.call).0 } ≡ e = cc in
    let rest : replayed f t es ≡ es = cc in
    (ap (λ (z : Entry). z.reply) (sym first), replayed_replied f t es rest)

pub replied_first : (f : Fixed) (s : State) (es more : List Entry) → Replied f s (es ++ more) → Replied f s es
replied_first f s [] more h = tt
replied_first f s (e ∷ es) more h = (h.0, replied_first f (step f s e.caller e.call).1 es more h.1)

pub replied_second : (f : Fixed) (s : State) (es more : List Entry) → Replied f s (es ++ more) → Replied f (after f s es) more
unfolding after
replied_second f s [] more h = h
replied_second f s (e ∷ es) more h = replied_second f (step f s e.caller e.call).1 es more h.1

pub replied_both : (f : Fixed) (s : State) (es more : List Entry) → Replied f s es → Replied f (after f s es) more → Replied f s (es ++ more)
unfolding after
replied_both f s [] more a b = b
replied_both f s (e ∷ es) more a b = (a.0, replied_both f (step f s e.caller e.call).1 es more a.1 b)
