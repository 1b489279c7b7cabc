-- Histories that go on.
use Rattle.std.proofs.Common.{◌≡◌, ◌∙◌, sym, ap, refl, ℕ, suc, List, [], ◌∷◌, ◌++◌, length, arith}
use Rattle.session_rules.specs.declared.call.Call.{Call}
use Rattle.session_rules.specs.declared.call.Entry.{Entry}
use Rattle.session_rules.specs.declared.state.CircuitState.TheVariants.{Taken}
use Rattle.session_rules.specs.declared.fixed.Fixed.{Fixed}
use Rattle.session_rules.specs.States.{State, circuit, opening}
use Rattle.session_rules.specs.Steps.{step}
use Rattle.session_rules.specs.Histories.{after, replayed, state_after, IsLegal}
use Rattle.session_rules.specs.Facts.{LegalOnesGrow, NextState, BeginningsAreLegal, StatesLeadOn, LaterOnesFollow, NoneBy, TakenStaysOn, Kept}
use Rattle.session_rules.proofs.Keeps.{state_kept, after_next, step_next}
use Rattle.session_rules.proofs.Presence.{taken_stays}

pub after_append : (f : Fixed) (s : State) (es more : List Entry) → after f s (es ++ more) ≡ after f (after f s es) more
unfolding after
after_append f s [] more = refl
after_append f s (e ∷ es) more = after_append f (step f s e.caller e.call).1 es more

pub replayed_append : (f : Fixed) (s : State) (es more : List Entry) → replayed f s (es ++ more) ≡ replayed f s es ++ replayed f (after f s es) more
unfolding after replayed
replayed_append f s [] more = refl
replayed_append f s (e ∷ es) more = ap (λ (z : List Entry). record e { reply = (step f s e.caller e.call).0 } ∷ z) (replayed_append f (step f s e.caller e.call).1 es more)

pub replayed_length : (f : Fixed) (s : State) (es : List Entry) → length (replayed f s es) ≡ length es
unfolding replayed
replayed_length f s [] = refl
replayed_length f s (e ∷ es) = ap suc (replayed_length f (step f s e.caller e.call).1 es)

pub states_lead_on : StatesLeadOn
states_lead_on f es more = after_append f (opening f) es more

one_after : (f : Fixed) (s : State) (e : Entry) → after f s (e ∷ []) ≡ (step f s e.caller e.call).1
unfolding after
one_after f s e = refl

pub next_state : NextState
next_state f es e = after_append f (opening f) es (e ∷ []) ∙ one_after f (state_after f es) e

one_replayed : (f : Fixed) (s : State) (caller : ℕ) (c : Call) → replayed f s (record { caller = caller; call = c; reply = (step f s caller c).0 } ∷ []) ≡ record { caller = caller; call = c; reply = (step f s caller c).0 } ∷ []
unfolding replayed
one_replayed f s caller c = refl

pub legal_ones_grow : LegalOnesGrow
legal_ones_grow f es caller c legal =
    replayed_append f (opening f) es _ ∙ rw (legal, one_replayed f (state_after f es) caller c) refl

-- two lists that are as long, with what is behind them
same_parts : (xs ys more less : List Entry) → length xs ≡ length ys → xs ++ more ≡ ys ++ less → (xs ≡ ys) × (more ≡ less)
same_parts [] [] more less l e = (refl, e)
same_parts [] (y ∷ ys) more less l e = absurd (omega arith)
same_parts (x ∷ xs) [] more less l e = absurd (omega arith)
same_parts (x ∷ xs) (y ∷ ys) more less l e =
    let head : x ≡ y = cc in
    let tail : xs ++ more ≡ ys ++ less = cc in
    let rest = same_parts xs ys more less (omega arith) tail in
    let front = rest.0 in
    (cc, rest.1)

legal_parts : (f : Fixed) (es more : List Entry) → IsLegal f (es ++ more) → IsLegal f es × (replayed f (state_after f es) more ≡ more)
legal_parts f es more legal =
    same_parts (replayed f (opening f) es) es (replayed f (after f (opening f) es) more) more (replayed_length f (opening f) es) (sym (replayed_append f (opening f) es more) ∙ legal)

pub beginnings_are_legal : BeginningsAreLegal
beginnings_are_legal f es more legal = (legal_parts f es more legal).0

-- and so is what comes behind it
pub ends_legal : (f : Fixed) (es more : List Entry) → IsLegal f (es ++ more) → replayed f (state_after f es) more ≡ more
ends_legal f es more legal = (legal_parts f es more legal).1

pub later_ones_follow : LaterOnesFollow
later_ones_follow f es more = rw (states_lead_on f es more) (after_next f (state_after f es) more (state_kept f es)).1

taken_after : (f : Fixed) (s : State) (es : List Entry) (who c : ℕ) → Kept f s → NoneBy who es → circuit s.circuits c ≡ Taken who → circuit (after f s es).circuits c ≡ Taken who
unfolding after
taken_after f s [] who c k n e = e
taken_after f s (x ∷ es) who c k n e =
    let t : State = (step f s x.caller x.call).1 in
    taken_after f t es who c (step_next f s x.caller x.call k).0 n.1 (taken_stays f s x.caller who x.call c k n.0 e)

pub taken_stays_on : TakenStaysOn
taken_stays_on f es more who c n e = rw (states_lead_on f es more) (taken_after f (state_after f es) more who c (state_kept f es) n e)
