-- Settling, and the serial course: nothing else keeps them than their runs.
use Rattle.std.proofs.Common.{◌≡◌, ◌∙◌, sym, ap, subst, refl, ℕ, zero, suc, ◌+◌, ◌≤◌, Bool, true, false, ◌⊎◌, List, [], ◌++◌, length, arith}
use Rattle.std.proofs.lemmas.List.{length-append}
use Rattle.session_rules.specs.declared.call.Call.{Call}
use Rattle.session_rules.specs.declared.call.Entry.{Entry}
use Rattle.session_rules.specs.declared.line.Line.{Line}
use Rattle.session_rules.specs.declared.fixed.Fixed.{Fixed}
use Rattle.session_rules.specs.States.{State, opening}
use Rattle.session_rules.specs.Histories.{after}
use Rattle.session_rules.specs.Tasks.{run}
use Rattle.session_rules.specs.Courses.{to_do, Follows, BreaksOff, Unsettled, is_settled, round_tasks, serial_tasks, Settles, rounds, settling_run, serial_run}
use Rattle.run_laws.specs.Alone.{SettlingIsOnly, SerialIsOnly}
use Rattle.run_laws.proofs.Replies.{AreBy, all_own, by_first, by_second, Replied, replayed_replied, replied_first, replied_second}
use Rattle.run_laws.proofs.Alone.{only}

-- ---- rounds

-- what is left to be done where a session is settled, and where it isn't
abbrev pub Rounds : ℕ → Fixed → ℕ → State → Bool → List Entry → Type 0
Rounds n f who s b es = elim b as (λ x. Type 0) [
  | true ↦ es ≡ []
  | false ↦ (here : List Entry) × (rest : List Entry) × (es ≡ here ++ rest) × Follows f.rows (round_tasks s) here × Settles n f who (after f s here) rest
]

-- the rounds that are left where it stops
abbrev pub Stopping : ℕ → Fixed → ℕ → State → Bool → List Entry → Call → Type 0
Stopping n f who s b es next = elim b as (λ x. Type 0) [
  | true ↦ ⊥
  | false ↦ BreaksOff f.rows (round_tasks s) es next
      ⊎ ((here : List Entry) × (rest : List Entry) × (es ≡ here ++ rest) × Follows f.rows (round_tasks s) here × Unsettled n f who (after f s here) rest next)
]

pub settling_none : (most : ℕ) (f : Fixed) (who : ℕ) (s : State) → settling_run zero most f who s ≡ []
unfolding settling_run
settling_none most f who s = refl

pub settling_over : (n most : ℕ) (f : Fixed) (who : ℕ) (s : State) → is_settled s ≡ true → settling_run (suc n) most f who s ≡ []
unfolding settling_run
settling_over n most f who s e = rw (e, settling_run) refl

pub settling_more : (n most : ℕ) (f : Fixed) (who : ℕ) (s : State) → is_settled s ≡ false
    → settling_run (suc n) most f who s ≡ run most f who s (to_do (round_tasks s)) ++ settling_run n most f who (after f s (run most f who s (to_do (round_tasks s))))
unfolding settling_run
settling_more n most f who s e = rw (e, settling_run) refl

-- entries in two parts, each of them a run
two_runs : (most : ℕ) (f : Fixed) (s : State) (here rest first : List Entry) (second : State → List Entry) → here ≡ first → rest ≡ second (after f s here) → here ++ rest ≡ first ++ second (after f s first)
two_runs most f s here rest first second a b = ap (λ (z : List Entry). here ++ z) b ∙ ap (λ (z : List Entry). z ++ second (after f s z)) a

rounds_then : (n most : ℕ) (f : Fixed) (who : ℕ) (s : State) (es : List Entry) → AreBy who es → Replied f s es → length es ≤ most
    → ((t : State) (more : List Entry) → AreBy who more → Replied f t more → Settles n f who t more → length more ≤ most → more ≡ settling_run n most f who t)
    → (b : Bool) → is_settled s ≡ b → Rounds n f who s b es → es ≡ settling_run (suc n) most f who s
rounds_then n most f who s es by replied l more true e h = h ∙ sym (settling_over n most f who s e)
rounds_then n most f who s es by replied l more false e h =
    let here = h.0 in
    let rest = h.1 in
    let by_ : AreBy who (here ++ rest) = subst (AreBy who) h.2 by in
    let replied_ : Replied f s (here ++ rest) = subst (Replied f s) h.2 replied in
    let lengths : length es ≡ length here + length rest = ap length h.2 ∙ length-append here rest in
    let first = only most f who s (to_do (round_tasks s)) (record { hand = h.3.hand; tasks = [] }) here (by_first who here rest by_) (replied_first f s here rest replied_) h.3.follows refl (omega arith) in
    let second = more (after f s here) rest (by_second who here rest by_) (replied_second f s here rest replied_) h.4 (omega arith) in
    h.2 ∙ two_runs most f s here rest (run most f who s (to_do (round_tasks s))) (settling_run n most f who) first second ∙ sym (settling_more n most f who s e)

settling_only : (n most : ℕ) (f : Fixed) (who : ℕ) (s : State) (es : List Entry) → AreBy who es → Replied f s es → Settles n f who s es → length es ≤ most → es ≡ settling_run n most f who s
settling_only zero most f who s es by replied h l = h ∙ sym (settling_none most f who s)
settling_only (suc n) most f who s es by replied h l = rounds_then n most f who s es by replied l (settling_only n most f who) (is_settled s) refl h

pub settling_is_only : SettlingIsOnly
settling_is_only n most f who s es alone legal h l = settling_only n most f who s es (all_own who es alone) (replayed_replied f s es legal) h l

-- ---- the serial course

pub serial_parts : (most : ℕ) (f : Fixed) (present : List ℕ) (lanes : List (List Line))
    → serial_run most f present lanes
    ≡ run most f 0 (opening f) (to_do (serial_tasks present lanes)) ++ settling_run rounds most f 0 (after f (opening f) (run most f 0 (opening f) (to_do (serial_tasks present lanes))))
unfolding serial_run
serial_parts most f present lanes = refl

pub serial_is_only : SerialIsOnly
serial_is_only most f present lanes es legal is l =
    let by : AreBy 0 (is.acts ++ is.settling) = subst (AreBy 0) is.parts (all_own 0 es is.alone) in
    let replied : Replied f (opening f) (is.acts ++ is.settling) = subst (Replied f (opening f)) is.parts (replayed_replied f (opening f) es legal) in
    let lengths : length es ≡ length is.acts + length is.settling = ap length is.parts ∙ length-append is.acts is.settling in
    let acts = only most f 0 (opening f) (to_do (serial_tasks present lanes)) (record { hand = is.follows.hand; tasks = [] }) is.acts
    (by_first 0 is.acts is.settling by) (replied_first f (opening f) is.acts is.settling replied) is.follows.follows refl (omega arith) in
    let settles = settling_only rounds most f 0 (after f (opening f) is.acts) is.settling
    (by_second 0 is.acts is.settling by) (replied_second f (opening f) is.acts is.settling replied) is.settles (omega arith) in
    is.parts ∙ two_runs most f (opening f) is.acts is.settling (run most f 0 (opening f) (to_do (serial_tasks present lanes))) (settling_run rounds most f 0) acts settles
    ∙ sym (serial_parts most f present lanes)
