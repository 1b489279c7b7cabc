-- The log of a script's session is its serial history, and it has room for that: where the run stops, its log
-- isn't full.
use Rattle.std.proofs.Common.{◌≡◌, ◌∙◌, sym, ap, subst, ℕ, ◌<◌, ◌≤◌, inl, inr, List, [], ◌++◌, length, append-nil, arith}
use Rattle.session_rules.specs.declared.call.Call.{Call}
use Rattle.session_rules.specs.declared.call.Entry.{Entry}
use Rattle.session_rules.specs.declared.fixed.Fixed.{Fixed}
use Rattle.session_rules.specs.declared.line.Line.{Line}
use Rattle.session_rules.specs.Histories.{after, state_after, IsLegal}
use Rattle.session_rules.specs.Tasks.{own}
use Rattle.session_rules.specs.Courses.{IsSerial}
use Rattle.run_laws.specs.Alone.{Stops, in_lanes, in_rounds}
use Rattle.run_laws.specs.Lengths.{most_calls as most_of_course}
use Rattle.run_laws.proofs.Serial.{serial_is_only}
use Rattle.run_laws.proofs.Course.{course_stops_short}
use Rattle.session_script.specs.Asked.{Asked}
use Rattle.session_script.specs.Kept.{IsAccepted}
use Rattle.session_spec.specs.Settings.{Setting, rules}
use Rattle.session_core.specs.declared.stop.Stop.{Stop}
use Rattle.session_core.specs.declared.stop.Stop.TheVariants.{Spent}
use Rattle.run_report.specs.Reports.{setting_asked}
use Rattle.lane_workers.specs.Doing.{Acted, AreSerial, Halted, AreFewSerial}
use Rattle.headline.specs.Asked.{rules_asked}
use Rattle.headline.specs.History.{most_calls, history}
use Rattle.headline.proofs.Setting.{whole}
use Rattle.headline.proofs.Small.{short}

-- ---- the whole run

-- what a run from no call on has called is the serial course
serial_from : (f : Fixed) (present : List ℕ) (lanes : List (List Line)) (now : List Entry) → Acted (AreSerial f present lanes (state_after f [])) [] now → IsSerial f present lanes now
unfolding after
serial_from f present lanes now h =
    let same : now ≡ h.made = h.log in
    record {
      acts = h.are.acts;
      settling = h.are.settling;
      parts = same ∙ h.are.parts;
      alone = subst (λ (z : List Entry). own 0 z ≡ z) (sym same) h.alone;
      follows = h.are.follows;
      settles = h.are.settles;
    }

-- so its log is the history
log_from : (a : Asked) (now : List Entry) → IsLegal (rules_asked a) now → length now ≤ most_calls
    → Acted (AreSerial (rules_asked a) a.present a.lanes (state_after (rules_asked a) [])) [] now → now ≡ history a
unfolding history
log_from a now legal few h =
    let f = rules_asked a in
    serial_is_only most_calls f a.present a.lanes now legal (serial_from f a.present a.lanes now h) few

pub log_is : (a : Asked) (old new : Setting) (before now : List Entry) (present : List ℕ) (lanes : List (List Line)) → old ≡ setting_asked a → new ≡ setting_asked a → before ≡ [] → present ≡ a.present → lanes ≡ a.lanes
    → IsLegal (rules new) now → length now ≤ most_calls → Acted (AreSerial (rules old) present lanes (state_after (rules old) before)) before now → now ≡ history a
log_is a old new before now present lanes is later first here there legal few h =
    log_from a now (subst (λ (w : Setting). IsLegal (rules w) now) later legal) few
    (subst (λ (ls : List (List Line)). Acted (AreSerial (rules_asked a) a.present ls (state_after (rules_asked a) [])) [] now) there
    (subst (λ (ps : List ℕ). Acted (AreSerial (rules_asked a) ps lanes (state_after (rules_asked a) [])) [] now) here
    (subst (λ (es : List Entry). Acted (AreSerial (rules_asked a) present lanes (state_after (rules_asked a) es)) es now) first
    (subst (λ (w : Setting). Acted (AreSerial (rules w) present lanes (state_after (rules w) before)) before now) is h))))

-- ---- a run that stopped

stops_from : (f : Fixed) (present : List ℕ) (lanes : List (List Line)) (es : List Entry) (next : Call) → AreFewSerial f present lanes (state_after f []) es next → Stops f present lanes es next
unfolding after
stops_from f present lanes es next h = elim h.begins [
  | inl early ↦ in_lanes early
  | inr later ↦ in_rounds later.0 later.1 later.2 later.3 later.4
]

full_from : (a : Asked) (now : List Entry) → IsAccepted a → IsLegal (rules_asked a) now
    → Halted most_calls Spent (AreFewSerial (rules_asked a) a.present a.lanes (state_after (rules_asked a) [])) [] now → ⊥
full_from a now accepted legal h =
    let f = rules_asked a in
    let none : h.back ≡ [] = elim h.gives_back [ inl e ↦ e | inr gave ↦ let never = gave.short in cc ] in
    let same : now ≡ h.made = h.log ∙ ap (λ (z : List Entry). h.made ++ z) none ∙ append-nil h.made in
    let stops = stops_from f a.present a.lanes h.made h.next h.are in
    let few = course_stops_short f a.present a.lanes h.made h.next (whole a) (subst (λ (z : List Entry). IsLegal f z) same legal) h.alone stops in
    let most : most_of_course f a.present a.lanes < 8388608 = short a accepted in
    let full : length now ≡ most_calls = h.reason in
    let long : length now ≡ length h.made = ap length same in
    absurd (omega (arith, few, most, full, long))

pub never_full : (a : Asked) (old new : Setting) (before now : List Entry) (present : List ℕ) (lanes : List (List Line)) (most : ℕ) (why : Stop) → IsAccepted a → old ≡ setting_asked a → new ≡ setting_asked a → before ≡ [] → present ≡ a.present
    → lanes ≡ a.lanes → most ≡ most_calls → IsLegal (rules new) now → why ≡ Spent → Halted most why (AreFewSerial (rules old) present lanes (state_after (rules old) before)) before now → ⊥
never_full a old new before now present lanes most why accepted is later first here there room legal full h =
    full_from a now accepted (subst (λ (w : Setting). IsLegal (rules w) now) later legal)
    (subst (λ (x : Stop). Halted most_calls x (AreFewSerial (rules_asked a) a.present a.lanes (state_after (rules_asked a) [])) [] now) full
    (subst (λ (m : ℕ). Halted m why (AreFewSerial (rules_asked a) a.present a.lanes (state_after (rules_asked a) [])) [] now) room
    (subst (λ (ls : List (List Line)). Halted most why (AreFewSerial (rules_asked a) a.present ls (state_after (rules_asked a) [])) [] now) there
    (subst (λ (ps : List ℕ). Halted most why (AreFewSerial (rules_asked a) ps lanes (state_after (rules_asked a) [])) [] now) here
    (subst (λ (es : List Entry). Halted most why (AreFewSerial (rules_asked a) present lanes (state_after (rules_asked a) es)) es now) first
    (subst (λ (w : Setting). Halted most why (AreFewSerial (rules w) present lanes (state_after (rules w) before)) before now) is h))))))
