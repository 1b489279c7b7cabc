-- What is printed of circuits that are refused, and of complete instances.
use Rattle.std.proofs.Common.{◌≡◌, ◌∙◌, ap, refl, ℕ, ◌<◌, false, inl, inr, ◌⊎◌, List, [], length, Contains, Option, Some, None}
use Rattle.std.specs.Prelude.{cond}
use Rattle.proto_names.specs.declared.sets.PartySet.{PartySet}
use Rattle.proto_names.specs.declared.instance.Instance.{Instance}
use Rattle.proto_names.specs.declared.instance.Stage.TheVariants.{Complete}
use Rattle.circuit_form.specs.declared.node.Node.{Node}
use Rattle.noise_ledger.specs.declared.over.Place.{Place}
use Rattle.param_set.specs.Numbers.{Numbers as Bounding}
use Rattle.noise_ledger.specs.Bounds.{limit}
use Rattle.noise_ledger.specs.Ledger.{first_over, place_bound}
use Rattle.session_rules.specs.declared.call.Entry.{Entry}
use Rattle.session_rules.specs.declared.state.CircuitState.{CircuitState}
use Rattle.session_rules.specs.declared.state.CircuitState.TheVariants.{Refused, Idle, Taken, Evaluated, Answered}
use Rattle.session_rules.specs.declared.fixed.Plan.{Plan}
use Rattle.session_rules.specs.States.{State, circuit, plan, is_refused}
use Rattle.session_rules.specs.Facts.{is_settled}
use Rattle.session_rules.specs.Fixing.{plan_of, begins_as}
use Rattle.session_rules.proofs.Keeps.{state_kept}
use Rattle.session_rules.proofs.Deliveries.{complete_ones_have_all}
use Rattle.session_spec.specs.Shares.{sum_rows}
use Rattle.session_spec.specs.Outputs.{sums_of}
use Rattle.event_lines.specs.Instances.{instance_line}
use Rattle.session_script.specs.Asked.{Asked}
use Rattle.run_report.specs.Digests.{polys_digest}
use Rattle.run_report.specs.Lines.{circuit_line, output_line}
use Rattle.run_report.specs.Reports.{bounding, name_at, refused_line, open_line, state_line, circuit_text, output_text, instance_text, report, report_in}
use Rattle.headline.specs.Asked.{rules_asked, state_of, nodes_asked, plain, output, aggregate}
use Rattle.headline.specs.Headline.{IsTold, Judged, IsAggregate}
use Rattle.headline.proofs.Setting.{plan_is}
use Rattle.headline.proofs.Refused.{stays_refused, others_are_not_refused}

-- ---- circuits

opening_is : (p : Bounding) (nodes : List Node) → (plan_of p nodes).opening ≡ begins_as p nodes (first_over p nodes)
unfolding plan_of
opening_is p nodes = refl

-- how a circuit of a script begins
begins : (a : Asked) (c : ℕ) → c < length a.circuits → (plan (rules_asked a) c).opening ≡ begins_as (bounding a) (nodes_asked a c) (first_over (bounding a) (nodes_asked a c))
begins a c l = ap (λ (z : Plan). z.opening) (plan_is a c l) ∙ opening_is (bounding a) (nodes_asked a c)

line_of : (name value : List ℕ) (now : CircuitState) → is_refused now ≡ false → (state_line name value now ≡ circuit_line name value) ⊎ (state_line name value now ≡ open_line name)
unfolding state_line
line_of name value (Refused place bound limit_) e = cc
line_of name value Idle e = inr refl
line_of name value (Taken who) e = inr refl
line_of name value Evaluated e = inr refl
line_of name value Answered e = inl refl

text_of : (a : Asked) (s : State) (c : ℕ) (now : CircuitState) → circuit s.circuits c ≡ now → circuit_text a s c ≡ state_line (name_at a c) (plain a c) now
unfolding circuit_text
text_of a s c now e = ap (state_line (name_at a c) (plain a c)) e

pub answered_text : (a : Asked) (s : State) (c : ℕ) → circuit s.circuits c ≡ Answered → circuit_text a s c ≡ circuit_line (name_at a c) (plain a c)
unfolding state_line
answered_text a s c e = text_of a s c Answered e

open_of : (name value : List ℕ) (now : CircuitState) → is_refused now ≡ false → (now ≡ Answered → ⊥) → state_line name value now ≡ open_line name
unfolding state_line
open_of name value (Refused place bound limit_) e n = cc
open_of name value Idle e n = refl
open_of name value (Taken who) e n = refl
open_of name value Evaluated e n = refl
open_of name value Answered e n = absurd (n refl)

pub open_text : (a : Asked) (s : State) (c : ℕ) → is_refused (circuit s.circuits c) ≡ false → (circuit s.circuits c ≡ Answered → ⊥) → circuit_text a s c ≡ open_line (name_at a c)
open_text a s c free n = text_of a s c (circuit s.circuits c) refl ∙ open_of (name_at a c) (plain a c) (circuit s.circuits c) free n

pub output_told : (a : Asked) (s : State) (c : ℕ) → circuit s.circuits c ≡ Answered → output_text a s c ≡ output_line (name_at a c) (output a s c)
unfolding output_text
output_told a s c e = ap (λ (z : CircuitState). cond (is_settled z) (output_line (name_at a c) (output a s c)) []) e

pub lines_told : (a : Asked) (es : List Entry) → IsTold a (state_of a es) es (report a es)
unfolding report report_in
lines_told a es = refl

refused_text : (name value : List ℕ) (place : Place) (bound most : ℕ) → state_line name value (Refused place bound most) ≡ refused_line name place bound most
unfolding state_line
refused_text name value place bound most = refl

refused_opening : (p : Bounding) (nodes : List Node) (place : Place) → begins_as p nodes (Some place) ≡ Refused place (place_bound p nodes place) (limit p)
unfolding begins_as
refused_opening p nodes place = refl

idle_opening : (p : Bounding) (nodes : List Node) → is_refused (begins_as p nodes None) ≡ false
unfolding begins_as
idle_opening p nodes = refl

judged_by : (a : Asked) (es : List Entry) (c : ℕ) → c < length a.circuits → (o : Option Place) → first_over (bounding a) (nodes_asked a c) ≡ o → Judged a (state_of a es) c o
judged_by a es c l None e =
    let s = state_of a es in
    let opening = begins a c l ∙ ap (begins_as (bounding a) (nodes_asked a c)) e in
    let free : is_refused (circuit s.circuits c) ≡ false = others_are_not_refused (rules_asked a) es c ∙ ap is_refused opening ∙ idle_opening (bounding a) (nodes_asked a c) in
    let text = text_of a s c (circuit s.circuits c) refl in
    elim (line_of (name_at a c) (plain a c) (circuit s.circuits c) free) [
      | inl told ↦ inl (text ∙ told)
      | inr told ↦ inr (text ∙ told)
    ]
judged_by a es c l (Some place) e =
    let p = bounding a in
    let nodes = nodes_asked a c in
    let opening = begins a c l ∙ ap (begins_as p nodes) e ∙ refused_opening p nodes place in
    let now = stays_refused (rules_asked a) es c place (place_bound p nodes place) (limit p) opening in
    text_of a (state_of a es) c (Refused place (place_bound p nodes place) (limit p)) now ∙ refused_text (name_at a c) (plain a c) place (place_bound p nodes place) (limit p)

pub judged : (a : Asked) (es : List Entry) (c : ℕ) → c < length a.circuits → Judged a (state_of a es) c (first_over (bounding a) (nodes_asked a c))
judged a es c l = judged_by a es c l (first_over (bounding a) (nodes_asked a c)) refl

-- ---- instances

text_same : (a : Asked) (s : State) (i : Instance) → i.sent ≡ i.set → instance_text a s i ≡ instance_line i (polys_digest (aggregate a s i))
unfolding instance_text aggregate sums_of
text_same a s i e = ap (λ (z : List (List ℕ)). instance_line i (polys_digest z)) (ap (sum_rows _ _ _ _) (ap (λ (z : PartySet). z.bits) e))

pub aggregated : (a : Asked) (es : List Entry) (i : Instance) → Contains (state_of a es).instances i → i.stage ≡ Complete → IsAggregate a (state_of a es) i
aggregated a es i m e =
    let f = rules_asked a in
    let s = state_of a es in
    let k = state_kept f es in
    let all = complete_ones_have_all f s i k m e in
    record { parties = (k.sound i m).parties; sent = all; printed = text_same a s i all }
