-- Whole reports in which no digest stands, of sessions in which nothing is evaluated or complete; and what a digest is of.
use Rattle.std.proofs.Common.{◌≡◌, ℕ, List, [], ◌∷◌, ◌++◌, codes, refl, ap, ◌∙◌}
use Rattle.std.specs.Fmt.{digits}
use Rattle.sha2.specs.Sha256.{sha256}
use Rattle.hex.specs.Hex.{encode_lower}
use Rattle.share_spec.specs.Sets.{has, members_to, members}
use Rattle.proto_names.specs.Groups.{is_outside}
use Rattle.proto_names.specs.declared.signature.Signature.TheVariants.{Pk}
use Rattle.proto_names.specs.declared.instance.Instance.{Instance}
use Rattle.proto_names.specs.declared.instance.Stage.TheVariants.{Opened, Complete}
use Rattle.session_rules.specs.declared.state.CircuitState.{CircuitState}
use Rattle.session_rules.specs.declared.state.CircuitState.TheVariants.{Idle, Taken, Evaluated, Answered}
use Rattle.session_rules.specs.States.{State, circuit, seen}
use Rattle.session_spec.specs.Settings.{rules, plain_at}
use Rattle.session_spec.specs.Outputs.{keys_in, output_of}
use Rattle.session_state.specs.declared.standing.Standing.{Standing}
use Rattle.session_state.specs.Standings.{setting}
use Rattle.event_lines.specs.Lists.{following, by_commas}
use Rattle.event_lines.specs.Names.{signature_text, set_text, outside_to, outside_text}
use Rattle.event_lines.specs.Events.{call_text, reply_text, entry_text, event_line}
use Rattle.event_lines.specs.Instances.{open_text, stage_text, instance_head, instance_text, instance_line}
use Rattle.run_report.specs.Digests.{poly_bytes, polys_digest, cipher_digest}
use Rattle.run_report.specs.Lines.{output_line}
use Rattle.run_report.specs.Reports.{setting_asked, seeds_asked, refused_line, open_line, state_line, circuit_text, output_text, report_in, report}
use Rattle.run_report.specs.Reports.{instance_text as text_of_instance}
use Rattle.run_report.specs.Told.{told_circuit, told_output, told_digest, told_instance}
use Rattle.session_rows.proofs.Words.{joins, rests, issued, none, one_two}
use Rattle.session_rows.proofs.Computed.{plans}
use Rattle.session_rows.proofs.Computed.{rules as computed}
use Rattle.run_rows.proofs.Texts.{about, sum, flooded_one}

-- ---- what a digest is of: eight bytes a coefficient, the least first, one polynomial after the other, c0 before c1

pub bytes_are : (poly_bytes (258 ∷ 1 ∷ []) ≡ 2 ∷ 1 ∷ 0 ∷ 0 ∷ 0 ∷ 0 ∷ 0 ∷ 0 ∷ 1 ∷ 0 ∷ 0 ∷ 0 ∷ 0 ∷ 0 ∷ 0 ∷ 0 ∷ []) × (poly_bytes [] ≡ [])
unfolding poly_bytes
bytes_are = (refl, refl)

abbrev pub bytes_of_two : List ℕ
bytes_of_two = 5 ∷ 0 ∷ 0 ∷ 0 ∷ 0 ∷ 0 ∷ 0 ∷ 0 ∷ 6 ∷ 0 ∷ 0 ∷ 0 ∷ 0 ∷ 0 ∷ 0 ∷ 0 ∷ []

pub digests_are : (polys_digest ((5 ∷ []) ∷ (6 ∷ []) ∷ []) ≡ encode_lower (sha256 bytes_of_two)) × (cipher_digest (record { c0 = 5 ∷ []; c1 = 6 ∷ [] }) ≡ encode_lower (sha256 bytes_of_two))
unfolding cipher_digest polys_digest poly_bytes
digests_are = (refl, refl)

pub output_line_is : output_line (codes "c") (record { c0 = 5 ∷ []; c1 = 6 ∷ [] }) ≡ codes "output c " ++ encode_lower (sha256 bytes_of_two) ++ codes "\n"
unfolding output_line cipher_digest polys_digest poly_bytes
output_line_is = refl

-- ---- nobody was present, and six rounds found nothing to take

abbrev pub six_rests : List ℕ
six_rests = codes "event 0 take nothing\nevent 0 take nothing\nevent 0 take nothing\nevent 0 take nothing\nevent 0 take nothing\nevent 0 take nothing\n"

pub report_of_nobody : report (about (sum ∷ [])) (rests ∷ rests ∷ rests ∷ rests ∷ rests ∷ rests ∷ []) ≡ codes "circuit c open\n" ++ six_rests
unfolding report report_in circuit_text output_text state_line open_line event_line entry_text call_text reply_text rules setting_asked plans computed digits
report_of_nobody = refl

-- ---- a circuit is refused

pub report_of_refused : report flooded_one (joins 1 ∷ []) ≡ codes "circuit k refused output bound 240514433191 limit 240514433190\nevent 0 join 1 joined\n"
unfolding report report_in circuit_text output_text state_line refused_line event_line entry_text call_text reply_text following rules setting_asked plans computed digits
report_of_refused = refl

-- ---- an instance is open: circuits stand before instances, and these before events

abbrev pub opened : Instance
opened = issued 1 Pk one_two 1 none Opened 0

pub report_in_between : report_in (about (sum ∷ [])) (seen 3 (opened ∷ []) ([] ∷ []) (Taken 4 ∷ [])) (joins 1 ∷ joins 2 ∷ []) ≡ codes "circuit c open\ninstance 1 pk 1,2 attempt 1 open 1,2\nevent 0 join 1 joined\nevent 0 join 2 joined\n"
unfolding report_in circuit_text output_text text_of_instance state_line open_line instance_line instance_text instance_head stage_text open_text signature_text set_text outside_text outside_to is_outside members members_to has by_commas event_line entry_text call_text reply_text following digits
report_in_between = refl

-- an evaluated circuit has an output, up to its digest; no other has one
abbrev with_circuit : CircuitState → State
with_circuit now = seen 3 [] ([] ∷ []) (now ∷ [])

pub output_of_open : (output_text (about (sum ∷ [])) (with_circuit Idle) 0 ≡ []) × (output_text (about (sum ∷ [])) (with_circuit (Taken 2)) 0 ≡ [])
unfolding output_text
output_of_open = (refl, refl)

abbrev output_is : List ℕ
output_is = output_line (codes "c") (output_of (setting_asked (about (sum ∷ []))) (seeds_asked (about (sum ∷ []))) (keys_in (setting_asked (about (sum ∷ []))) (seeds_asked (about (sum ∷ []))) [] 0) 0)

pub output_of_evaluated : (output_text (about (sum ∷ [])) (with_circuit Evaluated) 0 ≡ output_is) × (output_text (about (sum ∷ [])) (with_circuit Answered) 0 ≡ output_is)
unfolding output_text
output_of_evaluated = (refl, refl)

-- ---- the same lines by what a session has: any in which the one circuit is so far

open_is : (value : List ℕ) → state_line (codes "c") value Idle ≡ codes "circuit c open\n"
unfolding state_line open_line
open_is value = refl

pub told_open : (st : Standing) → st.states.items ≡ Idle ∷ [] → told_circuit (codes "c") st 0 ≡ codes "circuit c open\n"
unfolding told_circuit
told_open st idle = ap (λ (cs : List CircuitState). state_line (codes "c") (plain_at (setting st) 0) (circuit cs 0)) idle ∙ open_is (plain_at (setting st) 0)

pub told_no_output : (st : Standing) (master : List ℕ) → st.states.items ≡ Idle ∷ [] → told_output (codes "c") st master 0 ≡ []
unfolding told_output
told_no_output st master idle = rw idle refl

-- an open instance's line has no digest
pub told_opened : (st : Standing) (master : List ℕ) → told_instance st master opened ≡ codes "instance 1 pk 1,2 attempt 1 open 1,2\n"
unfolding told_instance instance_line instance_text instance_head stage_text open_text signature_text set_text outside_text outside_to is_outside members members_to has by_commas digits
told_opened st master = refl

-- behind a complete one stands the digest of its sums
pub told_complete : (st : Standing) (master : List ℕ) → told_instance st master (issued 1 Pk one_two 1 one_two Complete 0)
    ≡ codes "instance 1 pk 1,2 attempt 1 complete " ++ told_digest st master (issued 1 Pk one_two 1 one_two Complete 0) ++ codes "\n"
unfolding told_instance instance_line instance_text instance_head stage_text signature_text set_text members members_to has by_commas digits
told_complete st master = refl
