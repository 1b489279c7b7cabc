-- The sections of a report, one line at a time, and the whole of them.
use Rattle.std.proofs.Common.{◌≡◌, ◌∙◌, ap, ap₂, sym, subst, refl, ℕ, ◌+◌, ◌-◌, ◌<◌, Bool, false, cond, Some, None, List, [], ◌∷◌, ◌++◌, length, get_or, take, codes, arith}
use Rattle.std.specs.Prelude.{nat_eq}
use Rattle.std.specs.List.{range_with_len, flat_map, slice_get}
use Rattle.std.proofs.lemmas.List.{take_more, flat_map_more, length-map}
use Rattle.std.proofs.lemmas.Bool.Decides.{nat_tests}
use Rattle.std.proofs.lemmas.Option.{slice_get-get_or}
use Rattle.proto_names.specs.Instances.{instance}
use Rattle.proto_names.specs.declared.instance.Instance.{Instance}
use Rattle.proto_names.specs.declared.instance.Stage.{Stage}
use Rattle.proto_names.specs.declared.instance.Stage.TheVariants.{Opened, Complete, Void}
use Rattle.session_rules.specs.declared.call.Entry.{Entry}
use Rattle.session_rules.specs.States.{State, circuit}
use Rattle.session_rules.specs.Histories.{state_after}
use Rattle.session_script.specs.Asked.{Asked}
use Rattle.session_spec.specs.Settings.{Setting, rules, plain_at}
use Rattle.session_spec.specs.Outputs.{keys_in, output_of, sums_of}
use Rattle.session_state.specs.declared.standing.Standing.{Standing}
use Rattle.session_state.specs.Standings.{setting, state, rules_of}
use Rattle.session_rules.specs.Facts.{is_settled, Numbered}
use Rattle.session_rules.proofs.Keeps.{state_kept}
use Rattle.event_lines.specs.Instances.{stage_text, instance_head, instance_text as text_of, instance_line}
use Rattle.event_lines.specs.Events.{event_line}
use Rattle.run_report.specs.Digests.{polys_digest}
use Rattle.run_report.specs.Lines.{output_line}
use Rattle.run_report.specs.Reports.{setting_asked, seeds_asked, offered, state_line, name_at, circuit_text, output_text, instance_text, places, report_in, report}
use Rattle.run_report.proofs.Rows.{none_yet, range_push}
use Rattle.run_report.specs.Told.{seeds_of, told_circuit, told_output, told_digest, told_instance}

-- ---- one line more

places_more : (f : ℕ → List ℕ) (bs line : List ℕ) (c : ℕ) → line ≡ f c → (bs ++ flat_map f (range_with_len 0 c)) ++ line ≡ bs ++ flat_map f (range_with_len 0 (c + 1))
places_more f bs line c e =
    ap (λ t. (bs ++ flat_map f (range_with_len 0 c)) ++ t) e ∙ flat_map_more f bs (range_with_len 0 c) c
    ∙ ap (λ cs. bs ++ flat_map f cs) (sym (range_push c))

-- ---- what a session tells of a script's circuit is what its report says

circuit_same : (a : Asked) (st : Standing) (c : ℕ) → setting st ≡ setting_asked a → told_circuit (name_at a c) st c ≡ circuit_text a (state st) c
unfolding told_circuit circuit_text
circuit_same a st c same = ap (λ (w : Setting). state_line (name_at a c) (plain_at w c) (circuit (state st).circuits c)) same

output_same : (a : Asked) (st : Standing) (master : List ℕ) (c : ℕ) → setting st ≡ setting_asked a → seeds_of st master ≡ seeds_asked a → told_output (name_at a c) st master c ≡ output_text a (state st) c
unfolding told_output output_text
output_same a st master c same seeds =
    ap₂ (λ (w : Setting) (told : List (List ℕ)). cond (is_settled (circuit (state st).circuits c)) (output_line (name_at a c) (output_of w told (keys_in w told (state st).instances c) c)) [])
    same seeds

instance_same : (a : Asked) (st : Standing) (master : List ℕ) (i : Instance) → setting st ≡ setting_asked a → seeds_of st master ≡ seeds_asked a → told_instance st master i ≡ instance_text a (state st) i
unfolding told_instance told_digest instance_text
instance_same a st master i same seeds =
    ap₂ (λ (w : Setting) (told : List (List ℕ)). instance_line i (polys_digest (sums_of w told (keys_in w told (state st).instances) i)))
    same seeds

pub circuits_more : (a : Asked) (st : Standing) (bs : List ℕ) (c : ℕ) → setting st ≡ setting_asked a → (bs ++ flat_map (circuit_text a (state st)) (range_with_len 0 c)) ++ told_circuit (name_at a c) st c ≡ bs ++ flat_map (circuit_text a (state st)) (range_with_len 0 (c + 1))
circuits_more a st bs c same = places_more (circuit_text a (state st)) bs _ c (circuit_same a st c same)

pub outputs_more : (a : Asked) (st : Standing) (master bs : List ℕ) (c : ℕ) → setting st ≡ setting_asked a → seeds_of st master ≡ seeds_asked a → (bs ++ flat_map (output_text a (state st)) (range_with_len 0 c)) ++ told_output (name_at a c) st master c ≡ bs ++ flat_map (output_text a (state st)) (range_with_len 0 (c + 1))
outputs_more a st master bs c same seeds = places_more (output_text a (state st)) bs _ c (output_same a st master c same seeds)

pub instances_more : (st : Standing) (master bs : List ℕ) (is : List Instance) (k : ℕ) (d : Instance) → k < length is → (bs ++ flat_map (told_instance st master) (take k is)) ++ told_instance st master (get_or is k d) ≡ bs ++ flat_map (told_instance st master) (take (k + 1) is)
instances_more st master bs is k d here =
    flat_map_more (told_instance st master) bs (take k is) (get_or is k d) ∙ ap (λ js. bs ++ flat_map (told_instance st master) js) (sym (take_more is k d here))

-- ---- an instance that isn't complete, whatever its digest

stage_same : (i : Instance) (s : Stage) (d e : List ℕ) → (s ≡ Complete → d ≡ e) → stage_text i s d ≡ stage_text i s e
unfolding stage_text
stage_same i Opened d e h = refl
stage_same i Complete d e h = ap (λ t. codes "complete " ++ t) (h refl)
stage_same i (Void by) d e h = refl

pub line_same : (i : Instance) (d e : List ℕ) → (i.stage ≡ Complete → d ≡ e) → instance_line i d ≡ instance_line i e
unfolding instance_line text_of
line_same i d e h = ap (λ t. codes "instance " ++ (instance_head i ++ codes " " ++ t) ++ codes "\n") (stage_same i i.stage d e h)

-- ---- in a list in the order of numbers each instance stands under its own

above_zero : (k : ℕ) → nat_eq (k + 1) 0 ≡ false
above_zero k = grind (arith, nat_tests)

pub issued_here : (is : List Instance) (k : ℕ) (d : Instance) → Numbered is → k < length is → instance is (get_or is k d).id ≡ Some (get_or is k d)
unfolding instance
issued_here is k d numbered here =
    let back : k + 1 - 1 ≡ k = omega arith in
    ap (λ (id : ℕ). cond (nat_eq id 0) None (slice_get is (id - 1))) (numbered k d here)
    ∙ ap₂ (λ (b : Bool) (j : ℕ). cond b None (slice_get is j)) (above_zero k) back ∙ slice_get-get_or is k d here

-- the instances after a history are in that order
pub numbered_after : (st : Standing) (log : List Entry) → state st ≡ state_after (rules_of st) log → Numbered (state st).instances
numbered_after st log now = subst (λ (s : State). Numbered s.instances) (sym now) (state_kept (rules_of st) log).numbered

-- ---- the whole

-- as many circuits as the script has
pub as_many : (a : Asked) (st : Standing) → setting st ≡ setting_asked a → length st.circuits ≡ length a.circuits
unfolding setting_asked
as_many a st same = ap (λ (w : Setting). length w.offers) same ∙ length-map a.circuits offered

each_same : (f g : Instance → List ℕ) (is : List Instance) → ((i : Instance) → f i ≡ g i) → flat_map f is ≡ flat_map g is
each_same f g [] same = refl
each_same f g (i ∷ is) same = ap₂ (λ (s t : List ℕ). s ++ t) (same i) (each_same f g is same)

pub whole : (a : Asked) (st : Standing) (master : List ℕ) (log : List Entry) → setting st ≡ setting_asked a → seeds_of st master ≡ seeds_asked a → state st ≡ state_after (rules_of st) log
    → ((([] ++ flat_map (circuit_text a (state st)) (places a)) ++ flat_map (output_text a (state st)) (places a)) ++ flat_map (told_instance st master) (state st).instances) ++ flat_map event_line log ≡ report a log
unfolding report report_in
whole a st master log same seeds now =
    let f = λ (s : State). flat_map (circuit_text a s) (places a) in
    let g = λ (s : State). flat_map (output_text a s) (places a) in
    let told = each_same (told_instance st master) (instance_text a (state st)) (state st).instances (λ i. instance_same a st master i same seeds) in
    ap (λ t. f (state st) ++ g (state st) ++ t ++ flat_map event_line log) told
    ∙ ap (λ (s : State). report_in a s log) (now ∙ ap (λ (w : Setting). state_after (rules w) log) same)

pub ruleset circuits = (none_yet, circuits_more)

pub ruleset outputs = (none_yet, outputs_more)

pub ruleset instances = (none_yet, instances_more, issued_here)
