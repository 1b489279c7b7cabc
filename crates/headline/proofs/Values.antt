-- What T parties decrypt of a circuit that is answered is its plain value.
use Rattle.std.proofs.Common.{◌≡◌, ◌∙◌, sym, ap, refl, ℕ, ◌<◌, true, false, inl, inr, List, [], ◌∷◌, length, slice_index_or, arith}
use Rattle.ring_spec.specs.Ring.{ring_sum}
use Rattle.bfv_spec.specs.Scheme.{decryption}
use Rattle.param_set.specs.declared.params.Params.{Params}
use Rattle.param_set.specs.Numbers.{numbers_of}
use Rattle.circuit_laws.proofs.Outputs.{outputs_carry}
use Rattle.proto_names.specs.declared.signature.Signature.{Signature}
use Rattle.proto_names.specs.Roles.{role_of}
use Rattle.proto_names.specs.declared.signature.Signature.TheVariants.{Pk, Dec}
use Rattle.proto_names.specs.declared.instance.Instance.{Instance}
use Rattle.session_rules.specs.declared.call.Entry.{Entry}
use Rattle.session_rules.specs.declared.state.CircuitState.TheVariants.{Answered}
use Rattle.session_rules.specs.States.{State, circuit, plan, is_refused, is_admitted}
use Rattle.session_rules.specs.Grounds.{Grounded}
use Rattle.session_rules.specs.Facts.{Kept}
use Rattle.session_rules.specs.Completions.{HasDecryption}
use Rattle.session_rules.proofs.Keeps.{state_kept}
use Rattle.session_rules.proofs.Grounds.{state_grounds}
use Rattle.session_rules.proofs.Completions.{answered_ones_are_decrypted}
use Rattle.session_spec.specs.Settings.{Setting, IsSetting, rules}
use Rattle.session_spec.specs.Shares.{full_sums}
use Rattle.session_spec.specs.Outputs.{key_in, keys_in, told_by}
use Rattle.session_laws.specs.Laws.{IsDecryption, Serves}
use Rattle.session_laws.proofs.Admissions.{acts_by_rules, rules_ask_the_ledger}
use Rattle.session_laws.proofs.Keys.{done_found, found_is, key_at, keyed}
use Rattle.answer_laws.proofs.Answers.{answers_are_plain}
use Rattle.session_script.specs.Asked.{Asked}
use Rattle.session_script.specs.Kept.{IsAccepted}
use Rattle.run_report.specs.Reports.{setting_asked, seeds_asked}
use Rattle.headline.specs.Asked.{rules_asked, state_of, plain, circuit_keys, output, aggregate, decrypted}
use Rattle.headline.specs.Headline.{IsAnswer}
use Rattle.headline.specs.History.{are_free}
use Rattle.headline.proofs.Setting.{params_of, setting_is, has_values, needs_no_switch, seeds_number, whole, plans_number, within_offers}
use Rattle.headline.proofs.Refused.{others_are_not_refused}
use Rattle.headline.proofs.Printed.{answered_text, output_told}

-- the public key of a state serves a circuit that is begun
serves : (p : Params) (w : Setting) (seeds : List (List ℕ)) (s : State) (c : ℕ) → w.numbers ≡ numbers_of p → Kept (rules w) s → Grounded (rules w) s → circuit s.circuits c ≡ Answered
    → Serves w p.threshold seeds c (key_in w seeds s.instances)
serves p w seeds s c numbers k g e = elim ((keyed w s g).begun c (rw e refl)) [
  | inl none ↦ inl none
  | inr done ↦
      let x = done_found Pk s.instances done in
      let j = x.item in
      let both = found_is Pk s.instances j x.found in
      inr (record {
        role = role_of j;
        signature = both.1.signature;
        acts = acts_by_rules p w (role_of j) numbers (k.sound j both.0).parties;
        made = key_at w seeds s.instances j x.found;
      })
]

keys_serve : (w : Setting) (threshold : ℕ) (seeds : List (List ℕ)) (s : State) (c : ℕ) → Serves w threshold seeds c (key_in w seeds s.instances) → Serves w threshold seeds c (keys_in w seeds s.instances c).public
unfolding keys_in
keys_serve w threshold seeds s c h = h

admitted : (a : Asked) (es : List Entry) (c : ℕ) → circuit (state_of a es).circuits c ≡ Answered → is_admitted (plan (rules_asked a) c) ≡ true
admitted a es c e =
    let free : is_refused (plan (rules_asked a) c).opening ≡ false = sym (others_are_not_refused (rules_asked a) es c) ∙ ap is_refused e in
    rw free refl

-- the aggregate of a decryption is of what is told of its circuit
told_of : (a : Asked) (s : State) (c : ℕ) (i : Instance) → i.signature ≡ Dec c
    → aggregate a s i ≡ full_sums (setting_asked a) (seeds_asked a) (role_of i) ((output a s c).c1 ∷ [])
unfolding aggregate told_by
told_of a s c i e =
    ap (λ (z : Signature). full_sums (setting_asked a) (seeds_asked a) (role_of i) (told_by (setting_asked a) (seeds_asked a) (circuit_keys a s) z (role_of i))) e

opened : (a : Asked) (h : IsAccepted a) → are_free a.circuits ≡ true → (es : List Entry) (c : ℕ) → c < length a.circuits → circuit (state_of a es).circuits c ≡ Answered
    → (d : HasDecryption (state_of a es) c) → decrypted a (state_of a es) c d.decryption ≡ plain a c
unfolding decrypted
opened a h free es c l e d =
    let s = state_of a es in
    let w = setting_asked a in
    let seeds = seeds_asked a in
    let p = params_of a.numbers h.numbers in
    let i = d.decryption in
    let f = rules_asked a in
    let k = state_kept f es in
    let g = (state_grounds f es (whole a)).1 in
    let setting : IsSetting p w = setting_is a h in
    let of : IsDecryption w p.threshold c (role_of i) = record { signature = d.signature; acts = acts_by_rules p w (role_of i) setting.numbers (k.sound i d.issued).parties } in
    let admits = rules_ask_the_ledger p w c setting (within_offers a c l) (admitted a es c e) in
    let law = answers_are_plain outputs_carry p w p.threshold seeds c (role_of i) (circuit_keys a s c) setting (has_values a h) (needs_no_switch a free) (seeds_number a)
    (within_offers a c l) admits of (keys_serve w p.threshold seeds s c (serves p w seeds s c setting.numbers k g e)) in
    ap (λ (z : List (List ℕ)). decryption a.numbers.q a.numbers.t (ring_sum a.numbers.q a.numbers.n (output a s c).c0 (slice_index_or z 0 []))) (told_of a s c i d.signature) ∙ law

pub answers : (a : Asked) → IsAccepted a → are_free a.circuits ≡ true → (es : List Entry) (c : ℕ) → c < length a.circuits → circuit (state_of a es).circuits c ≡ Answered → IsAnswer a (state_of a es) c
answers a h free es c l e =
    let n = plans_number a in
    let d = answered_ones_are_decrypted (rules_asked a) es c (whole a) (omega (arith, n)) e in
    record { printed = answered_text a (state_of a es) c e; told = output_told a (state_of a es) c e; decryption = d; value = opened a h free es c l e }
