-- What a complete decryption of honest shares gives is the circuit's plain value.
use Rattle.std.proofs.Common.{◌≡◌, ◌∙◌, sym, ap, refl, ℕ, ◌<◌, true, false, inl, inr, List, [], ◌∷◌, slice_index_or, length, Option, Some, arith}
use Rattle.ring_spec.specs.Ring.{ring_sum}
use Rattle.ring_spec.specs.Pairs.{Cipher}
use Rattle.bfv_spec.specs.Scheme.{decryption}
use Rattle.param_set.specs.declared.params.Params.{Params}
use Rattle.param_set.specs.Numbers.{Numbers}
use Rattle.proto_names.specs.Roles.{Role, role_of}
use Rattle.proto_names.specs.declared.signature.Signature.TheVariants.{Pk}
use Rattle.session_rules.specs.declared.state.CircuitState.{CircuitState}
use Rattle.session_rules.specs.declared.state.CircuitState.TheVariants.{Evaluated}
use Rattle.session_rules.specs.States.{State, circuit, plan, is_admitted, is_refused}
use Rattle.session_rules.specs.Facts.{IsSound}
use Rattle.session_spec.specs.Settings.{Setting, rules, plain_at}
use Rattle.session_spec.specs.Shares.{full_sums}
use Rattle.session_spec.specs.Outputs.{key_in, keys_in, output_of}
use Rattle.session_spec.specs.Stores.{Store, cipher_or, held_output, held_sums, opened}
use Rattle.session_laws.specs.Laws.{AnswersArePlain, IsDecryption, Serves, Stands}
use Rattle.session_laws.proofs.Plans.{circuit_within, circuits_number}
use Rattle.session_laws.proofs.Admissions.{acts_by_rules, rules_ask_the_ledger}
use Rattle.session_laws.proofs.Keys.{done_found, found_is, key_at, keyed}

-- the keys of a state serve a circuit that is evaluated
pub key_serves : (p : Params) (w : Setting) (seeds : List (List ℕ)) (s : State) (h : Store) (c : ℕ) → Stands p w seeds s h → circuit s.circuits c ≡ Evaluated → Serves w p.threshold seeds c (key_in w seeds s.instances)
key_serves p w seeds s h c y e = elim ((keyed w s y.grounded).begun c (rw e refl)) [
  | inl none ↦ inl none
  | inr done ↦
      let x = done_found Pk s.instances done in
      let j = x.item in
      let both = found_is Pk s.instances j x.found in
      let sound : IsSound (rules w) s.present j = y.kept.sound j both.0 in
      let setting = y.setting in
      let acts = acts_by_rules p w (role_of j) setting.numbers sound.parties in
      inr (record { role = role_of j; signature = both.1.signature; acts = acts; made = key_at w seeds s.instances j x.found })
]

pub evaluated_admitted : (w : Setting) (s : State) (c : ℕ) → is_refused (circuit s.circuits c) ≡ is_refused (plan (rules w) c).opening → circuit s.circuits c ≡ Evaluated → is_admitted (plan (rules w) c) ≡ true
evaluated_admitted w s c same e =
    let admitted : is_refused (plan (rules w) c).opening ≡ false = sym same ∙ ap (λ (z : CircuitState). is_refused z) e in
    rw admitted refl

-- the opening of the output with the sums of all parties of a decryption
pub opened_plain : (p : Params) (w : Setting) (seeds : List (List ℕ)) (s : State) (h : Store) (now : Store) (c at : ℕ) (role : Role) → AnswersArePlain → Stands p w seeds s h → circuit s.circuits c ≡ Evaluated
    → IsDecryption w p.threshold c role → held_output now c ≡ Some (output_of w seeds (keys_in w seeds s.instances c) c)
    → held_sums now at ≡ full_sums w seeds role ((output_of w seeds (keys_in w seeds s.instances c) c).c1 ∷ []) → opened w now at c ≡ plain_at w c
unfolding opened keys_in
opened_plain p w seeds s h now c at role law y e decryption_ output sums =
    let setting = y.setting in
    let within : c < length w.offers = omega (arith, circuit_within s.circuits c Evaluated e (λ e. cc), circuits_number w s y.kept) in
    let keys = keys_in w seeds s.instances c in
    let admits = rules_ask_the_ledger p w c setting within (evaluated_admitted w s c (y.grounded.refused c) e) in
    let last = slice_index_or (full_sums w seeds role ((output_of w seeds keys c).c1 ∷ [])) 0 [] in
    ap (λ (z : Option Cipher). decryption w.numbers.q w.numbers.t (ring_sum w.numbers.q w.numbers.n (cipher_or z).c0 (slice_index_or (held_sums now at) 0 []))) output
    ∙ ap (λ (z : List (List ℕ)). decryption w.numbers.q w.numbers.t (ring_sum w.numbers.q w.numbers.n (output_of w seeds keys c).c0 (slice_index_or z 0 []))) sums
    ∙ ap (λ (z : Numbers). decryption z.q z.t (ring_sum z.q z.n (output_of w seeds keys c).c0 last)) setting.numbers
    ∙ law p w p.threshold seeds c role keys setting y.values y.free y.parties within admits decryption_ (key_serves p w seeds s h c y e)
