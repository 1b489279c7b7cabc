-- A complete decryption of an admitted circuit's output gives its plain value.
use Rattle.std.proofs.Common.{◌≡◌, ℕ, ◌<◌, List, [], ◌∷◌, length, slice_index_or, sym, subst, arith}
use Rattle.std.specs.Prelude.{All}
use Rattle.param_set.specs.declared.params.Params.{Params}
use Rattle.ring_spec.specs.Ring.{ring_sum}
use Rattle.bfv_spec.specs.Scheme.{decryption}
use Rattle.param_set.specs.Numbers.{Numbers}
use Rattle.share_spec.specs.Seeds.{secret}
use Rattle.share_laws.proofs.Seeds.{secret_is}
use Rattle.circuit_laws.specs.Carrying.{Opens, OutputsCarry}
use Rattle.circuit_laws.proofs.SwitchFree.{any_keys_serve}
use Rattle.cipher_spec.specs.Keys.{Keys}
use Rattle.proto_names.specs.Roles.{Role}
use Rattle.session_spec.specs.Settings.{Setting, Offer, Keeps, Tells, no_offer, nodes_at, values_at, plain_at, HasValues, NeedsNoSwitch}
use Rattle.session_spec.specs.Shares.{full_sums}
use Rattle.session_spec.specs.Outputs.{inputs_of, output_of}
use Rattle.session_laws.specs.Laws.{Admits, IsDecryption, Serves, AnswersArePlain}
use Rattle.answer_laws.specs.ByKeys.{HasKeys, AnswersArePlainByKeys}
use Rattle.answer_laws.proofs.Acting.{setting_of}
use Rattle.answer_laws.proofs.Inputs.{are_inputs}
use Rattle.answer_laws.proofs.Decryptions.{decrypts}

-- the output of an admitted circuit opens to its plain value
output_opens : OutputsCarry → (p : Params) (public : List ℕ) (offers : List Offer) (threshold : ℕ) (seeds : List (List ℕ)) (c : ℕ) (keys : Keys) → length seeds ≡ p.parties → c < length offers →
    Keeps p (slice_index_or offers c no_offer) → Tells p (slice_index_or offers c no_offer) → HasKeys p (setting_of p public offers) threshold seeds c keys → Admits p (setting_of p public offers) threshold c →
    Opens p threshold (secret p.q p.n seeds) (output_of (setting_of p public offers) seeds keys c) (plain_at (setting_of p public offers) c)
unfolding output_of plain_at
output_opens carry p public offers threshold seeds c keys all l keeps tells has admits =
    let w = setting_of p public offers in
    carry p threshold keys (secret p.q p.n seeds) (nodes_at w c) (values_at w c) (inputs_of w seeds keys.public c) keeps.rules admits has.switches
    (secret_is p.q p.n seeds (omega arith)) (are_inputs p public offers threshold seeds c keys.public all l tells has.public)

-- what a setting's answer has to be
abbrev Answers : Params → ℕ → List (List ℕ) → ℕ → Role → Keys → Setting → Type 0
Answers p threshold seeds c role keys w =
    All (Keeps p) w.offers → HasValues p w → c < length w.offers → HasKeys p w threshold seeds c keys → Admits p w threshold c → IsDecryption w threshold c role
    → decryption p.q p.t (ring_sum p.q p.n (output_of w seeds keys c).c0 (slice_index_or (full_sums w seeds role ((output_of w seeds keys c).c1 ∷ [])) 0 []))
    ≡ plain_at w c

answers_of : OutputsCarry → (p : Params) (public : List ℕ) (offers : List Offer) (threshold : ℕ) (seeds : List (List ℕ)) (c : ℕ) (role : Role) (keys : Keys) → length seeds ≡ p.parties →
    Answers p threshold seeds c role keys (setting_of p public offers)
answers_of carry p public offers threshold seeds c role keys all keeps tells l has admits of =
    let w = setting_of p public offers in
    decrypts p public offers threshold seeds c role (output_of w seeds keys c) (plain_at w c) of
    (output_opens carry p public offers threshold seeds c keys all l (keeps c no_offer l) (tells c no_offer l) has admits)

pub answers_are_plain_by_keys : OutputsCarry → AnswersArePlainByKeys
answers_are_plain_by_keys carry p w threshold seeds c role keys setting values all l has admits of =
    let P : Numbers → Type 0 = λ z. Answers p threshold seeds c role keys (record { numbers = z; public = w.public; offers = w.offers }) in
    subst P (sym setting.numbers) (answers_of carry p w.public w.offers threshold seeds c role keys all) setting.circuits values l has admits of

-- all keys are keys for a circuit that needs no key switch
pub has_any : (p : Params) (w : Setting) (threshold : ℕ) (seeds : List (List ℕ)) (c : ℕ) (keys : Keys) → NeedsNoSwitch w → c < length w.offers → Serves w threshold seeds c keys.public → HasKeys p w threshold seeds c keys
has_any p w threshold seeds c keys free l serves = record {
  switches = any_keys_serve p threshold (secret p.q p.n seeds) (nodes_at w c) keys (free c no_offer l);
  public = serves;
}

pub answers_are_plain : OutputsCarry → AnswersArePlain
answers_are_plain carry p w threshold seeds c role keys setting values free all l admits of serves =
    answers_are_plain_by_keys carry p w threshold seeds c role keys setting values all l (has_any p w threshold seeds c keys free l serves) admits of
