-- The public key belongs to the secret, and the nodes of circuits carry their plain values within their bounds.
use Rattle.std.proofs.Common.{◌≡◌, sym, subst, ℕ, ◌*◌, ◌<◌, List, length, arith}
use Rattle.std.specs.Prelude.{All}
use Rattle.ring_spec.specs.Pairs.{Key}
use Rattle.bfv_spec.specs.Scheme.{IsPublicKey}
use Rattle.param_set.specs.declared.params.Params.{Params}
use Rattle.circuit_form.specs.Values.{entry}
use Rattle.noise_ledger.specs.declared.over.Place.TheVariants.{Node as AtNode}
use Rattle.param_set.specs.Numbers.{Numbers, numbers_of}
use Rattle.noise_ledger.specs.Bounds.{numbers_for}
use Rattle.noise_ledger.specs.Ledger.{place_bound}
use Rattle.cipher_spec.specs.Keys.{Keys}
use Rattle.cipher_spec.specs.Ciphers.{cipher_at}
use Rattle.share_spec.specs.Seeds.{secret}
use Rattle.share_laws.proofs.Seeds.{secret_is}
use Rattle.circuit_laws.specs.Nodes.{KeepsTheLimit, CarriesWithin, node_ciphers, node_values, NodesCarry}
use Rattle.circuit_laws.proofs.SwitchFree.{no_factors_to_keep}
use Rattle.proto_names.specs.Roles.{role_of}
use Rattle.proto_names.specs.declared.signature.Signature.TheVariants.{Pk}
use Rattle.session_rules.specs.Facts.{IsSound}
use Rattle.session_spec.specs.Settings.{Setting, Offer, Keeps, rules, no_offer, nodes_at, values_at, HasValues}
use Rattle.session_spec.specs.Shares.{key_of}
use Rattle.session_spec.specs.Outputs.{inputs_of}
use Rattle.session_laws.specs.Laws.{ActsWithin}
use Rattle.session_laws.proofs.Admissions.{acts_by_rules}
use Rattle.session_laws.proofs.Keys.{found_is, key_at}
use Rattle.answer_laws.specs.Keys.{KeysBelong, HeldKeysBelong}
use Rattle.answer_laws.specs.Nodes.{SessionNodesCarry}
use Rattle.answer_laws.specs.ByKeys.{HasKeys, SessionNodesCarryByKeys}
use Rattle.answer_laws.proofs.Acting.{setting_of}
use Rattle.answer_laws.proofs.Answers.{has_any}
use Rattle.answer_laws.proofs.Inputs.{are_inputs}
use Rattle.answer_laws.proofs.Keys.{key_is}

-- ---- the key

pub keys_belong : KeysBelong
keys_belong p w threshold seeds role numbers pk acts =
    let P : Numbers → Type 0 =
    λ z. ActsWithin (record { numbers = z; public = w.public; offers = w.offers }) threshold role
    → IsPublicKey p.q p.n (secret p.q p.n seeds) (threshold * p.err) (key_of (record { numbers = z; public = w.public; offers = w.offers }) seeds role) in
    subst P (sym numbers) (key_is p w.public w.offers threshold seeds role pk) acts

pub held_keys_belong : HeldKeysBelong
held_keys_belong p w seeds s i numbers kept found =
    let both = found_is Pk s.instances i found in
    let sound : IsSound (rules w) s.present i = kept.sound i both.0 in
    let acts = acts_by_rules p w (role_of i) numbers sound.parties in
    subst (λ (z : Key). IsPublicKey p.q p.n (secret p.q p.n seeds) (p.threshold * p.err) z) (sym (key_at w seeds s.instances i found)) (keys_belong p w p.threshold seeds (role_of i) numbers both.1.signature acts)

-- ---- the nodes

-- what a setting's node has to be
abbrev NodeCarries : Params → ℕ → List (List ℕ) → ℕ → ℕ → Keys → Setting → Type 0
NodeCarries p threshold seeds c k keys w =
    All (Keeps p) w.offers → HasValues p w → c < length w.offers → HasKeys p w threshold seeds c keys → KeepsTheLimit p threshold (nodes_at w c) k → k < length (nodes_at w c)
    → CarriesWithin p (secret p.q p.n seeds) (place_bound (numbers_for p threshold) (nodes_at w c) (AtNode k))
    (cipher_at (node_ciphers (numbers_of p) keys (inputs_of w seeds keys.public c) (nodes_at w c)) k) (entry (node_values p.n p.t (values_at w c) (nodes_at w c)) k)

carries_of : NodesCarry → (p : Params) (public : List ℕ) (offers : List Offer) (threshold : ℕ) (seeds : List (List ℕ)) (c k : ℕ) (keys : Keys) → length seeds ≡ p.parties → NodeCarries p threshold seeds c k keys (setting_of p public offers)
carries_of carry p public offers threshold seeds c k keys all keeps tells l has limit m =
    let w = setting_of p public offers in
    let kept : Keeps p _ = keeps c no_offer l in
    carry p threshold keys (secret p.q p.n seeds) (nodes_at w c) (values_at w c) (inputs_of w seeds keys.public c) k kept.rules limit has.switches
    (secret_is p.q p.n seeds (omega arith)) (are_inputs p public offers threshold seeds c keys.public all l (tells c no_offer l) has.public) m

pub session_nodes_carry_by_keys : NodesCarry → SessionNodesCarryByKeys
session_nodes_carry_by_keys carry p w threshold seeds c k keys setting values all l has limit m =
    let P : Numbers → Type 0 = λ z. NodeCarries p threshold seeds c k keys (record { numbers = z; public = w.public; offers = w.offers }) in
    subst P (sym setting.numbers) (carries_of carry p w.public w.offers threshold seeds c k keys all) setting.circuits values l has limit m

pub session_nodes_carry : NodesCarry → SessionNodesCarry
session_nodes_carry carry p w threshold seeds c k keys setting values free all l serves m =
    session_nodes_carry_by_keys carry p w threshold seeds c k keys setting values all l (has_any p w threshold seeds c keys free l serves)
    (no_factors_to_keep p threshold (nodes_at w c) k (free c no_offer l)) m
