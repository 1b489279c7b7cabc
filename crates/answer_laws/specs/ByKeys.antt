-- What the circuits of a session carry and answer by keys for them, whatever their nodes.
use Rattle.std.specs.Prelude.{◌≡◌, ℕ, ◌<◌, true, List, [], ◌∷◌, length, slice_index_or}
use Rattle.ring_spec.specs.Ring.{ring_sum}
use Rattle.draw_spec.specs.Places.{Seed}
use Rattle.bfv_spec.specs.Scheme.{decryption}
use Rattle.param_set.specs.declared.params.Params.{Params}
use Rattle.circuit_form.specs.Values.{entry}
use Rattle.noise_ledger.specs.declared.over.Place.TheVariants.{Node as AtNode}
use Rattle.param_set.specs.Numbers.{numbers_of}
use Rattle.noise_ledger.specs.Bounds.{numbers_for}
use Rattle.noise_ledger.specs.Ledger.{place_bound}
use Rattle.cipher_spec.specs.Keys.{Keys}
use Rattle.cipher_spec.specs.Ciphers.{cipher_at}
use Rattle.share_spec.specs.Seeds.{secret}
use Rattle.circuit_laws.specs.Switches.{AreKeysFor}
use Rattle.circuit_laws.specs.Nodes.{KeepsTheLimit, CarriesWithin, node_ciphers, node_values}
use Rattle.proto_names.specs.Roles.{Role}
use Rattle.session_rules.specs.States.{State, circuit}
use Rattle.session_rules.specs.Facts.{Kept, is_begun}
use Rattle.session_rules.specs.Grounds.{Grounded}
use Rattle.session_spec.specs.Settings.{Setting, rules, nodes_at, values_at, plain_at, IsSetting, HasValues}
use Rattle.session_spec.specs.Shares.{full_sums}
use Rattle.session_spec.specs.Outputs.{keys_in, inputs_of, output_of}
use Rattle.session_laws.specs.Laws.{Admits, IsDecryption, Serves}

-- keys for circuit c under the secret that the parties hold, of which the public key serves the circuit, where the
-- ledger is asked with a threshold
pub record HasKeys (p : Params) (w : Setting) (threshold : ℕ) (seeds : List Seed) (c : ℕ) (keys : Keys) : Type 0 where
  pub switches : AreKeysFor p threshold (secret p.q p.n seeds) (nodes_at w c) keys
  pub public : Serves w threshold seeds c keys.public

-- in a state that calls lead to a circuit that is begun has such keys, T being that of the parameters
abbrev pub BegunOnesHaveKeys : Type 0
BegunOnesHaveKeys =
    (p : Params) (w : Setting) (seeds : List Seed) (s : State) (c : ℕ)
    → IsSetting p w → length seeds ≡ p.parties → Kept (rules w) s → Grounded (rules w) s
    → c < length w.offers → is_begun (circuit s.circuits c) ≡ true
    → HasKeys p w p.threshold seeds c (keys_in w seeds s.instances c)

-- a complete decryption of the output of a circuit that the ledger admits gives its plain value
abbrev pub AnswersArePlainByKeys : Type 0
AnswersArePlainByKeys =
    (p : Params) (w : Setting) (threshold : ℕ) (seeds : List Seed) (c : ℕ) (role : Role) (keys : Keys)
    → IsSetting p w → HasValues p w → length seeds ≡ p.parties → c < length w.offers
    → HasKeys p w threshold seeds c keys → Admits p w threshold c → IsDecryption w threshold c role
    → decryption p.q p.t (ring_sum p.q p.n (output_of w seeds keys c).c0
    (slice_index_or (full_sums w seeds role ((output_of w seeds keys c).c1 ∷ [])) 0 []))
    ≡ plain_at w c

-- each node of a circuit carries its plain value within its own bound of the ledger, where bounds before it are within
-- the limit
abbrev pub SessionNodesCarryByKeys : Type 0
SessionNodesCarryByKeys =
    (p : Params) (w : Setting) (threshold : ℕ) (seeds : List Seed) (c k : ℕ) (keys : Keys)
    → IsSetting p w → HasValues p w → length seeds ≡ p.parties → c < length w.offers
    → HasKeys p w threshold seeds c keys → KeepsTheLimit p threshold (nodes_at w c) k → k < length (nodes_at w c)
    → CarriesWithin p (secret p.q p.n seeds) (place_bound (numbers_for p threshold) (nodes_at w c) (AtNode k))
    (cipher_at (node_ciphers (numbers_of p) keys (inputs_of w seeds keys.public c) (nodes_at w c)) k)
    (entry (node_values p.n p.t (values_at w c) (nodes_at w c)) k)
