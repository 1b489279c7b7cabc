-- What the nodes of a session's circuits carry.
use Rattle.std.specs.Prelude.{◌≡◌, ℕ, ◌<◌, List, length}
use Rattle.draw_spec.specs.Places.{Seed}
use Rattle.param_set.specs.declared.params.Params.{Params}
use Rattle.circuit_form.specs.Values.{entry}
use Rattle.noise_ledger.specs.declared.over.Place.TheVariants.{Node as AtNode}
use Rattle.param_set.specs.Numbers.{numbers_of}
use Rattle.noise_ledger.specs.Bounds.{numbers_for}
use Rattle.noise_ledger.specs.Ledger.{place_bound}
use Rattle.cipher_spec.specs.Keys.{Keys}
use Rattle.cipher_spec.specs.Ciphers.{cipher_at}
use Rattle.share_spec.specs.Seeds.{secret}
use Rattle.circuit_laws.specs.Nodes.{CarriesWithin, node_ciphers, node_values}
use Rattle.session_spec.specs.Settings.{Setting, nodes_at, values_at, IsSetting, HasValues, NeedsNoSwitch}
use Rattle.session_spec.specs.Outputs.{inputs_of}
use Rattle.session_laws.specs.Laws.{Serves}

-- under the secret that the parties hold, each node of a circuit that needs no key switch, and whose inputs are
-- encrypted by their owners under a public key that serves it, carries its plain value within its own bound of the
-- ledger, for any threshold that the ledger is asked with
abbrev pub SessionNodesCarry : Type 0
SessionNodesCarry =
    (p : Params) (w : Setting) (threshold : ℕ) (seeds : List Seed) (c k : ℕ) (keys : Keys)
    → IsSetting p w → HasValues p w → NeedsNoSwitch w → length seeds ≡ p.parties → c < length w.offers
    → Serves w threshold seeds c keys.public → k < length (nodes_at w c)
    → CarriesWithin p (secret p.q p.n seeds) (place_bound (numbers_for p threshold) (nodes_at w c) (AtNode k))
    (cipher_at (node_ciphers (numbers_of p) keys (inputs_of w seeds keys.public c) (nodes_at w c)) k)
    (entry (node_values p.n p.t (values_at w c) (nodes_at w c)) k)
