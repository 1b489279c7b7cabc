-- What each node of a circuit carries, and within which noise.
use Rattle.std.specs.Prelude.{◌≡◌, ℕ, ◌-◌, ◌<◌, ◌≤◌, true, List, [], length, None}
use Rattle.ring_spec.specs.Ring.{IsPoly}
use Rattle.ring_spec.specs.Pairs.{Cipher, CipherFits}
use Rattle.bfv_spec.specs.Scheme.{Carries}
use Rattle.param_set.specs.declared.params.Params.{Params}
use Rattle.circuit_form.specs.declared.node.Node.{Node}
use Rattle.circuit_form.specs.Circuits.{first_fault, has_product}
use Rattle.circuit_form.specs.Values.{entry, values_from, plain_value}
use Rattle.noise_ledger.specs.declared.over.Place.TheVariants.{Output}
use Rattle.noise_ledger.specs.declared.over.Place.TheVariants.{Node as AtNode}
use Rattle.param_set.specs.Numbers.{Numbers, numbers_of}
use Rattle.noise_ledger.specs.Bounds.{numbers_for, limit}
use Rattle.noise_ledger.specs.Ledger.{place_bound, first_over}
use Rattle.cipher_spec.specs.Keys.{Keys}
use Rattle.cipher_spec.specs.Ciphers.{cipher_at, ciphers_from, output_cipher}
use Rattle.circuit_laws.specs.Switches.{AreKeysFor}
use Rattle.circuit_laws.specs.Carrying.{AreInputs}

-- the ciphertexts of a circuit's nodes, and their polynomials, each from those of the inputs
unfoldable pub node_ciphers : Numbers → Keys → List Cipher → List Node → List Cipher
node_ciphers p keys inputs nodes = ciphers_from p keys inputs nodes [] 0 nodes

unfoldable pub node_values : ℕ → ℕ → List (List ℕ) → List Node → List (List ℕ)
node_values n t values nodes = values_from n t values [] 0 nodes

-- a ciphertext of the ring carries a plaintext within a noise
pub record CarriesWithin (p : Params) (s : List ℕ) (noise : ℕ) (c : Cipher) (m : List ℕ) : Type 0 where
  pub carries : Carries p.q p.n p.t s noise c m
  pub plain : IsPoly p.t p.n m
  pub fits : CipherFits p.q p.n c

-- the bounds of the nodes before place k are within the limit, where the circuit has a full product: its factors have to
-- be quiet enough to be decrypted
abbrev pub KeepsTheLimit : Params → ℕ → List Node → ℕ → Type 0
KeepsTheLimit p threshold nodes k =
    has_product nodes ≡ true → (j : ℕ) → j < k → place_bound (numbers_for p threshold) nodes (AtNode j) ≤ limit (numbers_for p threshold)

-- each node of a circuit carries its plain value within its own bound of the ledger, by any keys for the circuit
abbrev pub NodesCarry : Type 0
NodesCarry =
    (p : Params) (threshold : ℕ) (keys : Keys) (s : List ℕ) (nodes : List Node) (values : List (List ℕ)) (inputs : List Cipher) (k : ℕ)
    → first_fault p.n p.t p.parties nodes ≡ None → KeepsTheLimit p threshold nodes k
    → AreKeysFor p threshold s nodes keys → IsPoly p.q p.n s → AreInputs p threshold s nodes values inputs → k < length nodes
    → CarriesWithin p s (place_bound (numbers_for p threshold) nodes (AtNode k)) (cipher_at (node_ciphers (numbers_of p) keys inputs nodes) k) (entry (node_values p.n p.t values nodes) k)

-- and so its output within the last node's bound
abbrev pub OutputsKeepTheBound : Type 0
OutputsKeepTheBound =
    (p : Params) (threshold : ℕ) (keys : Keys) (s : List ℕ) (nodes : List Node) (values : List (List ℕ)) (inputs : List Cipher)
    → first_fault p.n p.t p.parties nodes ≡ None → KeepsTheLimit p threshold nodes (length nodes - 1)
    → AreKeysFor p threshold s nodes keys → IsPoly p.q p.n s → AreInputs p threshold s nodes values inputs
    → CarriesWithin p s (place_bound (numbers_for p threshold) nodes (AtNode (length nodes - 1))) (output_cipher (numbers_of p) keys inputs nodes) (plain_value p.n p.t values nodes)

-- where the circuit is admitted no node's bound is above the limit, nor the output's with the floods
abbrev pub AdmittedOnesKeepTheLimit : Type 0
AdmittedOnesKeepTheLimit =
    (p : Params) (threshold : ℕ) (nodes : List Node) → first_over (numbers_for p threshold) nodes ≡ None
    → ((k : ℕ) → place_bound (numbers_for p threshold) nodes (AtNode k) ≤ limit (numbers_for p threshold)) × (place_bound (numbers_for p threshold) nodes Output ≤ limit (numbers_for p threshold))
