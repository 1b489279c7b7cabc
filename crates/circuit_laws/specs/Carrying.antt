-- What the output of a circuit carries.
use Rattle.std.specs.Prelude.{◌≡◌, ℕ, ◌+◌, ◌*◌, ◌<◌, ◌≤◌, List, [], length, slice_index_or, All, None}
use Rattle.ring_spec.specs.Ring.{IsPoly}
use Rattle.ring_spec.specs.Pairs.{Cipher, CipherFits}
use Rattle.bfv_spec.specs.Scheme.{Carries}
use Rattle.param_set.specs.declared.params.Params.{Params}
use Rattle.circuit_form.specs.declared.node.Node.{Node}
use Rattle.circuit_form.specs.Circuits.{first_fault, owners}
use Rattle.circuit_form.specs.Values.{plain_value}
use Rattle.param_set.specs.Numbers.{numbers_of}
use Rattle.noise_ledger.specs.Bounds.{numbers_for, limit, input_bound}
use Rattle.noise_ledger.specs.Ledger.{first_over}
use Rattle.cipher_spec.specs.Keys.{Keys}
use Rattle.cipher_spec.specs.Ciphers.{cipher_at, output_cipher}
use Rattle.circuit_laws.specs.Switches.{AreKeysFor}

-- ciphertexts of a circuit's inputs, each of which carries its value under the secret s within the bound of an
-- input, where the ledger is asked with the given T
pub record AreInputs (p : Params) (threshold : ℕ) (s : List ℕ) (nodes : List Node) (values : List (List ℕ)) (inputs : List Cipher) : Type 0 where
  pub ciphers : length inputs ≡ length (owners nodes)
  pub polys : length values ≡ length (owners nodes)
  pub fit : All (CipherFits p.q p.n) inputs
  pub plain : All (IsPoly p.t p.n) values
  pub carry : (k : ℕ) → k < length (owners nodes) → Carries p.q p.n p.t s (input_bound (numbers_for p threshold)) (cipher_at inputs k) (slice_index_or values k [])

-- a ciphertext carries a plaintext within a noise that leaves room for the flood of each of T parties
pub record Opens (p : Params) (threshold : ℕ) (s : List ℕ) (c : Cipher) (m : List ℕ) : Type 0 where
  pub noise : ℕ
  pub within : noise + threshold * p.flood ≤ limit (numbers_for p threshold)
  pub carries : Carries p.q p.n p.t s noise c m
  pub plain : IsPoly p.t p.n m
  pub fits : CipherFits p.q p.n c

-- the output of an admitted circuit carries its plain value, by any keys for it
abbrev pub OutputsCarry : Type 0
OutputsCarry =
    (p : Params) (threshold : ℕ) (keys : Keys) (s : List ℕ) (nodes : List Node) (values : List (List ℕ)) (inputs : List Cipher)
    → first_fault p.n p.t p.parties nodes ≡ None → first_over (numbers_for p threshold) nodes ≡ None
    → AreKeysFor p threshold s nodes keys → IsPoly p.q p.n s → AreInputs p threshold s nodes values inputs
    → Opens p threshold s (output_cipher (numbers_of p) keys inputs nodes) (plain_value p.n p.t values nodes)
