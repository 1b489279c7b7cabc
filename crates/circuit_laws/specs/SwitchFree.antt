-- Circuits that need no key switch use no key.
use Rattle.std.specs.Prelude.{◌≡◌, ℕ, true, List}
use Rattle.ring_spec.specs.Pairs.{Cipher}
use Rattle.param_set.specs.declared.params.Params.{Params}
use Rattle.param_set.specs.Numbers.{Numbers}
use Rattle.circuit_form.specs.declared.node.Node.{Node}
use Rattle.cipher_spec.specs.Keys.{Keys}
use Rattle.cipher_spec.specs.Ciphers.{is_switch_free, output_cipher}
use Rattle.circuit_laws.specs.Switches.{AreKeysFor}
use Rattle.circuit_laws.specs.Nodes.{KeepsTheLimit}

-- the output of a circuit that needs no key switch is the same under any keys
abbrev pub KeysAreNotUsed : Type 0
KeysAreNotUsed =
    (p : Numbers) (keys others : Keys) (inputs : List Cipher) (nodes : List Node)
    → is_switch_free nodes ≡ true → output_cipher p keys inputs nodes ≡ output_cipher p others inputs nodes

-- any keys are keys for it under any secret, and it has no factor that had to keep the limit
abbrev pub AnyKeysServe : Type 0
AnyKeysServe =
    (p : Params) (threshold : ℕ) (s : List ℕ) (nodes : List Node) (keys : Keys)
    → is_switch_free nodes ≡ true → AreKeysFor p threshold s nodes keys

abbrev pub NoFactorsToKeep : Type 0
NoFactorsToKeep = (p : Params) (threshold : ℕ) (nodes : List Node) (k : ℕ) → is_switch_free nodes ≡ true → KeepsTheLimit p threshold nodes k
