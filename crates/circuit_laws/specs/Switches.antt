-- The keys that the key switches of a circuit ask for.
use Rattle.std.specs.Prelude.{◌≡◌, ℕ, ◌≤◌, true, List}
use Rattle.ring_spec.specs.Ring.{ring_product, ring_turned, size}
use Rattle.gadget_spec.specs.Switching.{KeyRow, IsSwitchKey}
use Rattle.param_set.specs.declared.params.Params.{Params}
use Rattle.circuit_form.specs.declared.node.Node.{Node}
use Rattle.circuit_form.specs.Circuits.{has_product, has_rot}
use Rattle.param_set.specs.Numbers.{numbers_of}
use Rattle.noise_ledger.specs.Bounds.{numbers_for, rotation_noise, relin_noise}
use Rattle.cipher_spec.specs.Keys.{Keys, gadget_of, rotation_rows}

-- rows are a switch key for z under the secret s within a noise, by the gadget of the parameters
abbrev pub IsKeyUnder : Params → List ℕ → List ℕ → ℕ → List KeyRow → Type 0
IsKeyUnder p s z noise rows = IsSwitchKey p.q p.n (gadget_of (numbers_of p)) s z noise rows

-- keys for a circuit under the secret s, where the ledger is asked with the given T: one for s with X^g for X where the
-- circuit has the rotation by g, and one for s^2 where it has a full product, each with rows as quiet as the ledger
-- takes them to be; with a full product the secret has size at most N
pub record AreKeysFor (p : Params) (threshold : ℕ) (s : List ℕ) (nodes : List Node) (keys : Keys) : Type 0 where
  pub rotations : (g : ℕ) → has_rot g nodes ≡ true →
      IsKeyUnder p s (ring_turned p.q p.n g s) (rotation_noise (numbers_for p threshold)) (rotation_rows keys.rotations g)
  pub relin : has_product nodes ≡ true → IsKeyUnder p s (ring_product p.q p.n s s) (relin_noise (numbers_for p threshold)) keys.relin
  pub secret : has_product nodes ≡ true → size p.q s ≤ p.parties
