-- What holds at the place of a node of a circuit, and tests of nodes.
use Rattle.std.proofs.Common.{◌≡◌, ℕ, ◌≤◌, ◌<◌, Bool, true, false, not, ◌&&◌, List, refl, ap, ◌∙◌, ◌⊎◌, inl, inr}
use Rattle.std.specs.Prelude.{Some}
use Rattle.std.specs.List.{slice_get, list_any}
use Rattle.std.proofs.lemmas.List.Folds.{list_any_at}
use Rattle.std.proofs.lemmas.Option.{get_or_from_slice_get, slice_get_within}
use Rattle.ring_spec.specs.Ring.{IsPoly}
use Rattle.ring_spec.specs.Pairs.{Cipher, CipherFits}
use Rattle.bfv_spec.specs.Scheme.{Carries}
use Rattle.param_set.specs.declared.params.Params.{Params}
use Rattle.circuit_form.specs.declared.node.Node.{Node}
use Rattle.circuit_form.specs.declared.node.Node.TheVariants.{Const}
use Rattle.circuit_form.specs.Circuits.{has_product}
use Rattle.circuit_form.specs.Values.{entry}
use Rattle.noise_ledger.specs.Bounds.{numbers_for, limit}
use Rattle.noise_ledger.specs.Ledger.{bound_at}
use Rattle.cipher_spec.specs.Ciphers.{cipher_at}

-- at place k a ciphertext carries a plaintext within a bound, and both fit; a constant's plaintext is its value
pub record Holds (p : Params) (s : List ℕ) (nodes : List Node) (k v : ℕ) (c : Cipher) (m : List ℕ) : Type 0 where
  pub carries : Carries p.q p.n p.t s v c m
  pub plain : IsPoly p.t p.n m
  pub fits : CipherFits p.q p.n c
  pub named : (value : List ℕ) → slice_get nodes k ≡ Some (Const value) → m ≡ value

-- it holds at each place below k
abbrev pub Each : Params → List ℕ → List Node → ℕ → List ℕ → List Cipher → List (List ℕ) → Type 0
Each p s nodes k bounds ciphers plains = (j : ℕ) → j < k → Holds p s nodes j (bound_at bounds j) (cipher_at ciphers j) (entry plains j)

-- with a full product the bounds below k are within the limit
abbrev pub AllWithin : Params → ℕ → List Node → ℕ → List ℕ → Type 0
AllWithin p threshold nodes k bounds = has_product nodes ≡ true → (j : ℕ) → j < k → bound_at bounds j ≤ limit (numbers_for p threshold)

-- ---- tests

pub both_pass : (a b : Bool) → (a && b) ≡ true → (a ≡ true) × (b ≡ true)
both_pass true b e = (refl, e)
both_pass false b e = (cc, cc)

-- of two operands that don't make a full product, one is a constant
pub one_fails : (a b : Bool) → (not a && not b) ≡ false → (b ≡ true) ⊎ ((b ≡ false) × (a ≡ true))
one_fails a true e = inl refl
one_fails true false e = inr (refl, refl)
one_fails false false e = cc

-- what a node passes, some node passes
pub passes_some : (test : Node → Bool) (nodes : List Node) (k : ℕ) (node : Node) → slice_get nodes k ≡ Some node → test node ≡ true → list_any test nodes ≡ true
passes_some test nodes k node at passed =
    list_any_at test nodes k node (slice_get_within nodes k node at) (ap test (get_or_from_slice_get nodes k node node at) ∙ passed)
