-- What more holds in every state that calls lead to; and how it is where a session is settled.
use Rattle.std.specs.Prelude.{◌≡◌, ◌≢◌, ℕ, ◌<◌, ◌≤◌, true, false, ◌⊎◌, List, [], length}
use Rattle.std.specs.List.{slice_index_or, list_all, Contains}
use Rattle.share_spec.specs.Sets.{has, count}
use Rattle.proto_names.specs.declared.signature.Signature.TheVariants.{Pk, Dec}
use Rattle.proto_names.specs.declared.instance.Instance.{Instance}
use Rattle.proto_names.specs.declared.instance.Stage.TheVariants.{Opened}
use Rattle.circuit_form.specs.declared.node.Node.{Node}
use Rattle.param_set.specs.Numbers.{Numbers}
use Rattle.session_rules.specs.declared.call.Call.{Call}
use Rattle.session_rules.specs.declared.call.Entry.{Entry}
use Rattle.session_rules.specs.declared.fixed.Fixed.{Fixed}
use Rattle.session_rules.specs.declared.state.CircuitState.TheVariants.{Taken}
use Rattle.session_rules.specs.States.{State, threshold_at, group_now, plan, circuit, is_given, is_refused, is_admitted, has_done}
use Rattle.session_rules.specs.Issues.{keys as needed_keys}
use Rattle.session_rules.specs.Steps.{is_input, is_given_input, has_keys, step}
use Rattle.session_rules.specs.Fixing.{fixed_of}
use Rattle.session_rules.specs.Histories.{state_after}
use Rattle.session_rules.specs.Facts.{is_begun, Kept}

-- ---- what more holds in every state that calls lead to

-- the inputs of a circuit have a place each; a public key is complete where one is given; a circuit that is
-- begun has its inputs and its keys; each instance is of a key or a decryption; and the refused circuits
-- are those that began so
pub record Grounded (f : Fixed) (s : State) : Type 0 where
  pub rows : (c : ℕ) → length (slice_index_or s.given c []) ≡ length (plan f c).owners
  pub key : (c k : ℕ) → is_given s c k ≡ true → has_done Pk s.instances ≡ true
  pub inputs : (c : ℕ) → is_begun (circuit s.circuits c) ≡ true → list_all is_given_input (slice_index_or s.given c []) ≡ true
  pub keys : (c : ℕ) → is_begun (circuit s.circuits c) ≡ true → has_keys s (plan f c) ≡ true
  pub asked : (i : Instance) → Contains s.instances i → (Contains (needed_keys f) i.signature) ⊎ ((c : ℕ) × (i.signature ≡ Dec c))
  pub refused : (c : ℕ) → is_refused (circuit s.circuits c) ≡ is_refused (plan f c).opening

-- the fixed data of circuits: each begins idle or refused, and the rotations are those of the admitted ones
pub record IsWhole (f : Fixed) : Type 0 where
  pub begins : (c : ℕ) → c < length f.plans → is_begun (plan f c).opening ≡ false
  pub turns : (c g : ℕ) → c < length f.plans → is_admitted (plan f c) ≡ true → Contains (plan f c).turns g → Contains f.turns g
  pub turned : (g : ℕ) → Contains f.turns g → (c : ℕ) × (c < length f.plans) × (is_admitted (plan f c) ≡ true) × Contains (plan f c).turns g

-- ---- what settling comes to

-- no instance is opened
abbrev pub NoneOpened : State → Type 0
NoneOpened s = (i : Instance) → Contains s.instances i → i.stage ≢ Opened

-- of the instances up to a number no opened one lacks a party's share
abbrev pub GaveAll : ℕ → ℕ → State → Type 0
GaveAll p b s = (i : Instance) → Contains s.instances i → i.id ≤ b → i.stage ≡ Opened → has i.set.bits p ≡ true → has i.sent.bits p ≡ true

-- no circuit is taken, and enough parties are present, among them the owner of each input that is wanted
pub record CanSettle (f : Fixed) (s : State) : Type 0 where
  pub untaken : (c who : ℕ) → circuit s.circuits c ≢ Taken who
  pub enough : threshold_at f (group_now s) ≤ count s.present
  pub owners : (c k : ℕ) → is_input f c k ≡ true → (is_given s c k ≡ true) ⊎ (has s.present (slice_index_or (plan f c).owners k 0) ≡ true)

-- ---- laws

-- every call keeps what more holds, and it holds in every state that calls lead to
abbrev pub CallsGround : Type 0
CallsGround = (f : Fixed) (s : State) (caller : ℕ) (c : Call) → Kept f s → Grounded f s → Grounded f (step f s caller c).1

abbrev pub HistoriesGround : Type 0
HistoriesGround = (f : Fixed) (es : List Entry) → IsWhole f → Grounded f (state_after f es)

-- it holds of the fixed data that is made of circuits
abbrev pub CircuitsAreWhole : Type 0
CircuitsAreWhole = (p : Numbers) (circuits : List (List Node)) → IsWhole (fixed_of p circuits)
