-- The inputs of a script's circuits, and the values that a party has for its own.
use Rattle.std.specs.Prelude.{◌≡◌, ℕ, ◌<◌, ◌⊎◌, List, [], slice_get, slice_index_or, All, Some, IsSome}
use Rattle.circuit_form.specs.Circuits.{owners}
use Rattle.party_roll.specs.declared.placed.Placed.{Placed}
use Rattle.party_roll.specs.Values.{value_in, IsPlain}
use Rattle.session_script.specs.Asked.{Named, Asked}

-- no circuit, which stands for one that isn't there
abbrev pub no_circuit : Named
no_circuit = record { name = []; nodes = []; values = [] }

abbrev pub circuit_at : Asked → ℕ → Named
circuit_at a c = slice_index_or a.circuits c no_circuit

-- party p owns input k of circuit c
abbrev pub OwnsInput : Asked → ℕ → ℕ → ℕ → Type 0
OwnsInput a p c k = slice_get (owners (circuit_at a c).nodes) k ≡ Some p

-- the value of that input
abbrev pub asked_value : Asked → ℕ → ℕ → List ℕ
asked_value a c k = slice_index_or (circuit_at a c).values k []

-- a plaintext that is the value of the input at which it is placed
pub record IsAsked (a : Asked) (placed : Placed) : Type 0 where
  pub plain : IsPlain a.numbers.t a.numbers.n placed
  pub value : placed.value ≡ asked_value a placed.circuit placed.input

-- input j of circuit d stands before input k of circuit c
abbrev pub IsBefore : ℕ → ℕ → ℕ → ℕ → Type 0
IsBefore c k d j = (d < c) ⊎ ((d ≡ c) × (j < k))

-- party p owns the input at which a plaintext is placed
abbrev pub IsOwn : Asked → ℕ → Placed → Type 0
IsOwn a p placed = OwnsInput a p placed.circuit placed.input

-- values that are those of inputs that party p owns, and of no others, among them one for each that stands before input k of
-- circuit c
pub record HasOwn (a : Asked) (p c k : ℕ) (values : List Placed) : Type 0 where
  pub right : All (IsAsked a) values
  pub own : All (IsOwn a p) values
  pub there : (d j : ℕ) → IsBefore c k d j → OwnsInput a p d j → IsSome (value_in values d j)
