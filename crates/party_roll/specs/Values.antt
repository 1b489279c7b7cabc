-- The values that a party has for the inputs of circuits.
use Rattle.std.specs.Prelude.{ℕ, Bool, nat_eq, ◌&&◌, List, Option}
use Rattle.std.specs.List.{find}
use Rattle.std.specs.Option.{option_map}
use Rattle.ring_spec.specs.Ring.{IsPoly}
use Rattle.draw_spec.specs.Streams.{OfInput, Occurs}
use Rattle.party_roll.specs.declared.placed.Placed.{Placed}

-- whether a value is that of an input of a circuit
abbrev pub is_at : ℕ → ℕ → Placed → Bool
is_at circuit input placed = nat_eq placed.circuit circuit && nat_eq placed.input input

abbrev pub value_of : Placed → List ℕ
value_of placed = placed.value

-- the value for an input of a circuit: the first that was placed there, if there is one
unfoldable pub value_in : List Placed → ℕ → ℕ → Option (List ℕ)
value_in all circuit input = option_map value_of (find (is_at circuit input) all)

-- it is a plaintext modulo t of n coefficients
abbrev pub IsPlain : ℕ → ℕ → Placed → Type 0
IsPlain t n placed = IsPoly t n placed.value

-- there is a stream for its input
abbrev pub HasStream : Placed → Type 0
HasStream placed = Occurs (OfInput placed.circuit placed.input)
