-- Circuits that ask for no input.
use Rattle.std.specs.Prelude.{◌≡◌, ℕ, false, []}
use Rattle.circuit_form.specs.Circuits.{owners}
use Rattle.session_rules.specs.Steps.{is_input}
use Rattle.session_spec.specs.Settings.{Setting, Offer, rules}

-- nobody owns an input of it
abbrev pub AsksForNone : Offer → Type 0
AsksForNone offer = owners offer.nodes ≡ []

-- no circuit has an input
abbrev pub HasNoInput : Setting → Type 0
HasNoInput w = (c k : ℕ) → is_input (rules w) c k ≡ false
