-- What may be multiplied.
use Rattle.std.specs.Prelude.{◌^◌, ◌<◌, List, All, ℤ, unsigned_abs}

-- the entries are below 2^54 in absolute value, as the centres modulo a q below 2^55 are
abbrev pub AreSmall : List ℤ → Type 0
AreSmall f = All (λ x. unsigned_abs x < 2 ^ 54) f
