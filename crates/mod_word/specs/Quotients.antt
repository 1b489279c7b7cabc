-- The quotient that is taken once for all multiples of a residue.
use Rattle.std.specs.Prelude.{ℕ, ◌*◌, ◌/◌, ◌^◌}

-- w * 2^64 / q, rounded down; for w below q it is a word
abbrev pub quotient_of : ℕ → ℕ → ℕ
quotient_of q w = w * 2 ^ 64 / q
