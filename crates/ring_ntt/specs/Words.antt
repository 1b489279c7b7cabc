-- What the steps on single words give.
use Rattle.std.specs.Prelude.{ℕ, ◌*◌, ◌/◌, ◌^◌}

-- the precomputed quotient that lets a multiple of w be reduced without a division
abbrev pub quotient_of : ℕ → ℕ → ℕ
quotient_of q w = w * 2 ^ 64 / q
