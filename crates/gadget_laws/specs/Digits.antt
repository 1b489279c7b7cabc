-- What the digits of a residue are: they make it up, and none is large.
use Rattle.std.specs.Prelude.{◌≡◌, ℕ, ◌<◌, ◌≤◌, cond, ℤ, pos, ◌*ℤ◌, unsigned_abs}
use Rattle.ring_spec.specs.Ring.{total, centre}
use Rattle.gadget_spec.specs.Digits.{Gadget, Serves, weight, widest, digit}

-- digit i of a residue times its weight
abbrev pub weighted : ℕ → Gadget → ℕ → ℕ → ℤ
weighted q g x i = pos (weight g i) *ℤ digit q g i x

-- the digits of a residue times their weights sum to the residue, and to its centre where they are balanced
abbrev pub DigitsMakeUp : Type 0
DigitsMakeUp = (q : ℕ) (g : Gadget) (x : ℕ) → Serves q g → x < q → total g.rows (weighted q g x) ≡ cond g.balanced (centre q x) (pos x)

-- no digit is greater than W in absolute value
abbrev pub DigitsAreSmall : Type 0
DigitsAreSmall = (q : ℕ) (g : Gadget) (x i : ℕ) → Serves q g → x < q → i < g.rows → unsigned_abs (digit q g i x) ≤ widest g
