use Rattle.std.proofs.Common.{◌≡◌, ℕ, ◌*◌, ◌%◌, ◌≤◌, ◌<◌}
use Rattle.std.specs.Int.{IsGcd}
use Rattle.mod_inverse.proofs.euclid.inverse.Given as goal

abbrev pub invariant-loop-here : goal.invariant-loop-here
invariant-loop-here l = record {
  above_below : l.above.factor < l.q;
  here_below : l.here.factor < l.q;
  within : l.above.remainder ≤ l.q;
  here_within : l.here.remainder ≤ l.q;
  above_agrees : l.above.factor * l.x % l.q ≡ l.above.remainder % l.q;
  here_agrees : l.here.factor * l.x % l.q ≡ l.here.remainder % l.q;
  divisor : (g : ℕ) → IsGcd l.above.remainder l.here.remainder g → IsGcd l.q l.x g;
}

abbrev pub decreases-loop-here : goal.decreases-loop-here
decreases-loop-here l = l.here.remainder
