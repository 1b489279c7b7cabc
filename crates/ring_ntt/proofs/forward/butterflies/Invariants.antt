use Rattle.std.proofs.Common.{◌≡◌, ℕ, ◌+◌, ◌-◌, ◌*◌, ◌%◌, ◌<◌, ◌≤◌, get_or}
use Rattle.ring_ntt.proofs.forward.butterflies.Given as goal

abbrev pub invariant-pairs : goal.invariant-pairs
invariant-pairs l = record {
  low_below : (k : ℕ) → k < l.i → get_or l.low k 0 < 4 * l.q;
  high_below : (k : ℕ) → k < l.i → get_or l.high k 0 < 4 * l.q;
  sums : (k : ℕ) → k < l.i → get_or l.low k 0 % l.q ≡ (get_or l.initial.low k 0 + l.w.root * get_or l.initial.high k 0) % l.q;
  differences : (k : ℕ) → k < l.i → get_or l.high k 0 % l.q ≡ (get_or l.initial.low k 0 + (l.q - l.w.root) * get_or l.initial.high k 0) % l.q;
  low_rest : (k : ℕ) → l.i ≤ k → get_or l.low k 0 ≡ get_or l.initial.low k 0;
  high_rest : (k : ℕ) → l.i ≤ k → get_or l.high k 0 ≡ get_or l.initial.high k 0;
}
