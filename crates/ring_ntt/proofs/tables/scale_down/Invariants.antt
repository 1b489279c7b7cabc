use Rattle.std.proofs.Common.{◌≡◌, ℕ, ◌*◌, ◌%◌, ◌<◌, ◌≤◌, get_or}
use Rattle.ring_ntt.proofs.tables.scale_down.Given as goal

abbrev pub invariant-loop-x : goal.invariant-loop-x
invariant-loop-x l = record {
  done : (k : ℕ) → k < l.x-index → get_or l.a k 0 ≡ l.scale.root * get_or l.initial.a k 0 % l.q;
  rest : (k : ℕ) → l.x-index ≤ k → get_or l.a k 0 ≡ get_or l.initial.a k 0;
}
