use Rattle.std.proofs.Common.{◌≡◌, ℕ, ◌+◌, ◌%◌, ◌<◌, ◌≤◌, get_or}
use Rattle.ring_ntt.proofs.tables.Tables.add_into.Given as goal

abbrev pub invariant-sums : goal.invariant-sums
invariant-sums l = record {
  done : (k : ℕ) → k < l.i → get_or l.a k 0 ≡ (get_or l.initial.a k 0 + get_or l.b k 0) % l.self.modulus;
  rest : (k : ℕ) → l.i ≤ k → get_or l.a k 0 ≡ get_or l.initial.a k 0;
}
