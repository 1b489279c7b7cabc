use Rattle.std.proofs.Common.{◌≡◌, ◌+◌, ◌-◌, ◌%◌, ◌^◌, ◌<◌}
use Rattle.mod_ring.proofs.fixed_primes.root_for.Given as goal

abbrev pub invariant-squarings : goal.invariant-squarings
invariant-squarings l = record {
  residue : l.root < l.q;
  root : l.root ^ (2 ^ (12 + l.levels - l.k)) % l.q ≡ l.q - 1;
}
