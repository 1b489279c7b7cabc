use Rattle.std.proofs.Common.{◌≡◌, ◌++◌, map, take}
use Rattle.ring_ntt.specs.Nodes.{multiple}
use Rattle.ring_ntt.proofs.twiddles.push_multiples.Given as goal

abbrev pub invariant-loop-k : goal.invariant-loop-k
invariant-loop-k l = l.roots.items ≡ l.initial.roots.items ++ map (multiple l.modulus l.base) (take l.k l.initial.roots.items)
