use Rattle.std.proofs.Common.{◌≡◌, map, take}
use Rattle.ring_ntt.specs.Words.{quotient_of}
use Rattle.ring_ntt.proofs.twiddles.quotients_of.Given as goal

abbrev pub invariant-loop-w : goal.invariant-loop-w
invariant-loop-w l = l.quotients.items ≡ map (quotient_of l.modulus) (take l.w-index l.roots)
