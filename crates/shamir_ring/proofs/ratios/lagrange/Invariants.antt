use Rattle.std.proofs.Common.{◌≡◌, ◌<◌}
use Rattle.shamir_ring.proofs.Quotient.{so_far}
use Rattle.shamir_ring.proofs.ratios.lagrange.Given as goal

abbrev pub invariant-loop-place : goal.invariant-loop-place
invariant-loop-place l = record { below : l.value < l.q; value : l.value ≡ so_far l.q l.set.bits l.j l.place }
