use Rattle.mod_ring.specs.WideSums.{raised}
use Rattle.mod_ring.proofs.Filled.{Filled}
use Rattle.mod_ring.proofs.wide_sums.add_products.Given as goal

abbrev pub invariant-loop-i : goal.invariant-loop-i
invariant-loop-i l = Filled (raised l.initial.sums l.f l.g) l.initial.sums l.sums l.i
