use Rattle.mod_ring.proofs.Filled.{Filled}
use Rattle.shamir_ring.proofs.Horner.{stepped}
use Rattle.shamir_ring.proofs.values.horner.Given as goal

abbrev pub invariant-loop-i : goal.invariant-loop-i
invariant-loop-i l = Filled (stepped l.modulus.q l.point l.initial.value l.f) l.initial.value l.value l.i
