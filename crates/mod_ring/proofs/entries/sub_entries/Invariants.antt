use Rattle.ring_spec.specs.Ring.{residue, minus, coefficient}
use Rattle.mod_ring.proofs.Filled.{Filled}
use Rattle.mod_ring.proofs.entries.sub_entries.Given as goal

abbrev pub invariant-loop-i : goal.invariant-loop-i
invariant-loop-i l =
    Filled (λ k. residue l.q (minus (coefficient l.initial.acc) (coefficient l.f) k)) l.initial.acc l.acc l.i
