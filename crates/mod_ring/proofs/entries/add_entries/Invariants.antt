use Rattle.ring_spec.specs.Ring.{residue, plus, coefficient}
use Rattle.mod_ring.proofs.Filled.{Filled}
use Rattle.mod_ring.proofs.entries.add_entries.Given as goal

abbrev pub invariant-loop-i : goal.invariant-loop-i
invariant-loop-i l =
    Filled (λ k. residue l.q (plus (coefficient l.initial.acc) (coefficient l.f) k)) l.initial.acc l.acc l.i
