use Rattle.ring_spec.specs.Ring.{residue, negated, coefficient}
use Rattle.mod_ring.proofs.Filled.{Filled}
use Rattle.mod_ring.proofs.entries.neg_entries.Given as goal

abbrev pub invariant-loop-i : goal.invariant-loop-i
invariant-loop-i l =
    Filled (λ k. residue l.q (negated (coefficient l.initial.acc) k)) l.initial.acc l.acc l.i
