use Rattle.mod_ring.proofs.Filled.{Filled}
use Rattle.ring_draws.proofs.Steps.{Stands, small_entry}
use Rattle.ring_draws.proofs.fill.fill_small.Given as goal

abbrev pub invariant-loop-i : goal.invariant-loop-i
invariant-loop-i l = record {
  filled : Filled (small_entry l.q l.bound l.initial.tape) l.initial.entries l.entries l.i;
  tape : Stands l.initial.tape l.tape l.i;
}
