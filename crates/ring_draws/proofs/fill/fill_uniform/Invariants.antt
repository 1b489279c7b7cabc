use Rattle.std.proofs.Common.{◌*◌}
use Rattle.mod_ring.proofs.Filled.{Filled}
use Rattle.ring_draws.proofs.Steps.{Stands, uniform_entry}
use Rattle.ring_draws.proofs.fill.fill_uniform.Given as goal

abbrev pub invariant-loop-i : goal.invariant-loop-i
invariant-loop-i l = record {
  filled : Filled (uniform_entry l.q l.initial.tape) l.initial.entries l.entries l.i;
  tape : Stands l.initial.tape l.tape (4 * l.i);
}
