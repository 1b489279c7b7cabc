use Rattle.std.proofs.Common.{length}
use Rattle.mod_ring.proofs.Turned.{Turned}
use Rattle.mod_ring.proofs.turns.turn_entries.Given as goal

abbrev pub invariant-loop-i : goal.invariant-loop-i
invariant-loop-i l = Turned l.q (length l.initial.entries) l.g l.f l.entries l.i l.place
