use Rattle.std.proofs.Common.{◌≡◌, length}
use Rattle.participants.proofs.Raising.{Rising}
use Rattle.participants.proofs.counts.Loads.raise.Given as goal

abbrev pub invariant-loop-place : goal.invariant-loop-place
invariant-loop-place l = record { full : length l.self-inside.counts ≡ 32; rising : Rising l.set.bits l.initial.self-inside.counts l.self-inside.counts l.place }
