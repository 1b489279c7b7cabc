use Rattle.std.proofs.Common.{◌≤◌}
use Rattle.proto_names.proofs.Members.{Chosen}
use Rattle.proto_names.proofs.sets.PartySet.least.Given as goal

abbrev pub invariant-loop-place : goal.invariant-loop-place
invariant-loop-place l = record { few : l.taken ≤ l.place; so_far : Chosen l.self.bits l.k l.bits l.taken l.place }
