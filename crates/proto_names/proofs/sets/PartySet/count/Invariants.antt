use Rattle.std.proofs.Common.{◌≡◌, ◌≤◌, length}
use Rattle.share_spec.specs.Sets.{members_to}
use Rattle.proto_names.proofs.sets.PartySet.count.Given as goal

abbrev pub invariant-loop-place : goal.invariant-loop-place
invariant-loop-place l = record { few : l.count ≤ l.place; counted : l.count ≡ length (members_to l.place l.self.bits) }
