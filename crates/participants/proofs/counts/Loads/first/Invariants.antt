use Rattle.std.proofs.Common.{◌≡◌, ◌≤◌, IfSome}
use Rattle.share_spec.specs.Sets.{members_to}
use Rattle.participants.specs.Loads.{first_of}
use Rattle.participants.proofs.counts.Loads.first.Given as goal

abbrev pub invariant-loop-place : goal.invariant-loop-place
invariant-loop-place l = record { so_far : l.first ≡ first_of l.self (members_to l.place l.among.bits); range : IfSome l.first (λ p. (1 ≤ p) × (p ≤ 32)) }
