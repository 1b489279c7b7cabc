use Rattle.std.proofs.Common.{◌≡◌, take}
use Rattle.participants.specs.Loads.{loads_of}
use Rattle.participants.proofs.counts.Loads.of.Given as goal

abbrev pub invariant-loop-instance : goal.invariant-loop-instance
invariant-loop-instance l = record { so_far : l.loads ≡ loads_of (take l.instance-index l.instances) }
