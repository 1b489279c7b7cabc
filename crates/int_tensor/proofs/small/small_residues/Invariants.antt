use Rattle.std.proofs.Common.{◌≡◌, map, take}
use Rattle.ring_spec.specs.Ring.{residue}
use Rattle.int_tensor.proofs.small.small_residues.Given as goal

abbrev pub invariant-loop-x : goal.invariant-loop-x
invariant-loop-x l = l.residues.items ≡ map (residue l.q) (take l.x-index l.f)
