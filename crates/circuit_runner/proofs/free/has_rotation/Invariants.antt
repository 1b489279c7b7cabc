-- No node that was passed is a rotation.
use Rattle.std.proofs.Common.{◌≡◌, false, take}
use Rattle.std.specs.List.{list_any}
use Rattle.cipher_spec.specs.Ciphers.{is_rotation}
use Rattle.circuit_runner.proofs.free.has_rotation.Given as goal

abbrev pub invariant-nodes : goal.invariant-nodes
invariant-nodes l = list_any is_rotation (take l.k l.circuit) ≡ false
