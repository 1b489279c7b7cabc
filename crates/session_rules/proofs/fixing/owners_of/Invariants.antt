use Rattle.std.proofs.Common.{◌≡◌, take}
use Rattle.circuit_form.specs.Circuits.{owners}
use Rattle.session_rules.proofs.fixing.owners_of.Given as goal

abbrev pub invariant-inputs : goal.invariant-inputs
invariant-inputs l = l.owners ≡ take l.k (owners l.fn.circuit)
