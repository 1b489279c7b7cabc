use Rattle.std.proofs.Common.{◌≡◌, map, take}
use Rattle.run_report.specs.Reports.{offered}
use Rattle.helper_main.proofs.parties.offered.Given as goal

abbrev pub invariant-named : goal.invariant-named
invariant-named l = l.circuits ≡ map offered (take l.circuit-index l.named)
