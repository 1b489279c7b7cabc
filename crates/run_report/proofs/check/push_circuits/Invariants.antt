use Rattle.std.proofs.Common.{◌≡◌, ◌++◌, take}
use Rattle.std.specs.List.{flat_map}
use Rattle.session_script.specs.Scripts.{asked}
use Rattle.run_report.specs.Reports.{bounding}
use Rattle.run_report.specs.Checking.{circuit_check}
use Rattle.run_report.proofs.check.push_circuits.Given as goal

abbrev pub invariant-circuits : goal.invariant-circuits
invariant-circuits l =
    l.text.items ≡ l.fn.text.items ++ flat_map (circuit_check (bounding (asked l.script))) (take l.named-index l.script.circuits)
