use Rattle.std.proofs.Common.{◌≡◌, ◌≤◌, length, take}
use Rattle.run_report.specs.Values.{trimmed}
use Rattle.run_report.proofs.values.trimmed.Given as goal

abbrev pub invariant-zeros : goal.invariant-zeros
invariant-zeros l = (l.end ≤ length l.coeffs) × (trimmed (take l.end l.coeffs) ≡ trimmed l.coeffs)

abbrev pub decreases-zeros : goal.decreases-zeros
decreases-zeros l = l.end
