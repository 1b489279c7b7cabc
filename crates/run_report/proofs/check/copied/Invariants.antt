use Rattle.std.proofs.Common.{◌≡◌, take}
use Rattle.run_report.proofs.check.copied.Given as goal

abbrev pub invariant-values : goal.invariant-values
invariant-values l = l.inputs.items ≡ take l.k l.values
