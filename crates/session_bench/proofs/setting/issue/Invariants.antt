use Rattle.std.proofs.Common.{◌≡◌}
use Rattle.session_bench.proofs.setting.issue.Given as goal

abbrev pub invariant-turns : goal.invariant-turns
invariant-turns l = l.session.standing.params ≡ l.initial.session.standing.params
