use Rattle.std.proofs.Common.{◌≡◌, ◌++◌}
use Rattle.run_report.specs.Checking.{node_lines}
use Rattle.run_report.proofs.check.push_nodes.Given as goal

abbrev pub invariant-nodes : goal.invariant-nodes
invariant-nodes l = l.text.items ≡ l.fn.text.items ++ node_lines l.bounds l.k
