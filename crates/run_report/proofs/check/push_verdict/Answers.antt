-- A refused circuit has the bounds of the nodes before the place that is told.
use Rattle.std.proofs.Common.{◌≡◌, ◌++◌, rules, arith}
use Rattle.circuit_form.specs.Values.{plain_value}
use Rattle.param_set.specs.Numbers.{numbers_of}
use Rattle.noise_ledger.specs.Ledger.{nodes_before}
use Rattle.run_report.specs.Checking.{node_lines}
use Rattle.run_report.proofs.Checked.{over_within, refused}
use Rattle.run_report.proofs.check.push_verdict.Goals as goal

pub push_nodes-requires-in-Err : goal.push_nodes-requires-in-Err
push_nodes-requires-in-Err c =
    omega (arith, over_within (numbers_of c.args.params.now) c.args.circuit.now c.in-Err.over.place c.in-Err.ensures.place)

pub returns-in_ok-push_nodes-in-Err : goal.returns-in_ok-push_nodes-in-Err
returns-in_ok-push_nodes-in-Err c =
    let p = numbers_of c.args.params.now in
    let nodes = c.args.circuit.now in
    let place = c.in-Err.over.place in
    let bounds = c.admit.new.bounds in
    let value = plain_value c.args.params.now.n c.args.params.now.t c.args.values.now nodes in
    let whole = refused p nodes value c.args.text.now.items bounds place c.in-Err.over.bound c.in-Err.ensures.place c.in-Err.ensures.earlier c.in-Err.ensures.bound in
    let before : c.push_nodes-in-Err.new.text.items ≡ c.args.text.now.items ++ node_lines bounds (nodes_before nodes place) = search rules in
    rw (← whole) (rw before at c.push_over.ensures)
