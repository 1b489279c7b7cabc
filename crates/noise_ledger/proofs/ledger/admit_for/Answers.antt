-- Where all nodes keep within the limit, the output decides.
use Rattle.std.proofs.Common.{arith}
use Rattle.std.proofs.lemmas.Grind.{common_steps}
use Rattle.noise_ledger.specs.Bounds.{numbers_for}
use Rattle.noise_ledger.proofs.Walks.{output_over, none_over}
use Rattle.noise_ledger.proofs.ledger.admit_for.Goals as goal

pub returns-clause-place : goal.returns-clause-place
returns-clause-place c =
    let over = output_over (numbers_for c.args.params.now c.args.threshold) c.args.circuit.now c.bound_nodes.new.bounds c.in_ok-bound_nodes.ensures.bounds c.in_ok-bound_nodes.ensures.within in
    grind (arith, common_steps, over, c.tested.ensures, c.limit.ensures, c.bound_output-bound.ensures)

pub returns-clause-admitted : goal.returns-clause-admitted
returns-clause-admitted c =
    let none = none_over (numbers_for c.args.params.now c.args.threshold) c.args.circuit.now c.bound_nodes.new.bounds c.in_ok-bound_nodes.ensures.bounds c.in_ok-bound_nodes.ensures.within in
    grind (arith, common_steps, none, c.tested.ensures, c.limit.ensures, c.bound_output-bound.ensures)
