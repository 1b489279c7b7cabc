use Rattle.std.proofs.Common.{arith}
use Rattle.instance_table.proofs.Orders.{added-in_any_order, added-to_none}
use Rattle.session_laws.proofs.laws.orders.Goals as goal

pub returns-clause-one : goal.returns-clause-one
returns-clause-one c = added-in_any_order

pub returns-clause-totals : goal.returns-clause-totals
returns-clause-totals c = λ p σ shares row l. added-to_none p σ shares row (omega (arith, p.modulus)) l
