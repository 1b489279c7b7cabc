-- The quotient is scaled to a whole number, and the rest is rounded.
use Rattle.std.proofs.Common.{arith}
use Rattle.int_tensor.proofs.Quotients.{apart}
use Rattle.int_tensor.proofs.rounding.scaled_size.Goals as goal

pub returns-clause-value : goal.returns-clause-value
returns-clause-value c = apart c.args.t c.args.q c.args.a (omega (arith, c.requires.modulus))
