use Rattle.std.proofs.Common.{◌-◌, ap, arith}
use Rattle.param_set.proofs.Digits.{zeros_around, binary_digits_are}
use Rattle.param_set.proofs.params.bits.Goals as goal

pub returns-clause-digits : goal.returns-clause-digits
returns-clause-digits c =
    let around = zeros_around c.args.q _ c.requires (omega arith) (ap (λ z. 64 - z) c.from.ensures) in
    binary_digits_are c.args.q _ around.3 around.2 around.0 around.1

pub returns-clause-some : goal.returns-clause-some
returns-clause-some c = (zeros_around c.args.q _ c.requires (omega arith) (ap (λ z. 64 - z) c.from.ensures)).2

pub returns-clause-below : goal.returns-clause-below
returns-clause-below c = (zeros_around c.args.q _ c.requires (omega arith) (ap (λ z. 64 - z) c.from.ensures)).0

pub returns-clause-top : goal.returns-clause-top
returns-clause-top c = (zeros_around c.args.q _ c.requires (omega arith) (ap (λ z. 64 - z) c.from.ensures)).1
