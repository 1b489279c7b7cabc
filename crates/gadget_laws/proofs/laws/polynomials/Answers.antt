use Rattle.gadget_laws.proofs.Polynomials.{digits_are_polynomials, polynomials_are_small, polynomials_make_up}
use Rattle.gadget_laws.proofs.laws.polynomials.Goals as goal

pub returns-clause-fit : goal.returns-clause-fit
returns-clause-fit c = digits_are_polynomials

pub returns-clause-small : goal.returns-clause-small
returns-clause-small c = polynomials_are_small

pub returns-clause-sum : goal.returns-clause-sum
returns-clause-sum c = polynomials_make_up
