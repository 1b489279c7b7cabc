use Rattle.gadget_laws.proofs.Digits.{digits_make_up, digits_are_small}
use Rattle.gadget_laws.proofs.Shifts.{balanced_digits_are_shifted, halves_are_enough}
use Rattle.gadget_laws.proofs.laws.digits.Goals as goal

pub returns-clause-sum : goal.returns-clause-sum
returns-clause-sum c = digits_make_up

pub returns-clause-small : goal.returns-clause-small
returns-clause-small c = digits_are_small

pub returns-clause-shifted : goal.returns-clause-shifted
returns-clause-shifted c = balanced_digits_are_shifted

pub returns-clause-halves : goal.returns-clause-halves
returns-clause-halves c = halves_are_enough
