use Rattle.gadget_laws.proofs.Switches.{switches_add_little}
use Rattle.gadget_laws.proofs.SwitchTotals.{switches_fit, switches_are_totals}
use Rattle.gadget_laws.proofs.laws.switches.Goals as goal

pub returns-clause-noise : goal.returns-clause-noise
returns-clause-noise c = switches_add_little

pub returns-clause-fit : goal.returns-clause-fit
returns-clause-fit c = switches_fit

pub returns-clause-totals : goal.returns-clause-totals
returns-clause-totals c = switches_are_totals
