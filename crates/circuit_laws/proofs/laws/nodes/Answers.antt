use Rattle.circuit_laws.proofs.Within.{nodes_carry, outputs_keep_the_bound, admitted_ones_keep_the_limit}
use Rattle.circuit_laws.proofs.laws.nodes.Goals as goal

pub returns-clause-each : goal.returns-clause-each
returns-clause-each c = nodes_carry

pub returns-clause-output : goal.returns-clause-output
returns-clause-output c = outputs_keep_the_bound

pub returns-clause-limit : goal.returns-clause-limit
returns-clause-limit c = admitted_ones_keep_the_limit
