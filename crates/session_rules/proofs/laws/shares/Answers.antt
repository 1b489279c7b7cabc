use Rattle.session_rules.proofs.Completions.{answered_ones_are_decrypted}
use Rattle.session_rules.proofs.Deliveries.{shares_are_wanted, shapes_are_refused, shares_are_counted_once, complete_ones_lack_none, complete_ones_have_all, completed_ones_have_all}
use Rattle.session_rules.proofs.laws.shares.Goals as goal

pub returns-clause-wanted : goal.returns-clause-wanted
returns-clause-wanted c = shares_are_wanted

pub returns-clause-once : goal.returns-clause-once
returns-clause-once c = shares_are_counted_once

pub returns-clause-complete : goal.returns-clause-complete
returns-clause-complete c = complete_ones_lack_none

pub returns-clause-shape : goal.returns-clause-shape
returns-clause-shape c = shapes_are_refused

pub returns-clause-all : goal.returns-clause-all
returns-clause-all c = complete_ones_have_all

pub returns-clause-completed : goal.returns-clause-completed
returns-clause-completed c = completed_ones_have_all

pub returns-clause-decrypted : goal.returns-clause-decrypted
returns-clause-decrypted c = answered_ones_are_decrypted
