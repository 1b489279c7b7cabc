use Rattle.participants.proofs.Choosing.{chosen_are_members, chosen_come_first, chosen_are_many, all_are_chosen, chosen_are_parties}
use Rattle.participants.proofs.laws.choosing.Goals as goal

pub returns-clause-members : goal.returns-clause-members
returns-clause-members c = chosen_are_members

pub returns-clause-first : goal.returns-clause-first
returns-clause-first c = chosen_come_first

pub returns-clause-many : goal.returns-clause-many
returns-clause-many c = chosen_are_many

pub returns-clause-all : goal.returns-clause-all
returns-clause-all c = all_are_chosen

pub returns-clause-parties : goal.returns-clause-parties
returns-clause-parties c = chosen_are_parties
