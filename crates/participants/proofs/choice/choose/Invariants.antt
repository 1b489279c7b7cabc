use Rattle.std.proofs.Common.{◌≡◌, ◌-◌}
use Rattle.participants.specs.Loads.{chosen_from, chosen}
use Rattle.participants.proofs.choice.choose.Given as goal

abbrev pub invariant-loop : goal.invariant-loop
invariant-loop l = record { whole : chosen_from (l.k - l.counter) l.loads l.rest.bits l.taken.bits ≡ chosen l.k l.loads l.fn.among.bits }
