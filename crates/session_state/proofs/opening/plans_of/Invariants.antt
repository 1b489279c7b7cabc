use Rattle.std.proofs.Common.{◌≡◌, map, take}
use Rattle.param_set.specs.Numbers.{numbers_of}
use Rattle.session_rules.specs.Fixing.{plan_of}
use Rattle.session_spec.specs.Settings.{nodes_of}
use Rattle.session_state.proofs.opening.plans_of.Given as goal

abbrev pub invariant-circuits : goal.invariant-circuits
invariant-circuits l = l.plans ≡ map (plan_of (numbers_of l.fn.params)) (map nodes_of (take l.place l.fn.circuits))
