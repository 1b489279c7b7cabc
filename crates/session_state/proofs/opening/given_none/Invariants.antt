use Rattle.std.proofs.Common.{◌≡◌, map, take}
use Rattle.session_rules.specs.States.{none_given}
use Rattle.session_state.proofs.opening.given_none.Given as goal

abbrev pub invariant-plans : goal.invariant-plans
invariant-plans l = l.given.items ≡ map none_given (take l.plan-index l.fn.rules.plans)
