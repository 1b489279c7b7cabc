-- Rounds are made, and others may follow.
use Rattle.std.proofs.Common.{◌≡◌, ◌-◌}
use Rattle.session_core.specs.Calls.{known}
use Rattle.lane_workers.specs.Doing.{Acted, rules_for, state_behind}
use Rattle.run_laws.proofs.MoreRounds.{SoFar}
use Rattle.lane_workers.proofs.settling.settle.Given as goal

abbrev pub invariant-rounds : goal.invariant-rounds
invariant-rounds g l = record {
  same : known l.session ≡ known l.fn.session;
  made : Acted (SoFar (6 - l.counter) (rules_for l.fn.session) (state_behind l.fn.session)) l.fn.session.log.items l.session.log.items;
}
