use Rattle.std.proofs.Common.{◌≡◌, ◌≤◌, List, length, ◌+◌}
use Rattle.proto_names.specs.declared.instance.Instance.{Instance}
use Rattle.participants.specs.Loads.{loads_of}
use Rattle.participants.specs.Live.{live_ones}
use Rattle.session_rules.proofs.StandIns.{Planning}
use Rattle.session_rules.proofs.planning.planned_moves.Given as goal

abbrev pub invariant-steps : goal.invariant-steps
invariant-steps l = record {
  few : length l.instances.items ≤ length l.fn.live.items + l.counter;
  few_issued : l.number ≤ l.fn.issued + l.counter;
  loads : l.loads ≡ loads_of l.instances.items;
  moves : (all : List Instance) → l.fn.live.items ≡ live_ones all → l.fn.issued ≡ length all
      → Planning l.fn.fixed l.fn.present.bits l.fn.circuits all (length l.fn.needed + length l.fn.circuits + 2) l.counter l.number l.instances.items l.made.items;
}
