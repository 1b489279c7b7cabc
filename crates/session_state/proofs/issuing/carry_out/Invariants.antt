use Rattle.std.proofs.Common.{◌≡◌, ◌≤◌, ◌+◌, ◌++◌, map, length, take, fold}
use Rattle.instance_table.specs.Spare.{spare}
use Rattle.session_rules.specs.Issues.{instances_after}
use Rattle.session_state.specs.Issuings.{move_of, issued, brief_of, sums_of}
use Rattle.session_state.proofs.issuing.carry_out.Given as goal

abbrev pub invariant-steps : goal.invariant-steps
invariant-steps l = record {
  can_next : (goal.iterator-steps).can_next l.step-iterator;
  finite : (goal.iterator-steps).is_finite l.step-iterator;
  first : l.yielded ≡ take (length l.yielded) l.fn.issuing.steps.items;
  instances : l.table.instances.items ≡ fold instances_after l.initial.table.instances.items (map move_of l.yielded);
  briefs : l.table.briefs.items ≡ l.initial.table.briefs.items ++ map brief_of (issued l.yielded);
  sums : l.table.sums.items ≡ l.initial.table.sums.items ++ map sums_of (issued l.yielded);
  count : length l.table.instances.items ≡ length l.initial.table.instances.items + length (issued l.yielded);
  few : length (issued l.yielded) ≤ length l.yielded;
  spare : spare l.initial.table ≤ spare l.table + length l.yielded;
  ring : l.table.params ≡ l.initial.table.params;
}
