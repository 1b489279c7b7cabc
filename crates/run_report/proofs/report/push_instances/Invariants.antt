use Rattle.std.proofs.Common.{◌≡◌, ◌++◌, take}
use Rattle.std.specs.List.{flat_map}
use Rattle.session_state.specs.Standings.{state}
use Rattle.run_report.specs.Told.{told_instance}
use Rattle.run_report.proofs.report.push_instances.Given as goal

abbrev pub invariant-instances : goal.invariant-instances
invariant-instances l =
    l.text.items ≡ l.fn.text.items ++ flat_map (told_instance l.session.standing l.session.roll.master) (take l.instance-index (state l.session.standing).instances)
