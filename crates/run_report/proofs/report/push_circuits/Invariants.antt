use Rattle.std.proofs.Common.{◌≡◌, ◌++◌}
use Rattle.std.specs.List.{range_with_len, flat_map}
use Rattle.session_script.specs.Scripts.{asked}
use Rattle.session_state.specs.Standings.{state}
use Rattle.run_report.specs.Reports.{circuit_text}
use Rattle.run_report.proofs.report.push_circuits.Given as goal

abbrev pub invariant-circuits : goal.invariant-circuits
invariant-circuits l =
    l.text.items ≡ l.fn.text.items ++ flat_map (circuit_text (asked l.script) (state l.session.standing)) (range_with_len 0 l.number)
