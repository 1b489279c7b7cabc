use Rattle.run_laws.proofs.Counts.{calls_are_few, stops_are_short}
use Rattle.run_laws.proofs.Rounds.{rounds_are_short, round_stops_are_short, settling_is_short, unsettled_is_short}
use Rattle.run_laws.proofs.Course.{course_is_short, course_stops_short, small_ones_are_short}
use Rattle.run_laws.proofs.laws.counts.Goals as goal

pub returns : goal.returns
returns c = record {
  calls = calls_are_few;
  stops = stops_are_short;
  rounds = rounds_are_short;
  round_stops = round_stops_are_short;
  settling = settling_is_short;
  unsettled = unsettled_is_short;
  course = course_is_short;
  course_stops = course_stops_short;
  small = small_ones_are_short;
}
