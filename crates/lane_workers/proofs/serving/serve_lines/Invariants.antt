-- What is in hand fits, and the lines that are left are to be done from there.
use Rattle.std.proofs.Common.{◌≡◌, map, drop}
use Rattle.session_rules.specs.Tasks.{does}
use Rattle.session_rules.specs.Courses.{to_do}
use Rattle.lane_workers.specs.Desks.{known_of, rules_of, state_seen}
use Rattle.lane_workers.specs.Hands.{in_hand, HandFits}
use Rattle.lane_workers.specs.Doing.{Going}
use Rattle.lane_workers.proofs.serving.serve_lines.Given as goal

abbrev pub invariant-lines : goal.invariant-lines
invariant-lines g l =
    let v = g.D.Desk.view l.fn.desk in
    let w = g.D.Desk.view l.desk in
    record {
      same : w.fixed ≡ v.fixed;
      fits : HandFits (known_of w) (state_seen w) l.hand;
      doing : Going (to_do (map does l.lane)) (record { hand = in_hand (rules_of v) l.hand; tasks = map does (drop l.line-index l.lane) }) v w;
    }
