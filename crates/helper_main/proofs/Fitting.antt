-- The lines of a script's lanes name parties of its session.
use Rattle.std.proofs.Common.{◌≡◌, ℕ, List, sym, subst}
use Rattle.std.specs.Prelude.{All, replicate}
use Rattle.std.proofs.lemmas.List.Elements.{All-append, All-replicate, All-weaker}
use Rattle.session_rules.specs.declared.line.Line.{Line}
use Rattle.session_rules.specs.declared.line.Line.TheVariants as line
use Rattle.session_script.specs.Asked.{Numbers}
use Rattle.session_script.specs.Kept.{IsLine as IsScriptLine, IsLane as IsScriptLane, AreLanes as AreScriptLanes}
use Rattle.lane_workers.specs.Acting.{IsLine, IsLane, AreLanes}

line_fits : (numbers : Numbers) (said : Line) → IsScriptLine numbers said → IsLine numbers.parties said
unfolding IsScriptLine
line_fits numbers (line.Join p) h = h
line_fits numbers (line.Lose p) h = h
line_fits numbers (line.Send p) h = h
line_fits numbers (line.Hold p id) h = h.0
line_fits numbers line.Give h = tt
line_fits numbers line.Work h = tt
line_fits numbers line.Quit h = tt

lane_fits : (numbers : Numbers) (lane : List Line) → IsScriptLane numbers lane → IsLane numbers.parties lane
lane_fits numbers lane h = All-weaker (IsScriptLine numbers) (IsLine numbers.parties) (line_fits numbers) lane h

-- the written ones, and those of workers
pub lanes_fit : (numbers : Numbers) (lanes : List (List Line)) → AreScriptLanes numbers lanes → AreLanes numbers.parties lanes
lanes_fit numbers lanes h =
    let n = numbers.parties in
    subst (AreLanes n) (sym h.all)
    (All-append (IsLane n) h.written (replicate h.workers (replicate h.jobs line.Work)) (All-weaker (IsScriptLane numbers) (IsLane n) (lane_fits numbers) h.written h.each)
    (All-replicate (IsLane n) h.workers (replicate h.jobs line.Work) (All-replicate (IsLine n) h.jobs line.Work tt)))
