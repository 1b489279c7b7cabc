-- The serial course is short; and its run keeps it, where it may make as many calls.
use Rattle.std.proofs.Common.{◌≡◌, ◌∙◌, sym, ap, subst, refl, ℕ, zero, suc, ◌+◌, ◌*◌, ◌≤◌, Bool, true, false, List, [], ◌∷◌, ◌++◌, length, map, Option, Some, None, arith}
use Rattle.std.specs.List.{flat_map}
use Rattle.std.proofs.Math.Nat.{add-mul}
use Rattle.std.proofs.lemmas.Nat.{mul-le}
use Rattle.std.proofs.lemmas.List.{length-append}
use Rattle.std.proofs.lemmas.List.Sums.{sum_by-cons}
use Rattle.session_rules.specs.declared.call.Call.{Call}
use Rattle.session_rules.specs.declared.call.Entry.{Entry}
use Rattle.session_rules.specs.declared.line.Line.{Line}
use Rattle.session_rules.specs.declared.line.Line.TheVariants as line
use Rattle.session_rules.specs.declared.fixed.Fixed.{Fixed}
use Rattle.session_rules.specs.States.{State, opening}
use Rattle.session_rules.specs.Histories.{after, state_after}
use Rattle.session_rules.specs.Tasks.{Task, begin, does, Left, next_call, left, run}
use Rattle.session_rules.specs.Courses.{to_do, joins, lane_tasks, Follows, is_settled, round_tasks, serial_tasks, Settles, rounds, settling_run, serial_run}
use Rattle.session_rules.proofs.Grounds.{KeptWell, after_grounds, opening_grounds}
use Rattle.run_laws.specs.Alone.{Stops, in_lanes, in_rounds}
use Rattle.run_laws.specs.Lengths.{most_sent, most_round, most_line, most_of, is_exhaust, line_count, lines, most_calls, CourseIsShort, CourseStopsShort, RunIsSerial, SerialRunIsLegal, SerialIsItsRun, IsSmall, SmallOnesAreShort}
use Rattle.run_laws.proofs.Circuits.{few_are_signed}
use Rattle.run_laws.proofs.Dropped.{left_stands, next_none}
use Rattle.run_laws.proofs.Without.{serial_none}
use Rattle.run_laws.proofs.Replies.{AreBy, own_all, all_own, by_first, by_second, by_both, Replied, replied_replayed, replayed_replied, replied_first, replied_second, replied_both}
use Rattle.run_laws.proofs.Alone.{Goes, goes}
use Rattle.run_laws.proofs.Serial.{Rounds, settling_none, settling_over, settling_more, serial_parts, serial_is_only}
use Rattle.run_laws.proofs.Counts.{most_nil, most_cons, most_append, sent_one, next_one, IsBounded, few}
use Rattle.run_laws.proofs.Rounds.{round_short, settling_few, unsettled_few}

-- ---- lanes

joins_most : (f : Fixed) (ps : List ℕ) → most_of f (map joins ps) ≡ length ps
joins_most f [] = omega (arith, most_nil f)
joins_most f (p ∷ ps) = omega (arith, most_cons f (joins p) (map joins ps), joins_most f ps)

line_most : (f : Fixed) (x : Line) → most_line f x ≤ 1 + most_sent f
line_most f (line.Join p) = omega arith
line_most f (line.Lose p) = omega arith
line_most f (line.Send p) = omega arith
line_most f (line.Hold p id) = omega arith
line_most f line.Give = omega arith
line_most f line.Work = omega (arith, sent_one f)
line_most f line.Quit = omega (arith, sent_one f)

lines_most : (f : Fixed) (lane : List Line) → most_of f (map does lane) ≤ length lane * (1 + most_sent f)
lines_most f [] = omega (arith, most_nil f)
lines_most f (x ∷ xs) = omega (arith, most_cons f (does x) (map does xs), line_most f x, lines_most f xs)

pub lane_most : (f : Fixed) (lane : List Line) → most_of f (lane_tasks lane) ≤ length lane * (1 + most_sent f)
lane_most f lane = omega (arith, most_cons f begin (map does lane), lines_most f lane)

lines_more : (lane : List Line) (lanes : List (List Line)) (m : ℕ) → length lane * m + lines lanes * m ≡ lines (lane ∷ lanes) * m
unfolding lines
lines_more lane lanes m = omega (arith, add-mul (length lane) (lines lanes) m, ap (λ (z : ℕ). z * m) (sum_by-cons line_count lane lanes))

pub lanes_most : (f : Fixed) (lanes : List (List Line)) → most_of f (flat_map lane_tasks lanes) ≤ lines lanes * (1 + most_sent f)
lanes_most f [] = omega (arith, most_nil f)
lanes_most f (lane ∷ lanes) =
    omega (arith, most_append f (lane_tasks lane) (flat_map lane_tasks lanes), lane_most f lane, lanes_most f lanes, lines_more lane lanes (1 + most_sent f))

pub serial_most : (f : Fixed) (present : List ℕ) (lanes : List (List Line)) → most_of f (serial_tasks present lanes) + 6 * most_round f ≤ most_calls f present lanes
unfolding serial_tasks most_calls
serial_most f present lanes = omega (arith, most_append f (map joins present) (flat_map lane_tasks lanes), joins_most f present, lanes_most f lanes)

pub serial_bounded : (present : List ℕ) (lanes : List (List Line)) → IsBounded (serial_tasks present lanes)
serial_bounded present lanes = serial_none is_exhaust (λ l. refl) refl present lanes

-- ---- the course

-- entries that follow its tasks so far
acts_few : (f : Fixed) (present : List ℕ) (lanes : List (List Line)) (es : List Entry) (rest : Left) → KeptWell f (opening f) → AreBy 0 es → Replied f (opening f) es
    → left f.rows (to_do (serial_tasks present lanes)) es ≡ Some rest → length es + most_of f rest.tasks ≤ most_of f (serial_tasks present lanes)
acts_few f present lanes es rest g by replied h =
    let own_ = own_all 0 es by in
    let l = few f 0 (opening f) (to_do (serial_tasks present lanes)) rest es g (serial_bounded present lanes) replied (ap (left f.rows (to_do (serial_tasks present lanes))) own_ ∙ h) in
    omega (arith, l, ap length own_)

pub course_is_short : CourseIsShort
course_is_short f present lanes es w legal is =
    let g = opening_grounds f w in
    let by : AreBy 0 (is.acts ++ is.settling) = subst (AreBy 0) is.parts (all_own 0 es is.alone) in
    let replied : Replied f (opening f) (is.acts ++ is.settling) = subst (Replied f (opening f)) is.parts (replayed_replied f (opening f) es legal) in
    let lengths : length es ≡ length is.acts + length is.settling = ap length is.parts ∙ length-append is.acts is.settling in
    let acts = acts_few f present lanes is.acts (record { hand = is.follows.hand; tasks = [] }) g (by_first 0 is.acts is.settling by) (replied_first f (opening f) is.acts is.settling replied) is.follows.follows in
    let settles = settling_few rounds f 0 (after f (opening f) is.acts) is.settling (after_grounds f (opening f) is.acts g) (by_second 0 is.acts is.settling by)
    (replied_second f (opening f) is.acts is.settling replied) is.settles in
    omega (arith, acts, settles, lengths, serial_most f present lanes)

stops_short : (f : Fixed) (present : List ℕ) (lanes : List (List Line)) (es : List Entry) (next : Call) → KeptWell f (opening f) → AreBy 0 es → Replied f (opening f) es → Stops f present lanes es next
    → length es + 1 ≤ most_calls f present lanes
stops_short f present lanes es next g by replied (in_lanes b) =
    let acts = acts_few f present lanes es b.rest g by replied b.begins in
    let one = next_one f b.rest next (left_stands f.rows (to_do (serial_tasks present lanes)) es b.rest b.begins) b.more in
    omega (arith, acts, one, serial_most f present lanes)
stops_short f present lanes es next g by replied (in_rounds acts settling parts follows unsettled) =
    let by_ : AreBy 0 (acts ++ settling) = subst (AreBy 0) parts by in
    let replied_ : Replied f (opening f) (acts ++ settling) = subst (Replied f (opening f)) parts replied in
    let lengths : length es ≡ length acts + length settling = ap length parts ∙ length-append acts settling in
    let first = acts_few f present lanes acts (record { hand = follows.hand; tasks = [] }) g (by_first 0 acts settling by_) (replied_first f (opening f) acts settling replied_) follows.follows in
    let second = unsettled_few rounds f 0 (after f (opening f) acts) settling next (after_grounds f (opening f) acts g) (by_second 0 acts settling by_) (replied_second f (opening f) acts settling replied_) unsettled in
    omega (arith, first, second, lengths, serial_most f present lanes)

pub course_stops_short : CourseStopsShort
course_stops_short f present lanes es next w legal alone s =
    stops_short f present lanes es next (opening_grounds f w) (all_own 0 es alone) (replayed_replied f (opening f) es legal) s

-- ---- its run

-- a run that isn't cut off does all that is to be done
run_ends : (n : ℕ) (f : Fixed) (who : ℕ) (s : State) (todo : Left) (es : List Entry) (g : Goes n f who s todo es) → ((next : Call) → next_call g.rest ≡ Some next → length es + 1 ≤ n) → g.rest.tasks ≡ []
run_ends n f who s todo es g stopped = at (next_call g.rest) refl
  where
    at : (o : Option Call) → next_call g.rest ≡ o → g.rest.tasks ≡ []
    at None e = next_none g.rest (left_stands f.rows todo es g.rest g.follows) e
    at (Some c) e = g.ends (let l = stopped c e in omega arith)

run_to_end : (n : ℕ) (f : Fixed) (who : ℕ) (s : State) (ts : List Task) (es : List Entry) (g : Goes n f who s (to_do ts) es) → ((next : Call) → next_call g.rest ≡ Some next → length es + 1 ≤ n) → Follows f.rows ts es
run_to_end n f who s ts es g stopped = record {
  hand = g.rest.hand;
  follows = g.follows ∙ ap (λ (z : List Task). Some (record { hand = g.rest.hand; tasks = z })) (run_ends n f who s (to_do ts) es g stopped);
}

-- what settles: by one caller, and with the replies that it has to have
record Made (f : Fixed) (who : ℕ) (s : State) (es : List Entry) : Type 0 where
  by : AreBy who es
  replied : Replied f s es

made_then : (n most : ℕ) (f : Fixed) (who : ℕ) (s : State) → ((t : State) → Made f who t (settling_run n most f who t)) → (b : Bool) → is_settled s ≡ b → Made f who s (settling_run (suc n) most f who s)
made_then n most f who s more true e = subst (λ (z : List Entry). Made f who s z) (sym (settling_over n most f who s e)) (record { by = tt; replied = tt })
made_then n most f who s more false e =
    let here = run most f who s (to_do (round_tasks s)) in
    let g = goes most f who s (to_do (round_tasks s)) in
    let rest = more (after f s here) in
    subst (λ (z : List Entry). Made f who s z) (sym (settling_more n most f who s e)) (record {
      by = by_both who here (settling_run n most f who (after f s here)) g.by rest.by;
      replied = replied_both f s here (settling_run n most f who (after f s here)) g.replied rest.replied;
    })

made : (n most : ℕ) (f : Fixed) (who : ℕ) (s : State) → Made f who s (settling_run n most f who s)
made zero most f who s = subst (λ (z : List Entry). Made f who s z) (sym (settling_none most f who s)) (record { by = tt; replied = tt })
made (suc n) most f who s = made_then n most f who s (made n most f who) (is_settled s) refl

settles_then : (n most : ℕ) (f : Fixed) (who : ℕ) (s : State) → KeptWell f s → most_round f ≤ most → ((t : State) → KeptWell f t → Settles n f who t (settling_run n most f who t)) → (b : Bool) → is_settled s ≡ b
    → Rounds n f who s b (settling_run (suc n) most f who s)
settles_then n most f who s g l more true e = settling_over n most f who s e
settles_then n most f who s g l more false e =
    let here = run most f who s (to_do (round_tasks s)) in
    let its = goes most f who s (to_do (round_tasks s)) in
    let short = round_short f who s s its.rest here g its.by its.replied its.follows in (
      here,
      settling_run n most f who (after f s here),
      settling_more n most f who s e,
      run_to_end most f who s (round_tasks s) here its (λ next h. let a = short.stopped next h in omega arith),
      more (after f s here) (after_grounds f s here g),
    )

settles : (n most : ℕ) (f : Fixed) (who : ℕ) (s : State) → KeptWell f s → most_round f ≤ most → Settles n f who s (settling_run n most f who s)
settles zero most f who s g l = settling_none most f who s
settles (suc n) most f who s g l = settles_then n most f who s g l (λ t h. settles n most f who t h l) (is_settled s) refl

both_made : (most : ℕ) (f : Fixed) (present : List ℕ) (lanes : List (List Line)) → Made f 0 (opening f) (serial_run most f present lanes)
both_made most f present lanes =
    let acts = run most f 0 (opening f) (to_do (serial_tasks present lanes)) in
    let g = goes most f 0 (opening f) (to_do (serial_tasks present lanes)) in
    let m = made rounds most f 0 (after f (opening f) acts) in
    let settling = settling_run rounds most f 0 (after f (opening f) acts) in
    subst (λ (z : List Entry). Made f 0 (opening f) z) (sym (serial_parts most f present lanes))
    (record { by = by_both 0 acts settling g.by m.by; replied = replied_both f (opening f) acts settling g.replied m.replied })

pub serial_run_is_legal : SerialRunIsLegal
serial_run_is_legal most f present lanes = replied_replayed f (opening f) (serial_run most f present lanes) (both_made most f present lanes).replied

pub run_is_serial : RunIsSerial
run_is_serial most f present lanes w l =
    let ground = opening_grounds f w in
    let ts = serial_tasks present lanes in
    let acts = run most f 0 (opening f) (to_do ts) in
    let g = goes most f 0 (opening f) (to_do ts) in
    let bound = serial_most f present lanes in
    let short = acts_few f present lanes acts g.rest ground g.by g.replied g.follows in
    record {
      acts = acts;
      settling = settling_run rounds most f 0 (state_after f acts);
      parts = serial_parts most f present lanes;
      alone = own_all 0 (serial_run most f present lanes) (both_made most f present lanes).by;
      follows = run_to_end most f 0 (opening f) ts acts g (λ next h. let one = next_one f g.rest next (left_stands f.rows (to_do ts) acts g.rest g.follows) h in omega arith);
      settles = settles rounds most f 0 (state_after f acts) (after_grounds f (opening f) acts ground) (omega arith);
    }

pub serial_is_its_run : SerialIsItsRun
serial_is_its_run most f present lanes es w l legal is =
    let few_ = course_is_short f present lanes es w legal is in serial_is_only most f present lanes es legal is (omega arith)

-- ---- a script's

sent_small : (f : Fixed) (present : List ℕ) (lanes : List (List Line)) → IsSmall f present lanes → most_sent f ≤ 1191
unfolding most_sent
sent_small f present lanes is = let a = is.plans in let b = is.turns in let c = is.inputs in omega (arith, few_are_signed f)

pub small_ones_are_short : SmallOnesAreShort
unfolding most_calls most_round
small_ones_are_short f present lanes is =
    let sent = sent_small f present lanes is in
    let a = is.plans in
    let b = is.parties in
    let m = 1 + most_sent f in
    let least : 1 + most_sent f ≤ 1192 = omega arith in
    let product : lines lanes * (1 + most_sent f) ≤ 6144 * 1192 = mul-le (lines lanes) (1 + most_sent f) 6144 1192 is.lines least in
    omega arith
