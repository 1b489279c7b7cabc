-- A desk goes on by the lines of lanes, from what is in hand.
use Rattle.std.proofs.Common.{◌≡◌, ◌∙◌, subst, refl, ℕ, ◌+◌, ◌<◌, ◌≤◌, true, List, [], ◌∷◌, ◌++◌, length, map, drop, get_or, Option, Some, None}
use Rattle.std.specs.List.{flat_map}
use Rattle.std.proofs.lemmas.List.{drop_more, drop_all}
use Rattle.session_rules.specs.declared.call.Call.{Call}
use Rattle.session_rules.specs.declared.reply.Reply.{Reply}
use Rattle.session_rules.specs.declared.line.Line.{Line}
use Rattle.session_rules.specs.declared.line.Line.TheVariants.{Give}
use Rattle.session_rules.specs.Tasks.{Task, does, Held, task_call, hand_after, leaves, entry}
use Rattle.session_rules.specs.Courses.{to_do, lane_tasks, Follows, BreaksOff}
use Rattle.run_laws.specs.Leaving.{Leaves}
use Rattle.session_core.specs.declared.stop.Stop.{Stop}
use Rattle.session_core.specs.declared.stop.Stop.TheVariants.{NoMemory}
use Rattle.lane_workers.specs.Desks.{View, Hands, Answered, Unanswered, known_of}
use Rattle.lane_workers.specs.Doing.{Added, is_made_first, Broken, Goes, Cuts, Passes, Did, BrokeOff, Going, CutOff, Passing, Followed}
use Rattle.lane_workers.proofs.Doing.{added_more, added_so, added_none, added_one, broken_more, broken_so, broken_at, broken_before, left_by}
use Rattle.lane_workers.proofs.Going.{rows, rows_are, stops_for, stops_short}
use Rattle.lane_workers.proofs.Quiet.{QuietTask, with_hand, goes_quiet, cuts_quiet, one_goes, first_cut, none_goes, goes_more, cuts_more, lane_follows, lane_breaks, passes_lane, passes_breaks, passes_all}

-- the tasks of lanes
abbrev all_of : List (List Line) → List Task
all_of lanes = flat_map lane_tasks lanes

-- a task that leaves what is in hand
pub quietly : (x : Option Held) (t : Task) (v w : View) → QuietTask t → Did (t ∷ []) v w → Going (with_hand x (t ∷ [])) (with_hand x []) v w
quietly x t v w q h = added_so (Leaves (rows v) (t ∷ []) []) (Goes (rows v) (with_hand x (t ∷ [])) (with_hand x [])) v w h (λ es its. goes_quiet (rows v) x t es q its)

pub quietly_stops : (x : Option Held) (t : Task) (why : Stop) (v w : View) → QuietTask t → BrokeOff (t ∷ []) v w why → CutOff (with_hand x (t ∷ [])) v w why
quietly_stops x t why v w q h = broken_so why (BreaksOff (rows v) (t ∷ [])) (Cuts (rows v) (with_hand x (t ∷ []))) v w h (λ es next its. cuts_quiet (rows v) x t es next q its)

-- a call is answered, or isn't, or what it brings isn't made
goes_one : (l who : ℕ) (x : Option Held) (t : Task) (c : Call) (r : Reply) → task_call x t ≡ Some c → Goes l (with_hand x (t ∷ [])) (with_hand (hand_after l t r x) (leaves l t r)) (entry who c r ∷ [])
goes_one l who x t c r e = let its = one_goes l x t c r e in record { goes = left_by l (with_hand x (t ∷ [])) who c r ∙ its.goes }

pub calls_from : {X : Type 0} (x : Option Held) (t : Task) (c : Call) (r : Reply) (H : Hands X) (y : X) (v w : View) → task_call x t ≡ Some c → Answered v w c r H y
    → Going (with_hand x (t ∷ [])) (with_hand (hand_after (rows v) t r x) (leaves (rows v) t r)) v w
calls_from x t c r H y v w e a =
    added_one (Goes (rows v) (with_hand x (t ∷ [])) (with_hand (hand_after (rows v) t r x) (leaves (rows v) t r))) v w c r H y a (goes_one (rows v) v.fixed.caller x t c r e)

pub stops_from : (x : Option Held) (t : Task) (c : Call) (why : Stop) (v w : View) → task_call x t ≡ Some c → Unanswered v w why → CutOff (with_hand x (t ∷ [])) v w why
stops_from x t c why v w e a = broken_at (Cuts (rows v) (with_hand x (t ∷ []))) why v w c a (first_cut (rows v) x t c e) (stops_for why (known_of v).most w.seen c a.spent)

pub lacks_from : (x : Option Held) (t : Task) (c : Call) (why : Stop) (v : View) → task_call x t ≡ Some c → why ≡ NoMemory → is_made_first c ≡ true → CutOff (with_hand x (t ∷ [])) v v why
lacks_from x t c why v e short first =
    broken_before (Cuts (rows v) (with_hand x (t ∷ []))) why v c (first_cut (rows v) x t c e) (stops_short why (known_of v).most v.seen c short first)

pub gives_nothing : (v : View) → Going (with_hand None (does Give ∷ [])) (with_hand None []) v v
gives_nothing v = added_none (Goes (rows v) (with_hand None (does Give ∷ [])) (with_hand None [])) v (none_goes (rows v))

-- ---- the lines of a lane

pub lane_begins : (lane : List Line) (v : View) → Going (to_do (map does lane)) (with_hand None (map does lane)) v v
lane_begins lane v = added_none (Goes (rows v) (to_do (map does lane)) (with_hand None (map does lane))) v (record { goes = refl })

line_there : (lane : List Line) (x : Option Held) (k : ℕ) (d : Line) (u v : View) → k < length lane → Going (to_do (map does lane)) (with_hand x (map does (drop k lane))) u v
    → Going (to_do (map does lane)) (with_hand x (does (get_or lane k d) ∷ map does (drop (k + 1) lane))) u v
line_there lane x k d u v less h = subst (λ z. Going (to_do (map does lane)) (with_hand x (map does z)) u v) (drop_more lane k d less) h

pub line_on : (lane : List Line) (x y : Option Held) (k : ℕ) (d : Line) (u v w : View) → k < length lane → v.fixed ≡ u.fixed
    → Going (to_do (map does lane)) (with_hand x (map does (drop k lane))) u v → Going (with_hand x (does (get_or lane k d) ∷ [])) (with_hand y []) v w
    → Going (to_do (map does lane)) (with_hand y (map does (drop (k + 1) lane))) u w
line_on lane x y k d u v w less same h g =
    let a = get_or lane k d in
    let rest = map does (drop (k + 1) lane) in
    let l = rows u in
    added_more (Goes l (to_do (map does lane)) (with_hand x (does a ∷ rest))) (Goes l (with_hand x (does a ∷ [])) (with_hand y [])) (Goes l (to_do (map does lane)) (with_hand y rest))
    u v w same (line_there lane x k d u v less h)
    (subst (λ (m : ℕ). Added (Goes m (with_hand x (does a ∷ [])) (with_hand y [])) v w) (rows_are u v same) g)
    (λ es fs p q. goes_more l (to_do (map does lane)) x y (does a) rest es fs p q)

pub line_off : (lane : List Line) (x : Option Held) (k : ℕ) (d : Line) (why : Stop) (u v w : View) → k < length lane → v.fixed ≡ u.fixed
    → Going (to_do (map does lane)) (with_hand x (map does (drop k lane))) u v → CutOff (with_hand x (does (get_or lane k d) ∷ [])) v w why → BrokeOff (lane_tasks lane) u w why
line_off lane x k d why u v w less same h g =
    let a = get_or lane k d in
    let rest = map does (drop (k + 1) lane) in
    let l = rows u in
    broken_more why (Goes l (to_do (map does lane)) (with_hand x (does a ∷ rest))) (Cuts l (with_hand x (does a ∷ []))) (BreaksOff l (lane_tasks lane))
    u v w same (line_there lane x k d u v less h)
    (subst (λ (m : ℕ). Broken why (Cuts m (with_hand x (does a ∷ []))) v w) (rows_are u v same) g)
    (λ es fs next p q. lane_breaks l lane (es ++ fs) next (cuts_more l (to_do (map does lane)) x (does a) rest es fs next p q))

pub lane_over : (lane : List Line) (x : Option Held) (k : ℕ) (v w : View) → length lane ≤ k → Going (to_do (map does lane)) (with_hand x (map does (drop k lane))) v w
    → Followed (lane_tasks lane) v w
lane_over lane x k v w more h =
    added_so (Goes (rows v) (to_do (map does lane)) (with_hand x [])) (Follows (rows v) (lane_tasks lane)) v w
    (subst (λ z. Going (to_do (map does lane)) (with_hand x (map does z)) v w) (drop_all k lane more) h) (λ es its. lane_follows (rows v) lane x es its)

-- ---- lanes

pub lanes_begin : (lanes : List (List Line)) (v : View) → Passing (flat_map lane_tasks lanes) (flat_map lane_tasks lanes) v v
lanes_begin lanes v = added_none (Passes (rows v) (all_of lanes) (all_of lanes)) v (record { hand = None; goes = record { goes = refl } })

lane_there : (lanes : List (List Line)) (k : ℕ) (d : List Line) (u v : View) → k < length lanes → Passing (all_of lanes) (all_of (drop k lanes)) u v
    → Passing (all_of lanes) (lane_tasks (get_or lanes k d) ++ all_of (drop (k + 1) lanes)) u v
lane_there lanes k d u v less h = subst (λ z. Passing (all_of lanes) (all_of z) u v) (drop_more lanes k d less) h

pub lane_on : (lanes : List (List Line)) (k : ℕ) (d : List Line) (u v w : View) → k < length lanes → v.fixed ≡ u.fixed → Passing (flat_map lane_tasks lanes) (flat_map lane_tasks (drop k lanes)) u v
    → Followed (lane_tasks (get_or lanes k d)) v w → Passing (flat_map lane_tasks lanes) (flat_map lane_tasks (drop (k + 1) lanes)) u w
lane_on lanes k d u v w less same h g =
    let a = get_or lanes k d in
    let rest = all_of (drop (k + 1) lanes) in
    let l = rows u in
    added_more (Passes l (all_of lanes) (lane_tasks a ++ rest)) (Follows l (lane_tasks a)) (Passes l (all_of lanes) rest) u v w same
    (lane_there lanes k d u v less h)
    (subst (λ (m : ℕ). Added (Follows m (lane_tasks a)) v w) (rows_are u v same) g)
    (λ es fs p q. passes_lane l (all_of lanes) a rest es fs p q)

pub lane_off : (lanes : List (List Line)) (k : ℕ) (d : List Line) (why : Stop) (u v w : View) → k < length lanes → v.fixed ≡ u.fixed
    → Passing (flat_map lane_tasks lanes) (flat_map lane_tasks (drop k lanes)) u v → BrokeOff (lane_tasks (get_or lanes k d)) v w why → BrokeOff (flat_map lane_tasks lanes) u w why
lane_off lanes k d why u v w less same h g =
    let a = get_or lanes k d in
    let rest = all_of (drop (k + 1) lanes) in
    let l = rows u in
    broken_more why (Passes l (all_of lanes) (lane_tasks a ++ rest)) (BreaksOff l (lane_tasks a)) (BreaksOff l (all_of lanes)) u v w same
    (lane_there lanes k d u v less h)
    (subst (λ (m : ℕ). Broken why (BreaksOff m (lane_tasks a)) v w) (rows_are u v same) g)
    (λ es fs next p q. passes_breaks l (all_of lanes) a rest es fs next p q)

pub lanes_over : (lanes : List (List Line)) (k : ℕ) (v w : View) → length lanes ≤ k → Passing (flat_map lane_tasks lanes) (flat_map lane_tasks (drop k lanes)) v w
    → Followed (flat_map lane_tasks lanes) v w
lanes_over lanes k v w more h =
    added_so (Passes (rows v) (all_of lanes) []) (Follows (rows v) (all_of lanes)) v w
    (subst (λ z. Passing (all_of lanes) (all_of z) v w) (drop_all k lanes more) h) (λ es its. passes_all (rows v) (all_of lanes) es its)
