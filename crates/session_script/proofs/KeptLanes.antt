-- The statements of lanes and workers keep what is kept: lines of parties, and lanes and lines within their limits.
use Rattle.std.proofs.Common.{ℕ, ◌+◌, ◌^◌, ◌<◌, ◌&&◌, List, [], ◌∷◌, ◌++◌, length, Ok, IfOk, refl, sym, arith, nat_le, nat_lt, leb-true, ltb-true, codes, ◌==◌}
use Rattle.std.proofs.lemmas.List.{append-nil, length-append}
use Rattle.std.proofs.lemmas.List.Elements.{All-append, All-cons, All-nil}
use Rattle.std.proofs.lemmas.List.Sums.{sum_by_push}
use Rattle.std.proofs.lemmas.Result.{IfOk-weaker}
use Rattle.session_rules.specs.declared.line.Line.{Line}
use Rattle.session_rules.specs.declared.line.Line.TheVariants as line
use Rattle.session_script.specs.declared.reason.Reason.TheVariants as reason
use Rattle.session_script.specs.declared.place.Draft.{Draft}
use Rattle.session_script.specs.Lines.{leads}
use Rattle.session_script.specs.Checks.{◌>>=◌, is_statement, number_at, party}
use Rattle.session_script.specs.Asked.{Numbers}
use Rattle.session_script.specs.LaneLines.{lane_statement, has_line_left, lone_party, hold_line, lone_line, lane_line, lane_end, in_lane, workers_statement}
use Rattle.session_script.specs.Scripts.{done_statement, between_lanes}
use Rattle.session_script.specs.Kept.{IsParty, IsLine, IsLane, lines_of, AreLanes}
use Rattle.session_script.proofs.Chains.{past_test, past, past_known, either, chosen, both}
use Rattle.session_script.proofs.KeptPlaces.{IsDrafted, HasNoLane, AreWritten, IsOpenLane, Sound}

-- ---- lines

-- one that may be put behind the others
abbrev MayStand : Draft → Line → Type 0
MayStand draft said = IsLine draft.frame said × (draft.lines < 4096)

party-is : (numbers : Numbers) (p : ℕ) → IfOk (party numbers p) (IsParty numbers)
party-is numbers p = chosen (IsParty numbers) (nat_le 1 p && nat_le p numbers.parties) p reason.Party (λ is.
    let tests = both (nat_le 1 p) (nat_le p numbers.parties) is in
    (leb-true 1 p tests.0, leb-true p numbers.parties tests.1))

lone-party-is : (draft : Draft) (words : List (List ℕ)) → IfOk (lone_party draft words) (λ p. IsParty draft.frame p × (draft.lines < 4096))
unfolding lone_party
lone-party-is draft words =
    let Goal : ℕ → Type 0 = λ p. IsParty draft.frame p × (draft.lines < 4096) in
    past_test Goal (length words == 2) reason.Word _ (λ count.
    past Goal (number_at words 1) _ (λ p read.
    past_test Goal (has_line_left draft) reason.Limit _ (λ room.
    IfOk-weaker (party draft.frame p) (IsParty draft.frame) Goal (λ q is. (is, ltb-true draft.lines 4096 room)) (party-is draft.frame p))))

hold-may : (draft : Draft) (words : List (List ℕ)) → IfOk (hold_line draft words) (MayStand draft)
unfolding hold_line IsLine
hold-may draft words =
    let Goal = MayStand draft in
    past_test Goal (length words == 3) reason.Word _ (λ count.
    past Goal (number_at words 1) _ (λ given read.
    past Goal (number_at words 2) _ (λ id read_too.
    past_test Goal (has_line_left draft) reason.Limit _ (λ room.
    past_known (IsParty draft.frame) Goal (party draft.frame given) _ (party-is draft.frame given) (λ p is.
    past_test Goal (nat_le 1 id && nat_lt id (2 ^ 32)) reason.Id _ (λ range.
    let tests = both (nat_le 1 id) (nat_lt id (2 ^ 32)) range in
    ((is, leb-true 1 id tests.0, ltb-true id (2 ^ 32) tests.1), ltb-true draft.lines 4096 room)))))))

lone-may : (draft : Draft) (said : Line) (words : List (List ℕ)) → IsLine draft.frame said → IfOk (lone_line draft said words) (MayStand draft)
unfolding lone_line
lone-may draft said words is =
    past_test (MayStand draft) (length words == 1) reason.Word _ (λ count.
    past_test (MayStand draft) (has_line_left draft) reason.Limit _ (λ room. (is, ltb-true draft.lines 4096 room)))

party-may : (draft : Draft) (words : List (List ℕ)) (made : ℕ → Line) → ((p : ℕ) → IsParty draft.frame p → IsLine draft.frame (made p)) → IfOk (lone_party draft words >>= (λ p. Ok (made p))) (MayStand draft)
party-may draft words made is =
    past_known (λ p. IsParty draft.frame p × (draft.lines < 4096)) (MayStand draft) (lone_party draft words) _ (lone-party-is draft words) (λ p known. (is p known.0, known.1))

line-may : (draft : Draft) (words : List (List ℕ)) → IfOk (lane_line draft words) (MayStand draft)
unfolding lane_line IsLine
line-may draft words =
    let Goal = MayStand draft in
    either Goal (leads (codes "join") words) _ _ (party-may draft words (λ p. line.Join p) (λ p is. is))
    (either Goal (leads (codes "lose") words) _ _ (party-may draft words (λ p. line.Lose p) (λ p is. is))
    (either Goal (leads (codes "send") words) _ _ (party-may draft words (λ p. line.Send p) (λ p is. is))
    (either Goal (leads (codes "hold") words) _ _ (hold-may draft words)
    (either Goal (leads (codes "give") words) _ _ (lone-may draft line.Give words tt)
    (either Goal (leads (codes "work") words) _ _ (lone-may draft line.Work words tt)
    (either Goal (leads (codes "quit") words) _ _ (lone-may draft line.Quit words tt) tt))))))

-- ---- lanes

lane-sound : (draft : Draft) (words : List (List ℕ)) → IsDrafted draft 0 → AreWritten draft.frame draft.lanes draft.lines 0 → IfOk (lane_statement draft words) Sound
unfolding lane_statement Sound
lane-sound draft words d w =
    past_test Sound (length words == 1) reason.Word _ (λ count.
    past_test Sound (nat_lt (length draft.lanes) 8) reason.Limit _ (λ room.
    (d, record { written = w; room = ltb-true (length draft.lanes) 8 room; each = All-nil (IsLine draft.frame) })))

-- a lane that is ended
one-lane : (numbers : Numbers) (lanes : List (List Line)) (counted : ℕ) (lane : List Line) → IsOpenLane numbers lanes counted lane → AreWritten numbers (lanes ++ lane ∷ []) counted 0
one-lane numbers lanes counted lane o = record {
  few = omega (arith, o.room, length-append lanes (lane ∷ []));
  counted = omega (arith, o.written.counted, sum_by_push lines_of lanes lane);
  few_lines = o.written.few_lines;
  each = All-append (IsLane numbers) lanes (lane ∷ []) o.written.each (All-cons (IsLane numbers) lane [] o.each (All-nil (IsLane numbers)));
}

-- a line more
one-line : (numbers : Numbers) (lanes : List (List Line)) (counted : ℕ) (lane : List Line) (said : Line) → IsOpenLane numbers lanes counted lane → IsLine numbers said → counted < 4096 → IsOpenLane numbers lanes (counted + 1) (lane ++ said ∷ [])
one-line numbers lanes counted lane said o is room = record {
  written = record {
    few = o.written.few;
    counted = omega (arith, o.written.counted, length-append lane (said ∷ []));
    few_lines = omega (arith, room);
    each = o.written.each;
  };
  room = o.room;
  each = All-append (IsLine numbers) lane (said ∷ []) o.each (All-cons (IsLine numbers) said [] is (All-nil (IsLine numbers)));
}

pub in-lane-sound : (draft : Draft) (lane : List Line) (words : List (List ℕ)) → IsDrafted draft 0 → IsOpenLane draft.frame draft.lanes draft.lines lane → IfOk (in_lane draft lane words) Sound
unfolding in_lane lane_end Sound
in-lane-sound draft lane words d o =
    either Sound (leads (codes "end") words) _ _ (past_test Sound (length words == 1) reason.Word _ (λ count. (d, one-lane draft.frame draft.lanes draft.lines lane o)))
    (past_known (MayStand draft) Sound (lane_line draft words) _ (line-may draft words) (λ said may. (d, one-line draft.frame draft.lanes draft.lines lane said o may.0 may.1)))

-- ---- workers, and the end

workers-sound : (draft : Draft) (words : List (List ℕ)) → IsDrafted draft 0 → AreWritten draft.frame draft.lanes draft.lines 0 → IfOk (workers_statement draft words) Sound
unfolding workers_statement Sound
workers-sound draft words d w =
    past_test Sound (length words == 3) reason.Word _ (λ count.
    past Sound (number_at words 1) _ (λ workers read.
    past Sound (number_at words 2) _ (λ jobs read_too.
    past_test Sound (nat_le workers 8 && nat_le jobs 256) reason.Limit _ (λ few.
    let tests = both (nat_le workers 8) (nat_le jobs 256) few in (
      d,
      record {
        written = draft.lanes;
        workers = workers;
        jobs = jobs;
        all = refl;
        few_written = w.few;
        few_lines = omega (arith, w.counted, w.few_lines);
        few_workers = leb-true workers 8 tests.0;
        few_jobs = leb-true jobs 256 tests.1;
        each = w.each;
      },
    )))))

-- no workers
written-alone : (numbers : Numbers) (lanes : List (List Line)) (counted : ℕ) → AreWritten numbers lanes counted 0 → AreLanes numbers lanes
written-alone numbers lanes counted w = record {
  written = lanes;
  workers = 0;
  jobs = 0;
  all = sym (append-nil lanes);
  few_written = w.few;
  few_lines = omega (arith, w.counted, w.few_lines);
  few_workers = omega arith;
  few_jobs = omega arith;
  each = w.each;
}

pub done-sound : (draft : Draft) (words : List (List ℕ)) → IsDrafted draft 0 → AreLanes draft.frame draft.lanes → IfOk (done_statement draft words) Sound
unfolding done_statement Sound
done-sound draft words d lanes = past_test Sound (is_statement (codes "done") 1 words) reason.Word _ (λ named. (d, lanes))

pub between-lanes-sound : (draft : Draft) (words : List (List ℕ)) → IsDrafted draft 0 → AreWritten draft.frame draft.lanes draft.lines 0 → IfOk (between_lanes draft words) Sound
unfolding between_lanes
between-lanes-sound draft words d w =
    either Sound (leads (codes "lane") words) _ _ (lane-sound draft words d w)
    (either Sound (leads (codes "workers") words) _ _ (workers-sound draft words d w) (done-sound draft words d (written-alone draft.frame draft.lanes draft.lines w)))

-- where there is no lane so far, those that are written keep all
pub none-written : (numbers : Numbers) (lanes : List (List Line)) (counted : ℕ) → HasNoLane lanes counted → AreWritten numbers lanes counted 0
none-written numbers lanes counted none = rw (none.no_lane, none.no_line) record { few = omega arith; counted = refl; few_lines = omega arith; each = All-nil (IsLane numbers) }
