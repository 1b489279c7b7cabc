-- The statements of an accepted text stand in their order: what follows a place is what may stand behind it.
use Rattle.std.proofs.Common.{◌≡◌, ℕ, ◌+◌, Bool, true, false, cond, not, ◌&&◌, List, [], ◌∷◌, ◌++◌, length, map, Result, Ok, Err, IfOk, refl, sym, ap, ◌∙◌, arith, nat_le, nat_lt, append_assoc, drop, codes, ◌==◌, if◌then◌else◌, inl, inr}
use Rattle.std.specs.Prelude.{filter}
use Rattle.std.proofs.lemmas.List.Elements.{All-cons, All-nil}
use Rattle.std.proofs.lemmas.Bool.{and_parts}
use Rattle.std.proofs.lemmas.List.Folds.{list_any_at}
use Rattle.std.proofs.lemmas.Result.{IfOk-at_ok, IfOk-weaker}
use Rattle.std.specs.List.{list_all, list_any}
use Rattle.session_rules.specs.declared.line.Line.{Line}
use Rattle.circuit_form.specs.declared.node.Node.{Node}
use Rattle.session_script.specs.declared.reason.Reason.{Reason}
use Rattle.session_script.specs.declared.reason.Reason.TheVariants as reason
use Rattle.session_script.specs.declared.place.Draft.{Draft}
use Rattle.session_script.specs.declared.place.OpenCircuit.{OpenCircuit}
use Rattle.session_script.specs.declared.place.Place.{Place}
use Rattle.session_script.specs.declared.place.Place.TheVariants as place
use Rattle.session_script.specs.Lines.{lines, words, word_at, leads, all_plain, is_skipped}
use Rattle.session_script.specs.Checks.{is_statement, number_at, numbers_behind, party}
use Rattle.param_set.specs.Rules.{first_bad}
use Rattle.session_script.specs.Asked.{Numbers, Asked}
use Rattle.session_script.specs.Heads.{is_version, version_statement, given_params, judged, params_statement, master_seed, seed_statement, rising, present_statement}
use Rattle.session_script.specs.CircuitLines.{is_name, has_name, circuit_statement, has_room, is_earlier, plain, input_statement, may_turn, is_turn, rot_statement, other_node, is_circuit, circuit_end, in_circuit}
use Rattle.session_script.specs.LaneLines.{lane_statement, lane_line, lane_end, in_lane, workers_statement}
use Rattle.session_script.specs.Scripts.{done_statement, between_lanes, between_circuits, statement, spoken, after_line, Refusal, ended, past_line, read_from}
use Rattle.session_script.proofs.Chains.{past_test, past, past_known, either}
use Rattle.session_script.specs.Sections.{Statement, is_stated, statements, node_words, lane_words, begins, Single, Perhaps, Ended, Nothing, IsBlock, joined, Blocks, is_node, is_lane_line, AreLanesOn, AreCircuitsOn, AreSections}

-- ---- what stands from a place on

unfoldable Follows : Place → List Statement → Type 0
Follows place.Start all = AreSections all
Follows (place.Versioned version) all = Single (codes "params") (Single (codes "seed") (Single (codes "present") AreCircuitsOn)) all
Follows (place.Measured version numbers) all = Single (codes "seed") (Single (codes "present") AreCircuitsOn) all
Follows (place.Seeded version numbers master) all = Single (codes "present") AreCircuitsOn all
Follows (place.Circuits draft) all = AreCircuitsOn all
Follows (place.InCircuit draft begun) all = Ended is_node AreCircuitsOn all
Follows (place.Lanes draft) all = AreLanesOn all
Follows (place.InLane draft lane) all = Ended is_lane_line AreLanesOn all
Follows (place.Closing draft) all = Single (codes "done") Nothing all
Follows (place.Finished draft) all = Nothing all

-- a place is one from which these words lead on: whatever stands behind it, stands behind the words
abbrev Leads : (List Statement → Type 0) → Statement → Place → Type 0
Leads Here words next = (rest : List Statement) → Follows next rest → Here (words ∷ rest)

-- ---- single statements

single : (word : List ℕ) (Behind : List Statement → Type 0) (words : Statement) (rest : List Statement) → leads word words ≡ true → Behind rest → Single word Behind (words ∷ rest)
single word Behind words rest l b = record { first = words; rest = rest; whole = refl; begins = l; behind = b }

named : (word : List ℕ) (count : ℕ) (words : Statement) → is_statement word count words ≡ true → leads word words ≡ true
named word count words e = (and_parts (leads word words) (length words == count) e).0

version-leads : (words : Statement) → IfOk (version_statement words) (Leads (Follows place.Start) words)
unfolding version_statement Follows
version-leads words =
    let Goal = Leads (Follows place.Start) words in
    past_test Goal (is_statement (codes "helium") 2 words) reason.Word _ (λ is.
    past Goal (number_at words 1) _ (λ version read.
    past_test Goal (is_version version) reason.Version _ (λ known rest behind. single _ _ words rest (named (codes "helium") 2 words is) behind)))

params-leads : (version : ℕ) (words : Statement) → IfOk (params_statement version words) (Leads (Follows (place.Versioned version)) words)
unfolding params_statement Follows
params-leads version words =
    let Goal = Leads (Follows (place.Versioned version)) words in
    past_test Goal (is_statement (codes "params") 10 words) reason.Word _ (λ is.
    past Goal (given_params words) _ (λ raw given.
    past Goal (judged version raw (first_bad raw)) _ (λ numbers checked rest behind. single _ _ words rest (named (codes "params") 10 words is) behind)))

seed-leads : (version : ℕ) (numbers : Numbers) (words : Statement) → IfOk (seed_statement version numbers words) (Leads (Follows (place.Measured version numbers)) words)
unfolding seed_statement Follows
seed-leads version numbers words =
    let Goal = Leads (Follows (place.Measured version numbers)) words in
    past_test Goal (is_statement (codes "seed") 2 words) reason.Word _ (λ is.
    past Goal (master_seed (word_at words 1)) _ (λ master spelled rest behind. single _ _ words rest (named (codes "seed") 2 words is) behind))

present-leads : (version : ℕ) (numbers : Numbers) (master : List ℕ) (words : Statement) → IfOk (present_statement version numbers master words) (Leads (Follows (place.Seeded version numbers master)) words)
unfolding present_statement Follows
present-leads version numbers master words =
    let Goal = Leads (Follows (place.Seeded version numbers master)) words in
    past_test Goal (leads (codes "present") words) reason.Word _ (λ is.
    past Goal (numbers_behind [] (drop 1 words)) _ (λ given read.
    past Goal (rising numbers.parties [] 0 given) _ (λ present rise rest behind. single _ _ words rest is behind)))

done-leads : (draft : Draft) (words : Statement) → IfOk (done_statement draft words) (Leads (Single (codes "done") Nothing) words)
unfolding done_statement Follows
done-leads draft words =
    past_test (Leads (Single (codes "done") Nothing) words) (is_statement (codes "done") 1 words) reason.Word _ (λ is rest behind.
    single _ _ words rest (named (codes "done") 1 words is) behind)

-- ---- blocks

module _ (word : List ℕ) (inner : Statement → Bool) (Behind : List Statement → Type 0) where
  no-block : (all : List Statement) → Behind all → Blocks word inner Behind all
  no-block all b = record { blocks = []; rest = all; whole = refl; each = All-nil (IsBlock word inner); behind = b }

  -- a block is what stands up to its `end`
  block-of : (words : Statement) (inside : List Statement) (last : Statement) → leads word words ≡ true → list_all inner inside ≡ true → leads (codes "end") last ≡ true → IsBlock word inner (words ∷ inside ++ last ∷ [])
  block-of words inside last l each ends = record {
    first = words;
    rest = inside ++ last ∷ [];
    whole = refl;
    begins = l;
    behind = record { inside = inside; last = last; rest = []; whole = refl; each = each; ends = ends; behind = refl };
  }

  more-block : (words : Statement) (rest : List Statement) → leads word words ≡ true → Ended inner (Blocks word inner Behind) rest → Blocks word inner Behind (words ∷ rest)
  more-block words rest l e =
      let block = words ∷ e.inside ++ e.last ∷ [] in
      let others = joined e.behind.blocks in
      let same = append_assoc (e.inside ++ e.last ∷ []) others e.behind.rest ∙ append_assoc e.inside (e.last ∷ []) (others ++ e.behind.rest) in
      record {
        blocks = block ∷ e.behind.blocks;
        rest = e.behind.rest;
        whole = ap (λ (z : List Statement). words ∷ z) (e.whole ∙ ap (λ (z : List Statement). e.inside ++ e.last ∷ z) e.behind.whole ∙ sym same);
        each = All-cons (IsBlock word inner) block e.behind.blocks (block-of words e.inside e.last l e.each e.ends) e.behind.each;
        behind = e.behind.behind;
      }

module _ (inner : Statement → Bool) (Behind : List Statement → Type 0) where
  -- one more inside
  more-inside : (words : Statement) (rest : List Statement) → inner words ≡ true → Ended inner Behind rest → Ended inner Behind (words ∷ rest)
  more-inside words rest is e = record {
    inside = words ∷ e.inside;
    last = e.last;
    rest = e.rest;
    whole = ap (λ (z : List Statement). words ∷ z) e.whole;
    each = rw is e.each;
    ends = e.ends;
    behind = e.behind;
  }

  here-ended : (words : Statement) (rest : List Statement) → leads (codes "end") words ≡ true → Behind rest → Ended inner Behind (words ∷ rest)
  here-ended words rest l b = record { inside = []; last = words; rest = rest; whole = refl; each = refl; ends = l; behind = b }

-- ---- choices by the first word

by_test : {B : Type 0} (P : B → Type 0) (test : Bool) (one other : Result B Reason) → (test ≡ true → IfOk one P) → IfOk other P → IfOk (if test then one else other) P
by_test P true one other p q = p refl
by_test P false one other p q = q

-- whatever is answered, a fact stands
whatever : {A : Type 0} (X : Type 0) (r : Result A Reason) → X → IfOk r (λ a. X)
whatever X (Ok a) x = x
whatever X (Err e) x = tt

other-is-node : (draft : Draft) (begun : OpenCircuit) (words : Statement) → IfOk (other_node draft begun words) (λ added. is_node words ≡ true)
unfolding other_node node_words
other-is-node draft begun words =
    let Goal : Node → Type 0 = λ added. is_node words ≡ true in
    by_test Goal (leads (codes "const") words) _ _ (λ l. whatever _ _ (list_any_at (begins words) node_words 1 [] (omega arith) l))
    (by_test Goal (leads (codes "neg") words) _ _ (λ l. whatever _ _ (list_any_at (begins words) node_words 4 [] (omega arith) l))
    (by_test Goal (leads (codes "add") words) _ _ (λ l. whatever _ _ (list_any_at (begins words) node_words 2 [] (omega arith) l))
    (by_test Goal (leads (codes "sub") words) _ _ (λ l. whatever _ _ (list_any_at (begins words) node_words 3 [] (omega arith) l))
    (by_test Goal (leads (codes "mul") words) _ _ (λ l. whatever _ _ (list_any_at (begins words) node_words 5 [] (omega arith) l)) tt))))

line-is-lane-line : (draft : Draft) (words : Statement) → IfOk (lane_line draft words) (λ said. is_lane_line words ≡ true)
unfolding lane_line lane_words
line-is-lane-line draft words =
    let Goal : Line → Type 0 = λ said. is_lane_line words ≡ true in
    by_test Goal (leads (codes "join") words) _ _ (λ l. whatever _ _ (list_any_at (begins words) lane_words 0 [] (omega arith) l))
    (by_test Goal (leads (codes "lose") words) _ _ (λ l. whatever _ _ (list_any_at (begins words) lane_words 1 [] (omega arith) l))
    (by_test Goal (leads (codes "send") words) _ _ (λ l. whatever _ _ (list_any_at (begins words) lane_words 2 [] (omega arith) l))
    (by_test Goal (leads (codes "hold") words) _ _ (λ l. whatever _ _ (list_any_at (begins words) lane_words 3 [] (omega arith) l))
    (by_test Goal (leads (codes "give") words) _ _ (λ l. whatever _ _ (list_any_at (begins words) lane_words 4 [] (omega arith) l))
    (by_test Goal (leads (codes "work") words) _ _ (λ l. whatever _ _ (list_any_at (begins words) lane_words 5 [] (omega arith) l))
    (by_test Goal (leads (codes "quit") words) _ _ (λ l. whatever _ _ (list_any_at (begins words) lane_words 6 [] (omega arith) l)) tt))))))

-- ---- circuits

circuit-leads : (draft : Draft) (words : Statement) → leads (codes "circuit") words ≡ true → IfOk (circuit_statement draft words) (Leads AreCircuitsOn words)
unfolding circuit_statement Follows
circuit-leads draft words l =
    let Goal = Leads AreCircuitsOn words in
    past_test Goal (length words == 2) reason.Word _ (λ count.
    past_test Goal (nat_lt (length draft.circuits) 64) reason.Limit _ (λ room.
    past_test Goal (is_name (word_at words 1)) reason.Name _ (λ name.
    past_test Goal (not (list_any (has_name (word_at words 1)) draft.circuits)) reason.Name _ (λ new rest behind.
    more-block (codes "circuit") is_node AreLanesOn words rest l behind))))

input-leads : (draft : Draft) (begun : OpenCircuit) (words : Statement) → leads (codes "input") words ≡ true → IfOk (input_statement draft begun words) (Leads (Ended is_node AreCircuitsOn) words)
unfolding input_statement Follows node_words
input-leads draft begun words l =
    let Goal = Leads (Ended is_node AreCircuitsOn) words in
    past_test Goal (nat_le 3 (length words)) reason.Word _ (λ enough.
    past Goal (number_at words 1) _ (λ p read.
    past Goal (numbers_behind [] (drop 2 words)) _ (λ coeffs spelled.
    past_test Goal (has_room begun && nat_lt draft.inputs 1024) reason.Limit _ (λ room.
    past Goal (party draft.frame p) _ (λ owner is.
    past Goal (plain draft.frame coeffs) _ (λ value fits rest behind.
    more-inside is_node AreCircuitsOn words rest (list_any_at (begins words) node_words 0 [] (omega arith) l) behind))))))

rot-leads : (draft : Draft) (begun : OpenCircuit) (words : Statement) → leads (codes "rot") words ≡ true → IfOk (rot_statement draft begun words) (Leads (Ended is_node AreCircuitsOn) words)
unfolding rot_statement Follows node_words
rot-leads draft begun words l =
    let Goal = Leads (Ended is_node AreCircuitsOn) words in
    past_test Goal (length words == 3) reason.Word _ (λ count.
    past Goal (number_at words 1) _ (λ g read.
    past Goal (number_at words 2) _ (λ of read_too.
    past_test Goal (has_room begun && may_turn draft g) reason.Limit _ (λ room.
    past_test Goal (is_turn draft.frame g && is_earlier begun of) reason.Node _ (λ turn rest behind.
    more-inside is_node AreCircuitsOn words rest (list_any_at (begins words) node_words 6 [] (omega arith) l) behind)))))

end-leads : (draft : Draft) (begun : OpenCircuit) (words : Statement) → leads (codes "end") words ≡ true → IfOk (circuit_end draft begun words) (Leads (Ended is_node AreCircuitsOn) words)
unfolding circuit_end Follows
end-leads draft begun words l =
    let Goal = Leads (Ended is_node AreCircuitsOn) words in
    past_test Goal (length words == 1) reason.Word _ (λ count.
    past_test Goal (is_circuit draft.frame begun.nodes) reason.Node _ (λ rules rest behind.
    here-ended is_node AreCircuitsOn words rest l behind))

in-circuit-leads : (draft : Draft) (begun : OpenCircuit) (words : Statement) → IfOk (in_circuit draft begun words) (Leads (Ended is_node AreCircuitsOn) words)
unfolding in_circuit Follows
in-circuit-leads draft begun words =
    let Goal = Leads (Ended is_node AreCircuitsOn) words in
    by_test Goal (leads (codes "end") words) _ _ (end-leads draft begun words)
    (by_test Goal (leads (codes "input") words) _ _ (input-leads draft begun words)
    (by_test Goal (leads (codes "rot") words) _ _ (rot-leads draft begun words)
    (past_known (λ added. is_node words ≡ true) Goal (other_node draft begun words) _ (other-is-node draft begun words) (λ added is rest behind.
    more-inside is_node AreCircuitsOn words rest is behind))))

-- ---- lanes, and the end

abbrev Closed : List Statement → Type 0
Closed all = Perhaps (codes "workers") (Single (codes "done") Nothing) all

lane-leads : (draft : Draft) (words : Statement) → leads (codes "lane") words ≡ true → IfOk (lane_statement draft words) (Leads AreLanesOn words)
unfolding lane_statement Follows
lane-leads draft words l =
    let Goal = Leads AreLanesOn words in
    past_test Goal (length words == 1) reason.Word _ (λ count.
    past_test Goal (nat_lt (length draft.lanes) 8) reason.Limit _ (λ room rest behind.
    more-block (codes "lane") is_lane_line Closed words rest l behind))

in-lane-leads : (draft : Draft) (lane : List Line) (words : Statement) → IfOk (in_lane draft lane words) (Leads (Ended is_lane_line AreLanesOn) words)
unfolding in_lane lane_end Follows
in-lane-leads draft lane words =
    let Goal = Leads (Ended is_lane_line AreLanesOn) words in
    by_test Goal (leads (codes "end") words) _ _ (λ l. past_test Goal (length words == 1) reason.Word _ (λ count rest behind. here-ended is_lane_line AreLanesOn words rest l behind))
    (past_known (λ said. is_lane_line words ≡ true) Goal (lane_line draft words) _ (line-is-lane-line draft words) (λ said is rest behind.
    more-inside is_lane_line AreLanesOn words rest is behind))

workers-leads : (draft : Draft) (words : Statement) → leads (codes "workers") words ≡ true → IfOk (workers_statement draft words) (Leads AreLanesOn words)
unfolding workers_statement Follows
workers-leads draft words l =
    let Goal = Leads AreLanesOn words in
    past_test Goal (length words == 3) reason.Word _ (λ count.
    past Goal (number_at words 1) _ (λ workers read.
    past Goal (number_at words 2) _ (λ jobs read_too.
    past_test Goal (nat_le workers 8 && nat_le jobs 256) reason.Limit _ (λ few rest behind.
    no-block (codes "lane") is_lane_line Closed (words ∷ rest) (inl (single (codes "workers") _ words rest l behind))))))

between-lanes-leads : (draft : Draft) (words : Statement) → IfOk (between_lanes draft words) (Leads AreLanesOn words)
unfolding between_lanes
between-lanes-leads draft words =
    let Goal = Leads AreLanesOn words in
    by_test Goal (leads (codes "lane") words) _ _ (lane-leads draft words)
    (by_test Goal (leads (codes "workers") words) _ _ (workers-leads draft words)
    (IfOk-weaker (done_statement draft words) _ _ (λ next led rest behind. no-block (codes "lane") is_lane_line Closed (words ∷ rest) (inr (led rest behind))) (done-leads draft words)))

between-circuits-leads : (draft : Draft) (words : Statement) → IfOk (between_circuits draft words) (Leads AreCircuitsOn words)
unfolding between_circuits
between-circuits-leads draft words =
    by_test (Leads AreCircuitsOn words) (leads (codes "circuit") words) _ _ (circuit-leads draft words)
    (IfOk-weaker (between_lanes draft words) _ _ (λ next led rest behind. no-block (codes "circuit") is_node AreLanesOn (words ∷ rest) (led rest behind)) (between-lanes-leads draft words))

-- ---- all places

statement-leads : (at : Place) (words : Statement) → IfOk (statement at words) (Leads (Follows at) words)
unfolding statement Follows
statement-leads place.Start words = version-leads words
statement-leads (place.Versioned version) words = params-leads version words
statement-leads (place.Measured version numbers) words = seed-leads version numbers words
statement-leads (place.Seeded version numbers master) words = present-leads version numbers master words
statement-leads (place.Circuits draft) words = between-circuits-leads draft words
statement-leads (place.InCircuit draft begun) words = in-circuit-leads draft begun words
statement-leads (place.Lanes draft) words = between-lanes-leads draft words
statement-leads (place.InLane draft lane) words = in-lane-leads draft lane words
statement-leads (place.Closing draft) words = done-leads draft words
statement-leads (place.Finished draft) words = tt

-- the statements of some lines
abbrev stated : List (List ℕ) → List Statement
stated ls = filter is_stated (map words ls)

-- a line is skipped, or leads on
spoken-leads : (at : Place) (words : Statement) (rest : List Statement) (b : Bool) → IfOk (if b then Ok at else statement at words) (λ next. Follows next rest → Follows at (cond (not b) (words ∷ rest) rest))
spoken-leads at words rest true = λ behind. behind
spoken-leads at words rest false = IfOk-weaker (statement at words) _ _ (λ next led. led rest) (statement-leads at words)

line-leads : (at : Place) (line : List ℕ) (rest : List (List ℕ)) → IfOk (after_line at line) (λ next. Follows next (stated rest) → Follows at (stated (line ∷ rest)))
unfolding after_line spoken
line-leads at line rest = either (λ next. Follows next (stated rest) → Follows at (stated (line ∷ rest))) (all_plain line) _ _ (spoken-leads at (words line) (stated rest) (is_skipped (words line))) tt

ended-follows : (at : Place) (n : ℕ) → IfOk (ended at n) (λ asked. Follows at [])
unfolding ended Follows
ended-follows place.Start n = tt
ended-follows (place.Versioned version) n = tt
ended-follows (place.Measured version numbers) n = tt
ended-follows (place.Seeded version numbers master) n = tt
ended-follows (place.Circuits draft) n = tt
ended-follows (place.InCircuit draft begun) n = tt
ended-follows (place.Lanes draft) n = tt
ended-follows (place.InLane draft lane) n = tt
ended-follows (place.Closing draft) n = tt
ended-follows (place.Finished draft) n = refl

line-past : (Here : Type 0) (Rest : Place → Type 0) (n : ℕ) (step : Result Place Reason) (rest : Place → Result Asked Refusal) → IfOk step (λ next. Rest next → Here) → ((next : Place) → IfOk (rest next) (λ asked. Rest next)) → IfOk (past_line n step rest) (λ asked. Here)
line-past Here Rest n (Ok next) rest leads k = IfOk-weaker (rest next) _ _ (λ asked behind. leads behind) (k next)
line-past Here Rest n (Err r) rest leads k = tt

read-follows : (at : Place) (n : ℕ) (ls : List (List ℕ)) → IfOk (read_from at n ls) (λ asked. Follows at (stated ls))
unfolding read_from
read-follows at n [] = ended-follows at n
read-follows at n (line ∷ rest) =
    line-past (Follows at (stated (line ∷ rest))) (λ next. Follows next (stated rest)) n (after_line at line) (λ next. read_from next (n + 1) rest) (line-leads at line rest) (λ next. read-follows next (n + 1) rest)

-- ---- the law

pub sections : (text : List ℕ) (ls : List (List ℕ)) (asked : Asked) → ls ≡ lines text → read_from place.Start 1 ls ≡ Ok asked → AreSections (statements text)
unfolding Follows statements
sections text ls asked cut e = rw (sym cut) (IfOk-at_ok (λ (a : Asked). AreSections (stated ls)) e (read-follows place.Start 1 ls))
