-- How much an accepted script asks for at most: lanes and their lines, and what its session is made of.
use Rattle.std.proofs.Common.{◌≡◌, ℕ, ◌*◌, ◌≤◌, Bool, true, false, cond, ◌&&◌, ◌||◌, List, [], ◌∷◌, length, map, replicate, All, refl, ap, arith, sum_by}
use Rattle.std.specs.Prelude.{filter}
use Rattle.std.specs.List.{range_with_len}
use Rattle.std.proofs.lemmas.List.{length-append, length-map, length-replicate}
use Rattle.std.proofs.lemmas.List.Elements.{All-append, All-replicate}
use Rattle.std.proofs.lemmas.List.Sums.{sum_by-append, sum_by-cons, sum_by-le}
use Rattle.circuit_form.specs.declared.node.Node.{Node}
use Rattle.circuit_form.specs.Circuits.{has_rot}
use Rattle.param_set.specs.Numbers.{Numbers as Bounding}
use Rattle.session_rules.specs.declared.line.Line.{Line}
use Rattle.session_rules.specs.declared.line.Line.TheVariants as line
use Rattle.session_rules.specs.declared.fixed.Plan.{Plan}
use Rattle.session_rules.specs.Fixing.{rotates, plan_of, admits_turn, is_turned as is_turned_by_plans, fixed_from, fixed_of}
use Rattle.session_rules.specs.States.{is_admitted}
use Rattle.session_script.specs.Asked.{Numbers, Named, Asked}
use Rattle.session_script.specs.Kept.{inputs_of, inputs, turns_by, is_turned, turns, IsLine, IsLane, lines_of, lines, AreLanes, IsAccepted}
use Rattle.session_script.proofs.KeptLemmas.{passes}

-- ---- lanes

lanes-few : (numbers : Numbers) (lanes : List (List Line)) → AreLanes numbers lanes → length lanes ≤ 16
lanes-few numbers lanes l =
    let working = replicate l.workers (replicate l.jobs line.Work) in
    omega (arith, ap length l.all, length-append l.written working, length-replicate l.workers (replicate l.jobs line.Work), l.few_written, l.few_workers)

lines-few : (numbers : Numbers) (lanes : List (List Line)) → AreLanes numbers lanes → lines lanes ≤ 6144
lines-few numbers lanes l =
    let working = replicate l.workers (replicate l.jobs line.Work) in
    let worked = All-replicate (λ lane. lines_of lane ≤ 256) l.workers (replicate l.jobs line.Work) (omega (arith, length-replicate l.jobs line.Work, l.few_jobs)) in
    let work = sum_by-le lines_of 256 working worked in
    omega (arith, ap lines l.all, sum_by-append lines_of l.written working, l.few_lines, work, length-replicate l.workers (replicate l.jobs line.Work), l.few_workers)

lines-keep : (numbers : Numbers) (lanes : List (List Line)) → AreLanes numbers lanes → All (IsLane numbers) lanes
unfolding IsLine
lines-keep numbers lanes l =
    let work : IsLane numbers (replicate l.jobs line.Work) = All-replicate (IsLine numbers) l.jobs line.Work tt in
    rw l.all (All-append (IsLane numbers) l.written (replicate l.workers (replicate l.jobs line.Work)) l.each (All-replicate (IsLane numbers) l.workers (replicate l.jobs line.Work) work))

-- at most 16 lanes, of at most 6,144 lines in all, each of which keeps its rule
pub lanes_few : (a : Asked) → IsAccepted a → length a.lanes ≤ 16
lanes_few a h = lanes-few a.numbers a.lanes h.lanes

pub lines_few : (a : Asked) → IsAccepted a → lines a.lanes ≤ 6144
lines_few a h = lines-few a.numbers a.lanes h.lanes

pub lines_keep : (a : Asked) → IsAccepted a → All (IsLane a.numbers) a.lanes
lines_keep a h = lines-keep a.numbers a.lanes h.lanes

-- ---- the fixed data of a session of the script's circuits

abbrev pub nodes_of : Named → List Node
nodes_of circuit = circuit.nodes

abbrev pub owner_count : Plan → ℕ
owner_count plan = length plan.owners

-- by a stronger test no more pass
fewer : (p q : ℕ → Bool) → ((x : ℕ) → p x ≡ true → q x ≡ true) → (xs : List ℕ) → length (filter p xs) ≤ length (filter q xs)
fewer p q stronger [] = omega arith
fewer p q stronger (x ∷ xs) = at (p x) (q x) (stronger x) (fewer p q stronger xs)
  where
    at : (a b : Bool) → (a ≡ true → b ≡ true) → length (filter p xs) ≤ length (filter q xs) → length (cond a (x ∷ filter p xs) (filter p xs)) ≤ length (cond b (x ∷ filter q xs) (filter q xs))
    at true true s l = omega arith
    at true false s l = let no = s refl in cc
    at false true s l = omega arith
    at false false s l = l

second : (a b : Bool) → (a && b) ≡ true → b ≡ true
second true b e = e
second false b e = cc

one_or_rest : (a b c d : Bool) → (a ≡ true → b ≡ true) → (c ≡ true → d ≡ true) → (a || c) ≡ true → (b || d) ≡ true
one_or_rest true b c d first rest e = rw (first refl) refl
one_or_rest false true c d first rest e = refl
one_or_rest false false c d first rest e = rest e

-- what a plan rotates by, its circuit does
planned : (p : Bounding) (nodes : List Node) (g : ℕ) → admits_turn g (plan_of p nodes) ≡ true → has_rot g nodes ≡ true
unfolding plan_of
planned p nodes g e = passes (rotates nodes) g (range_with_len 0 (2 * p.n)) (second (is_admitted (plan_of p nodes)) _ e)

all-planned : (p : Bounding) (circuits : List Named) (g : ℕ) → is_turned_by_plans (map (plan_of p) (map nodes_of circuits)) g ≡ true → is_turned circuits g ≡ true
all-planned p [] g e = e
all-planned p (one ∷ rest) g e =
    one_or_rest (admits_turn g (plan_of p one.nodes)) (turns_by g one) (is_turned_by_plans (map (plan_of p) (map nodes_of rest)) g) (is_turned rest g) (planned p one.nodes g) (all-planned p rest g) e

-- at most 16 rotations, 64 plans, and 1,024 owners of inputs
pub turns_few : (a : Asked) (p : Bounding) → IsAccepted a → p.n ≡ a.numbers.n → length (fixed_of p (map nodes_of a.circuits)).turns ≤ 16
unfolding fixed_from
turns_few a p h n =
    let plans = map (plan_of p) (map nodes_of a.circuits) in
    let l : length (filter (is_turned_by_plans plans) (range_with_len 0 (2 * p.n))) ≤ length (turns p.n a.circuits) = fewer (is_turned_by_plans plans) (is_turned a.circuits) (all-planned p a.circuits) (range_with_len 0 (2 * p.n)) in
    omega (arith, l, ap (λ (k : ℕ). length (turns k a.circuits)) n, h.few_turns)

pub plans_few : (a : Asked) (p : Bounding) → IsAccepted a → length (fixed_of p (map nodes_of a.circuits)).plans ≤ 64
unfolding fixed_from
plans_few a p h = omega (arith, length-map (map nodes_of a.circuits) (plan_of p), length-map a.circuits nodes_of, h.few)

owners-counted : (p : Bounding) (circuits : List Named) → sum_by owner_count (map (plan_of p) (map nodes_of circuits)) ≡ inputs circuits
unfolding plan_of
owners-counted p [] = refl
owners-counted p (one ∷ rest) =
    omega (arith, owners-counted p rest, sum_by-cons owner_count (plan_of p one.nodes) (map (plan_of p) (map nodes_of rest)), sum_by-cons inputs_of one rest)

pub inputs_few : (a : Asked) (p : Bounding) → IsAccepted a → sum_by owner_count (fixed_of p (map nodes_of a.circuits)).plans ≤ 1024
unfolding fixed_from
inputs_few a p h = omega (arith, owners-counted p a.circuits, h.few_inputs)
