-- The lines of nodes, one at a time, and a place above the limit is one of the circuit's.
use Rattle.std.proofs.Common.{◌≡◌, ◌∙◌, ap, ap₂, sym, refl, ℕ, zero, suc, ◌+◌, ◌<◌, ◌≤◌, Bool, true, false, leb, List, [], ◌∷◌, ◌++◌, length, get_or, take, arith, length-append, cond, append_assoc}
use Rattle.std.specs.Prelude.{Option, Some, None}
use Rattle.std.specs.List.{range_with_len, flat_map}
use Rattle.std.proofs.lemmas.List.{append-nil, flat_map_more, get_or-take, take_more}
use Rattle.circuit_form.specs.declared.node.Node.{Node}
use Rattle.noise_ledger.specs.declared.over.Place.{Place}
use Rattle.noise_ledger.specs.declared.over.Place.TheVariants.{Node as AtNode, Output}
use Rattle.param_set.specs.Numbers.{Numbers}
use Rattle.noise_ledger.specs.Bounds.{limit}
use Rattle.noise_ledger.specs.Ledger.{node_bound, bounds_from, node_bounds, place_bound, first_above, first_over, node_or_output, nodes_before}
use Rattle.session_script.specs.Asked.{Named}
use Rattle.run_report.proofs.Rows.{none_yet, range_next, range_push}
use Rattle.run_report.specs.Checking.{bound_line, over_line, node_line, node_lines, verdict_lines, circuit_check}

-- ---- one node more

pub nodes-none : (bs bounds : List ℕ) → bs ≡ bs ++ node_lines bounds 0
unfolding node_lines
nodes-none bs bounds = sym (append-nil bs)

pub nodes_more : (bs bounds : List ℕ) (k v : ℕ) → v ≡ get_or bounds k 0 → (bs ++ node_lines bounds k) ++ bound_line (AtNode k) v ≡ bs ++ node_lines bounds (k + 1)
unfolding node_lines
nodes_more bs bounds k v e =
    ap (λ (z : ℕ). (bs ++ node_lines bounds k) ++ bound_line (AtNode k) z) e
    ∙ flat_map_more (node_line bounds) bs (range_with_len 0 k) k
    ∙ ap (λ (ks : List ℕ). bs ++ flat_map (node_line bounds) ks) (sym (range_push k))

-- the lines of the first nodes are those of their bounds alone
of_first : (m k : ℕ) (xs : List ℕ) → k ≤ m → node_lines xs k ≡ node_lines (take m xs) k
unfolding node_lines
of_first m zero xs h = refl
of_first m (suc k) xs h =
    let before : k ≤ m = omega arith in
    let here : k < m = omega arith in
    ap (flat_map (node_line xs)) (range_next k)
    ∙ sym (flat_map_more (node_line xs) [] (range_with_len 0 k) k)
    ∙ ap₂ (λ (s : List ℕ) (v : ℕ). s ++ bound_line (AtNode k) v) (of_first m k xs before) (sym (get_or-take m xs k 0 here))
    ∙ flat_map_more (node_line (take m xs)) [] (range_with_len 0 k) k
    ∙ ap (flat_map (node_line (take m xs))) (sym (range_next k))

pub nodes_same : (xs ys : List ℕ) (k : ℕ) → take k xs ≡ take k ys → node_lines xs k ≡ node_lines ys k
nodes_same xs ys k e =
    let all : k ≤ k = omega arith in
    of_first k k xs all ∙ ap (λ (zs : List ℕ). node_lines zs k) e ∙ sym (of_first k k ys all)

-- ---- one circuit more

pub circuits_more : (p : Numbers) (bs : List ℕ) (cs : List Named) (i : ℕ) (d : Named) → i < length cs → (bs ++ flat_map (circuit_check p) (take i cs)) ++ circuit_check p (get_or cs i d) ≡ bs ++ flat_map (circuit_check p) (take (i + 1) cs)
circuits_more p bs cs i d here =
    flat_map_more (circuit_check p) bs (take i cs) (get_or cs i d) ∙ ap (λ (ds : List Named). bs ++ flat_map (circuit_check p) ds) (sym (take_more cs i d here))

-- ---- a place above the limit

bounds_count : (p : Numbers) (nodes : List Node) (done : List ℕ) (rest : List Node) → length (bounds_from p nodes done rest) ≡ length done + length rest
unfolding bounds_from
bounds_count p nodes done [] = omega arith
bounds_count p nodes done (node ∷ rest) =
    bounds_count p nodes (done ++ node_bound p nodes done node ∷ []) rest ∙ omega (arith, length-append {A = ℕ})

chosen_within : (b : Bool) (rest : Option ℕ) (k j m : ℕ) → ((i : ℕ) → rest ≡ Some i → i < m) → k < m → cond b rest (Some k) ≡ Some j → j < m
chosen_within true rest k j m h lt e = h j e
chosen_within false rest k j m h lt e = let same : k ≡ j = cc in omega (arith, lt, same)

above_within : (most k : ℕ) (xs : List ℕ) (j : ℕ) → first_above most k xs ≡ Some j → j < k + length xs
unfolding first_above
above_within most k [] j e = cc
above_within most k (x ∷ xs) j e =
    chosen_within (leb x most) (first_above most (k + 1) xs) k j (k + length (x ∷ xs))
    (λ i f. omega (arith, above_within most (k + 1) xs i f)) (omega arith) e

found_within : (nodes : List Node) (found : Option ℕ) (within : Bool) (place : Place) → ((j : ℕ) → found ≡ Some j → j ≤ length nodes) → node_or_output found within ≡ Some place → nodes_before nodes place ≤ length nodes
found_within nodes found within Output h e = omega arith
found_within nodes (Some k) within (AtNode j) h e = let same : k ≡ j = cc in h j (ap Some same)
found_within nodes None true (AtNode j) h e = cc
found_within nodes None false (AtNode j) h e = cc

-- as many nodes stand before it as the circuit has, or fewer
pub over_within : (p : Numbers) (nodes : List Node) (place : Place) → first_over p nodes ≡ Some place → nodes_before nodes place ≤ length nodes
unfolding first_over node_bounds
over_within p nodes place e =
    let bounds = bounds_from p nodes [] nodes in
    found_within nodes (first_above (limit p) 0 bounds) (leb (place_bound p nodes Output) (limit p)) place
    (λ j f. omega (arith, above_within (limit p) 0 bounds j f, bounds_count p nodes [] nodes)) e

-- the lines of a circuit that is refused
told : (p : Numbers) (nodes : List Node) (value bs : List ℕ) (place : Place) → (bs ++ node_lines (node_bounds p nodes) (nodes_before nodes place)) ++ over_line place (place_bound p nodes place) ≡ bs ++ verdict_lines p nodes value (Some place)
unfolding verdict_lines
told p nodes value bs place = append_assoc bs (node_lines (node_bounds p nodes) (nodes_before nodes place)) (over_line place (place_bound p nodes place))

pub refused : (p : Numbers) (nodes : List Node) (value bs bounds : List ℕ) (place : Place) (v : ℕ) → first_over p nodes ≡ Some place → take (nodes_before nodes place) bounds ≡ take (nodes_before nodes place) (node_bounds p nodes) → v ≡ place_bound p nodes place → (bs ++ node_lines bounds (nodes_before nodes place)) ++ over_line place v ≡ bs ++ verdict_lines p nodes value (first_over p nodes)
refused p nodes value bs bounds place v over same is =
    ap₂ (λ (s : List ℕ) (x : ℕ). (bs ++ s) ++ over_line place x) (nodes_same bounds (node_bounds p nodes) (nodes_before nodes place) same) is
    ∙ told p nodes value bs place ∙ ap (λ (o : Option Place). bs ++ verdict_lines p nodes value o) (sym over)

pub ruleset nodes = (nodes-none, nodes_more)

pub ruleset circuits = (none_yet, circuits_more)
