-- A walk over the nodes of a circuit, and the first place that it finds above the limit.
use Rattle.std.proofs.Common.{◌≡◌, ℕ, ◌+◌, ◌-◌, ◌<◌, ◌≤◌, true, false, leb, List, [], ◌∷◌, ◌++◌, length, get_or, take, drop, refl, sym, ap, ◌∙◌, subst, arith, append_assoc}
use Rattle.std.specs.Prelude.{Option, Some, None, All}
use Rattle.std.specs.List.{slice_get}
use Rattle.std.proofs.lemmas.Bool.{le-leb}
use Rattle.std.proofs.lemmas.Bool.Decides.{nat_tests}
use Rattle.std.proofs.lemmas.List.{drop_more, take_all, take-take, take_at, take-append-drop, get_or_at, length-append, length-take-le, drop_all}
use Rattle.std.proofs.lemmas.List.Elements.{All-head, All-tail}
use Rattle.std.proofs.lemmas.Option.{slice_get-get_or, slice_get_within, get_or_from_slice_get}
use Rattle.circuit_form.specs.declared.node.Node.{Node}
use Rattle.circuit_form.specs.declared.node.Node.TheVariants.{Neg}
use Rattle.noise_ledger.specs.declared.over.Place.TheVariants.{Output}
use Rattle.noise_ledger.specs.declared.over.Place.TheVariants.{Node as AtNode}
use Rattle.param_set.specs.Numbers.{Numbers}
use Rattle.noise_ledger.specs.Bounds.{limit, output_bound}
use Rattle.noise_ledger.specs.Ledger.{AtMost, node_bound, bounds_from, node_bounds, place_bound, first_above, first_over, node_or_output}

-- the nodes from a place on are the node there and the rest
node_first : (xs : List Node) (k : ℕ) (x : Node) → slice_get xs k ≡ Some x → drop k xs ≡ x ∷ drop (k + 1) xs
node_first xs k x e =
    drop_more xs k x (slice_get_within xs k x e) ∙ ap (λ (y : Node). y ∷ drop (k + 1) xs) (get_or_from_slice_get xs k x x e)

-- there is a node at each place of a list
pub node_there : (xs : List Node) (k : ℕ) → k < length xs → slice_get xs k ≡ None → ⊥
node_there xs k h e = let here = slice_get-get_or xs k (Neg 0) h in cc

-- one node further, its bound behind those done
pub bounds_next : (p : Numbers) (nodes : List Node) (done : List ℕ) (k v : ℕ) (node : Node) → slice_get nodes k ≡ Some node → v ≡ node_bound p nodes done node → bounds_from p nodes (done ++ v ∷ []) (drop (k + 1) nodes) ≡ bounds_from p nodes done (drop k nodes)
unfolding bounds_from
bounds_next p nodes done k v node at is =
    ap (λ (x : ℕ). bounds_from p nodes (done ++ x ∷ []) (drop (k + 1) nodes)) is
    ∙ ap (bounds_from p nodes done) (sym (node_first nodes k node at))

-- the bounds that are done stay
pub bounds_begin : (p : Numbers) (nodes : List Node) (done : List ℕ) (rest : List Node) → take (length done) (bounds_from p nodes done rest) ≡ done
unfolding bounds_from
bounds_begin p nodes done [] = take_all (length done) done (omega arith)
bounds_begin p nodes done (node ∷ rest) =
    let more = done ++ node_bound p nodes done node ∷ [] in
    let all = bounds_from p nodes more rest in
    let longer : length done ≤ length more = omega (arith, length-append {A = ℕ}) in
    sym (take-take (length done) (length more) all longer)
    ∙ ap (take (length done)) (bounds_begin p nodes more rest)
    ∙ take_at done (node_bound p nodes done node ∷ []) (length done) refl

-- bounds that all keep within the limit, and the first that doesn't
pub none_above : (most k : ℕ) (xs : List ℕ) → All (AtMost most) xs → first_above most k xs ≡ None
unfolding first_above
none_above most k [] h = refl
none_above most k (x ∷ xs) h =
    let e : leb x most ≡ true = le-leb x most (All-head (AtMost most) x xs h) in
    rw e (none_above most (k + 1) xs (All-tail (AtMost most) x xs h))

pub first_above_at : (most k v : ℕ) (xs ys : List ℕ) → All (AtMost most) xs → most < v → first_above most k (xs ++ v ∷ ys) ≡ Some (k + length xs)
unfolding first_above
first_above_at most k v [] ys h lt =
    let e : leb v most ≡ false = grind (arith, nat_tests) in
    rw e (ap Some (omega arith))
first_above_at most k v (x ∷ xs) ys h lt =
    let e : leb x most ≡ true = le-leb x most (All-head (AtMost most) x xs h) in
    rw e (first_above_at most (k + 1) v xs ys (All-tail (AtMost most) x xs h) lt ∙ ap Some (omega arith))

-- the bounds of a circuit whose walk came to a node above the limit
begins : (p : Numbers) (nodes rest : List Node) (done : List ℕ) (v : ℕ) → bounds_from p nodes (done ++ v ∷ []) rest ≡ node_bounds p nodes → node_bounds p nodes ≡ done ++ v ∷ drop (length (done ++ v ∷ [])) (node_bounds p nodes)
begins p nodes rest done v e =
    let more = done ++ v ∷ [] in
    let all = node_bounds p nodes in
    let front : take (length more) all ≡ more = subst (λ (b : List ℕ). take (length more) b ≡ more) e (bounds_begin p nodes more rest) in
    sym (take-append-drop (length more) all)
    ∙ ap (λ (b : List ℕ). b ++ drop (length more) all) front
    ∙ append_assoc done (v ∷ []) (drop (length more) all)

-- then that node is the first place above it, the bound is its own, and those before it are done
pub record IsFirst (p : Numbers) (nodes : List Node) (k : ℕ) (done : List ℕ) (v : ℕ) : Type 0 where
  pub place : first_over p nodes ≡ Some (AtNode k)
  pub bound : v ≡ place_bound p nodes (AtNode k)
  pub earlier : done ≡ take k (node_bounds p nodes)

stops_here : (p : Numbers) (nodes rest : List Node) (done : List ℕ) (k v : ℕ) → length done ≡ k → bounds_from p nodes (done ++ v ∷ []) rest ≡ node_bounds p nodes → All (AtMost (limit p)) done → limit p < v → IsFirst p nodes k done v
unfolding first_over place_bound
stops_here p nodes rest done k v size e h lt =
    let tail = drop (length (done ++ v ∷ [])) (node_bounds p nodes) in
    let is = begins p nodes rest done v e in
    let found : first_above (limit p) 0 (node_bounds p nodes) ≡ Some k =
    ap (first_above (limit p) 0) is ∙ first_above_at (limit p) 0 v done tail h lt ∙ ap Some (omega (arith, size)) in
    record {
      place = ap (λ (o : Option ℕ). node_or_output o (leb (output_bound p (get_or (node_bounds p nodes) (length nodes - 1) 0)) (limit p))) found;
      bound = sym (ap (λ (b : List ℕ). get_or b k 0) is ∙ get_or_at done v tail 0 k size);
      earlier = sym (ap (take k) is ∙ take_at done (v ∷ tail) k size);
    }

-- the same where the bounds done stand in the first places of a buffer
pub stops_at : (p : Numbers) (nodes : List Node) (bounds : List ℕ) (k v : ℕ) → k ≤ length bounds → All (AtMost (limit p)) (take k bounds) → bounds_from p nodes (take k bounds) (drop k nodes) ≡ node_bounds p nodes → bounds_from p nodes (take k bounds ++ v ∷ []) (drop (length (take k bounds) + 1) nodes) ≡ bounds_from p nodes (take k bounds) (drop (length (take k bounds)) nodes) → limit p < v → IsFirst p nodes k (take k bounds) v
stops_at p nodes bounds k v h within whole next lt =
    let done = take k bounds in
    let size : length done ≡ k = length-take-le k bounds h in
    stops_here p nodes (drop (length done + 1) nodes) done k v size
    (next ∙ ap (λ (m : ℕ). bounds_from p nodes done (drop m nodes)) size ∙ whole) within lt

-- a walk that came to the end has all bounds
pub ends_at : (p : Numbers) (nodes : List Node) (bounds : List ℕ) (k : ℕ) → length nodes ≤ k → length bounds ≤ k → bounds_from p nodes (take k bounds) (drop k nodes) ≡ node_bounds p nodes → bounds ≡ node_bounds p nodes
unfolding bounds_from
ends_at p nodes bounds k h few whole =
    sym (take_all k bounds few)
    ∙ ap (bounds_from p nodes (take k bounds)) (sym (drop_all k nodes h))
    ∙ whole

-- ---- the output

output_after : (p : Numbers) (nodes : List Node) (bounds : List ℕ) → bounds ≡ node_bounds p nodes → All (AtMost (limit p)) bounds → first_over p nodes ≡ node_or_output None (leb (place_bound p nodes Output) (limit p))
unfolding first_over
output_after p nodes bounds e h =
    ap (λ (o : Option ℕ). node_or_output o (leb (place_bound p nodes Output) (limit p)))
    (ap (first_above (limit p) 0) (sym e) ∙ none_above (limit p) 0 bounds h)

pub output_over : (p : Numbers) (nodes : List Node) (bounds : List ℕ) → bounds ≡ node_bounds p nodes → All (AtMost (limit p)) bounds → limit p < place_bound p nodes Output → first_over p nodes ≡ Some Output
output_over p nodes bounds e h lt =
    let above : leb (place_bound p nodes Output) (limit p) ≡ false = grind (arith, nat_tests) in
    output_after p nodes bounds e h ∙ ap (node_or_output None) above

pub none_over : (p : Numbers) (nodes : List Node) (bounds : List ℕ) → bounds ≡ node_bounds p nodes → All (AtMost (limit p)) bounds → place_bound p nodes Output ≤ limit p → first_over p nodes ≡ None
none_over p nodes bounds e h le =
    let within : leb (place_bound p nodes Output) (limit p) ≡ true = le-leb (place_bound p nodes Output) (limit p) le in
    output_after p nodes bounds e h ∙ ap (node_or_output None) within

-- the output's bound is read from the last of the nodes' bounds
pub output_is : (p : Numbers) (nodes : List Node) (bounds : List ℕ) → bounds ≡ node_bounds p nodes → length bounds ≡ length nodes → output_bound p (get_or bounds (length bounds - 1) 0) ≡ place_bound p nodes Output
unfolding place_bound
output_is p nodes bounds e size =
    ap (λ (m : ℕ). output_bound p (get_or bounds (m - 1) 0)) size
    ∙ ap (λ (b : List ℕ). output_bound p (get_or b (length nodes - 1) 0)) e
