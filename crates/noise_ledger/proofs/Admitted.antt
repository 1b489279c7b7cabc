-- What an admitted circuit has: each of its places keeps within the limit.
use Rattle.std.proofs.Common.{◌≡◌, ℕ, ◌+◌, ◌≤◌, Bool, true, false, leb, List, [], ◌∷◌, refl, arith}
use Rattle.std.specs.Prelude.{Option, Some, None, All}
use Rattle.std.proofs.lemmas.Bool.Decides.{nat_tests}
use Rattle.std.proofs.lemmas.List.Elements.{All-nil, All-cons}
use Rattle.circuit_form.specs.declared.node.Node.{Node}
use Rattle.circuit_form.proofs.Standing.{rest_chosen}
use Rattle.noise_ledger.specs.declared.over.Place.TheVariants.{Output}
use Rattle.param_set.specs.Numbers.{Numbers}
use Rattle.noise_ledger.specs.Bounds.{limit}
use Rattle.noise_ledger.specs.Ledger.{AtMost, node_bounds, place_bound, first_above, first_over, node_or_output}

neither : (found : Option ℕ) (within : Bool) → node_or_output found within ≡ None → (found ≡ None) × (within ≡ true)
neither (Some k) within e = (cc, cc)
neither None true e = (refl, refl)
neither None false e = (cc, cc)

all_within : (most k : ℕ) (xs : List ℕ) → first_above most k xs ≡ None → All (AtMost most) xs
unfolding first_above
all_within most k [] e = All-nil (AtMost most)
all_within most k (x ∷ xs) e =
    let both = rest_chosen (leb x most) (first_above most (k + 1) xs) k e in
    let here : x ≤ most = grind (arith, nat_tests, both.0) in
    All-cons (AtMost most) x xs here (all_within most (k + 1) xs both.1)

pub record IsAdmitted (p : Numbers) (nodes : List Node) : Type 0 where
  pub nodes_within : All (AtMost (limit p)) (node_bounds p nodes)
  pub output_within : place_bound p nodes Output ≤ limit p

pub is_admitted : (p : Numbers) (nodes : List Node) → first_over p nodes ≡ None → IsAdmitted p nodes
unfolding first_over
is_admitted p nodes e =
    let both = neither (first_above (limit p) 0 (node_bounds p nodes)) (leb (place_bound p nodes Output) (limit p)) e in
    record {
      nodes_within = all_within (limit p) 0 (node_bounds p nodes) both.0;
      output_within = grind (arith, nat_tests, both.1);
    }
