-- What a session of circuits asks for at most.
use Rattle.std.proofs.Common.{◌+◌, ◌≤◌, Bool, true, false, cond, List, [], ◌∷◌, ◌++◌, length, map, sum_by, arith}
use Rattle.std.specs.List.{range_with_len, list_any}
use Rattle.std.proofs.lemmas.List.{length-append, length-map}
use Rattle.std.proofs.lemmas.List.Sums.{sum_by-cons}
use Rattle.proto_names.specs.declared.signature.Signature.TheVariants.{Pk, Rlk1, Rlk2, Rot, Dec}
use Rattle.circuit_form.specs.declared.node.Node.{Node}
use Rattle.circuit_form.specs.declared.node.Node.TheVariants as node
use Rattle.circuit_form.specs.Circuits.{owners}
use Rattle.param_set.specs.Numbers.{Numbers}
use Rattle.session_rules.specs.declared.fixed.Fixed.{Fixed}
use Rattle.session_rules.specs.Issues.{keys as needed_keys, wants_key, wants_relin}
use Rattle.session_rules.specs.Fixing.{plan_of, fixed_from}
use Rattle.session_rules.proofs.Weights.{range_length}
use Rattle.run_laws.specs.Lengths.{signatures, input_count, inputs, node_count, FewAreSigned, FewAreInputs}

-- ---- signatures

few_keys : (f : Fixed) → length (needed_keys f) ≤ 3 + length f.turns
unfolding needed_keys
few_keys f = at (list_any wants_key f.plans) (list_any wants_relin f.plans)
  where
    at : (a b : Bool) → length (cond a (Pk ∷ []) [] ++ cond b (Rlk1 ∷ Rlk2 ∷ []) [] ++ map Rot f.turns) ≤ 3 + length f.turns
    at true true = omega (arith, length-map f.turns Rot)
    at true false = omega (arith, length-map f.turns Rot)
    at false true = omega (arith, length-map f.turns Rot)
    at false false = omega (arith, length-map f.turns Rot)

pub few_are_signed : FewAreSigned
unfolding signatures
few_are_signed f =
    let range = range_with_len 0 (length f.plans) in
    omega (arith, few_keys f, length-append (needed_keys f) (map Dec range), length-map range Dec, range_length 0 (length f.plans))

-- ---- inputs

few_owners : (nodes : List Node) → length (owners nodes) ≤ length nodes
unfolding owners
few_owners [] = omega arith
few_owners (node.Input owner ∷ rest) = let l = few_owners rest in omega arith
few_owners (node.Const value ∷ rest) = let l = few_owners rest in omega arith
few_owners (node.Add left right ∷ rest) = let l = few_owners rest in omega arith
few_owners (node.Sub left right ∷ rest) = let l = few_owners rest in omega arith
few_owners (node.Neg of ∷ rest) = let l = few_owners rest in omega arith
few_owners (node.Mul left right ∷ rest) = let l = few_owners rest in omega arith
few_owners (node.Rot g of ∷ rest) = let l = few_owners rest in omega arith

few_of_plan : (p : Numbers) (nodes : List Node) → input_count (plan_of p nodes) ≤ node_count nodes
unfolding plan_of
few_of_plan p nodes = few_owners nodes

few_of_plans : (p : Numbers) (circuits : List (List Node)) → sum_by input_count (map (plan_of p) circuits) ≤ sum_by node_count circuits
few_of_plans p [] = omega arith
few_of_plans p (x ∷ xs) =
    omega (arith, few_of_plan p x, few_of_plans p xs, sum_by-cons input_count (plan_of p x) (map (plan_of p) xs), sum_by-cons node_count x xs)

pub few_are_inputs : FewAreInputs
unfolding inputs fixed_from
few_are_inputs p circuits = few_of_plans p circuits
