-- What a list of nodes without a fault is: not empty, at most 256 nodes, and each node keeps its rule.
use Rattle.std.proofs.Common.{◌≡◌, ℕ, suc, zero, ◌+◌, ◌<◌, ◌≤◌, Bool, true, false, cond, List, [], ◌∷◌, length, get_or, refl, subst, arith}
use Rattle.std.specs.Prelude.{Option, Some, None, nat_eq, nat_lt}
use Rattle.std.specs.List.{slice_get}
use Rattle.std.proofs.lemmas.Bool.Decides.{nat_tests}
use Rattle.std.proofs.lemmas.Option.{slice_get_within, get_or_from_slice_get}
use Rattle.circuit_form.specs.declared.node.Node.{Node}
use Rattle.circuit_form.specs.Circuits.{may_stand, first_wrong, first_fault}

-- a choice that is no place was made for the rest, and one that is no first place for the second
pub rest_chosen : (b : Bool) (rest : Option ℕ) (k : ℕ) → cond b rest (Some k) ≡ None → (b ≡ true) × (rest ≡ None)
rest_chosen true rest k e = (refl, e)
rest_chosen false rest k e = (cc, cc)

second_chosen : (b : Bool) (rest : Option ℕ) (k : ℕ) → cond b (Some k) rest ≡ None → (b ≡ false) × (rest ≡ None)
second_chosen true rest k e = (cc, cc)
second_chosen false rest k e = (refl, e)

standing_from : (n t parties k i : ℕ) (nodes : List Node) (d : Node) → first_wrong n t parties k nodes ≡ None → i < length nodes → may_stand n t parties (k + i) (get_or nodes i d) ≡ true
unfolding first_wrong
standing_from n t parties k i [] d e h = grind arith
standing_from n t parties k zero (node ∷ rest) d e h =
    let place : k ≡ k + 0 = omega arith in
    subst (λ (m : ℕ). may_stand n t parties m node ≡ true) place (rest_chosen (may_stand n t parties k node) (first_wrong n t parties (k + 1) rest) k e).0
standing_from n t parties k (suc i) (node ∷ rest) d e h =
    let behind = (rest_chosen (may_stand n t parties k node) (first_wrong n t parties (k + 1) rest) k e).1 in
    let place : k + 1 + i ≡ k + suc i = omega arith in
    let within : i < length rest = omega (arith, h) in
    subst (λ (m : ℕ). may_stand n t parties m (get_or rest i d) ≡ true) place (standing_from n t parties (k + 1) i rest d behind within)

pub record IsCircuit (n t parties : ℕ) (nodes : List Node) : Type 0 where
  pub some : 0 < length nodes
  pub few : length nodes ≤ 256
  pub stand : first_wrong n t parties 0 nodes ≡ None

pub is_circuit : (n t parties : ℕ) (nodes : List Node) → first_fault n t parties nodes ≡ None → IsCircuit n t parties nodes
unfolding first_fault
is_circuit n t parties nodes e =
    let long = second_chosen (nat_eq (length nodes) 0) (cond (nat_lt 256 (length nodes)) (Some 256) (first_wrong n t parties 0 nodes)) 0 e in
    let wrong = second_chosen (nat_lt 256 (length nodes)) (first_wrong n t parties 0 nodes) 256 long.1 in
    record {
      some = grind (arith, nat_tests);
      few = grind (arith, nat_tests);
      stand = wrong.1;
    }

-- the node at a place keeps its rule there
pub each_stands : (n t parties k : ℕ) (nodes : List Node) (node : Node) → first_fault n t parties nodes ≡ None → slice_get nodes k ≡ Some node → may_stand n t parties k node ≡ true
each_stands n t parties k nodes node e at =
    let here = standing_from n t parties 0 k nodes node (is_circuit n t parties nodes e).stand (slice_get_within nodes k node at) in
    let place : 0 + k ≡ k = omega arith in
    subst (λ (m : ℕ). may_stand n t parties m node ≡ true) place (subst (λ (x : Node). may_stand n t parties (0 + k) x ≡ true) (get_or_from_slice_get nodes k node node at) here)
