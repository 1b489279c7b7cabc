-- A session at its opening: its circuits have few inputs, and nothing is held yet.
use Rattle.std.proofs.Common.{◌≡◌, ◌∙◌, sym, ap, refl, ℕ, ◌-◌, ◌<◌, ◌≤◌, Bool, true, false, cond, nat_eq, nat_lt, inl, inr, List, [], ◌∷◌, length, map, replicate, get_or, Option, Some, None, arith}
use Rattle.std.specs.Prelude.{All}
use Rattle.std.specs.List.{slice_get}
use Rattle.std.proofs.lemmas.Bool.{both_ways, cases_lt, lt-ltb}
use Rattle.std.proofs.lemmas.List.{get_or-map, get_or_past, get_or-replicate, length-map, length-replicate}
use Rattle.std.proofs.lemmas.List.Elements.{All-get_or}
use Rattle.ring_spec.specs.Pairs.{Cipher}
use Rattle.param_set.specs.declared.params.Params.{Params}
use Rattle.circuit_form.specs.declared.node.Node.{Node}
use Rattle.circuit_form.specs.declared.node.Node.TheVariants.{Input, Const, Add, Sub, Neg, Mul, Rot}
use Rattle.circuit_form.specs.Circuits.{first_fault, first_wrong, owners}
use Rattle.param_set.specs.Numbers.{numbers_of}
use Rattle.proto_names.specs.Instances.{instance}
use Rattle.proto_names.specs.declared.instance.Instance.{Instance}
use Rattle.session_rules.specs.declared.fixed.Plan.{Plan}
use Rattle.session_rules.specs.declared.fixed.Fixed.{Fixed}
use Rattle.session_rules.specs.declared.state.CircuitState.{CircuitState}
use Rattle.session_rules.specs.declared.state.CircuitState.TheVariants.{Refused, Idle, Taken, Evaluated, Answered}
use Rattle.session_rules.specs.Facts.{Kept, is_begun, is_settled}
use Rattle.session_rules.specs.Grounds.{Grounded}
use Rattle.session_rules.proofs.Grounds.{opening_grounds}
use Rattle.session_rules.proofs.Whole.{circuits_are_whole}
use Rattle.session_rules.specs.States.{State, seen, circuit, plan, no_plan, none_given, opening_of, opening}
use Rattle.session_rules.specs.Fixing.{plan_of, fixed_from}
use Rattle.session_spec.specs.Settings.{Setting, Offer, nodes_of, nodes_at, no_offer, rules, Keeps}
use Rattle.session_spec.specs.Stores.{Store, no_inputs, empty, held_key}
use Rattle.session_spec.specs.Outputs.{done_instance}
use Rattle.session_spec.specs.Honesty.{count_inputs, Matches}
use Rattle.session_state.specs.Parts.{setting_by, Holds}
use Rattle.session_state.proofs.Rows.{rules_number, plan_inputs, row_length}

-- ---- the rules

pub rules_from : (p : Params) (public : List ℕ) (offers : List Offer) (plans : List Plan) → plans ≡ map (plan_of (numbers_of p)) (map nodes_of offers)
    → fixed_from (numbers_of p) plans ≡ rules (setting_by p public offers)
unfolding rules
rules_from p public offers plans e = ap (fixed_from (numbers_of p)) e

-- ---- few inputs

few_nodes : (n t parties : ℕ) (nodes : List Node) → first_fault n t parties nodes ≡ None → length nodes ≤ 256
unfolding first_fault
few_nodes n t parties nodes e = at (nat_eq (length nodes) 0) (nat_lt 256 (length nodes)) refl e
  where
    at : (a b : Bool) → nat_lt 256 (length nodes) ≡ b → cond a (Some 0) (cond b (Some 256) (first_wrong n t parties 0 nodes)) ≡ None → length nodes ≤ 256
    at true b z y = cc
    at false true z y = cc
    at false false z y = elim (cases_lt 256 (length nodes)) [
      | inl more ↦ absurd (both_ways (nat_lt 256 (length nodes)) z (lt-ltb 256 (length nodes) more))
      | inr few ↦ few
    ]

few_owners : (nodes : List Node) → length (owners nodes) ≤ length nodes
unfolding owners
few_owners [] = omega arith
few_owners (Input owner ∷ rest) = omega (arith, few_owners rest)
few_owners (Const value ∷ rest) = omega (arith, few_owners rest)
few_owners (Add left right ∷ rest) = omega (arith, few_owners rest)
few_owners (Sub left right ∷ rest) = omega (arith, few_owners rest)
few_owners (Neg of ∷ rest) = omega (arith, few_owners rest)
few_owners (Mul left right ∷ rest) = omega (arith, few_owners rest)
few_owners (Rot g of ∷ rest) = omega (arith, few_owners rest)

pub few_inputs : (p : Params) (w : Setting) (c : ℕ) → All (Keeps p) w.offers → length (plan (rules w) c).owners ≤ 256
few_inputs p w c keep = elim (cases_lt c (length w.offers)) [
  | inl less ↦
      let keeps = All-get_or (Keeps p) w.offers c no_offer less keep in
      omega (arith, plan_inputs w c, few_owners (nodes_at w c), few_nodes p.n p.t p.parties (nodes_at w c) keeps.rules)
  | inr more ↦
      let at : plan (rules w) c ≡ no_plan = get_or_past (rules w).plans c no_plan (omega (arith, rules_number w)) in
      let none : length (plan (rules w) c).owners ≡ 0 = ap (λ (z : Plan). length z.owners) at in
      omega (arith, none)
]

-- ---- nothing is there

inputs_count : (offers : List Offer) → map row_length (map no_inputs offers) ≡ map count_inputs offers
inputs_count [] = refl
inputs_count (offer ∷ rest) = ap (λ (n : ℕ). n ∷ map row_length (map no_inputs rest)) (length-replicate (length (owners offer.nodes)) None) ∙ ap (λ (z : List ℕ). count_inputs offer ∷ z) (inputs_count rest)

opening_matches : (w : Setting) → Matches w (opening (rules w)) (empty w)
unfolding opening empty
opening_matches w = record {
  told = refl;
  sums = refl;
  inputs = inputs_count w.offers;
  outputs = length-replicate (length w.offers) None;
  answers = length-replicate (length w.offers) None;
}

no_instance : (id : ℕ) → instance [] id ≡ None
unfolding instance
no_instance id = at (nat_eq id 0)
  where
    at : (b : Bool) → cond b None (slice_get {X = Instance} [] (id - 1)) ≡ None
    at true = refl
    at false = refl

none_given_of : (n k : ℕ) → get_or (replicate n false) k false ≡ false
none_given_of n k = elim (cases_lt k n) [
  | inl less ↦ get_or-replicate n k false false less
  | inr more ↦ get_or_past (replicate n false) k false (omega (arith, length-replicate n false))
]

none_is_given : (plans : List Plan) (c k : ℕ) → get_or (get_or (map none_given plans) c []) k false ≡ false
none_is_given plans c k = elim (cases_lt c (length plans)) [
  | inl less ↦ ap (λ (z : List Bool). get_or z k false) (get_or-map none_given plans c no_plan [] less) ∙ none_given_of (length (get_or plans c no_plan).owners) k
  | inr more ↦ ap (λ (z : List Bool). get_or z k false) (get_or_past (map none_given plans) c [] (omega (arith, length-map plans none_given)))
]

settled_begun : (now : CircuitState) → is_settled now ≡ true → is_begun now ≡ true
settled_begun (Refused place bound limit) e = cc
settled_begun Idle e = cc
settled_begun (Taken who) e = refl
settled_begun Evaluated e = refl
settled_begun Answered e = refl

-- no circuit is begun
none_begun : (w : Setting) (c : ℕ) → c < length (map opening_of (rules w).plans) → is_begun (circuit (map opening_of (rules w).plans) c) ≡ false
unfolding rules
none_begun w c l =
    let less : c < length (rules w).plans = omega (arith, length-map (rules w).plans opening_of) in
    ap (λ (z : CircuitState). is_begun z) (get_or-map opening_of (rules w).plans c no_plan Answered less)
    ∙ (circuits_are_whole w.numbers (map nodes_of w.offers)).begins c less

opening_holds : (p : Params) (w : Setting) → Holds p (opening (rules w)) (empty w)
unfolding opening empty
opening_holds p w =
    let plans = (rules w).plans in
    record {
      told = λ id i e live. absurd (differ i (sym (no_instance id) ∙ e));
      inputs = λ c k e. absurd (both_ways (get_or (get_or (map none_given plans) c []) k false) (none_is_given plans c k) e);
      outputs = λ c l e. absurd (both_ways (is_begun (circuit (map opening_of plans) c)) (none_begun w c l) (settled_begun (circuit (map opening_of plans) c) e));
      answers = λ c l e. absurd (both_ways (is_begun (circuit (map opening_of plans) c)) (none_begun w c l) (ap (λ (z : CircuitState). is_begun z) e));
    }
  where
    differ : (i : Instance) → None ≡ Some i → ⊥
    differ i e = cc

pub opens_holds : (p : Params) (w : Setting) (s : State) (h : Store) → s ≡ opening (rules w) → h ≡ empty w → Holds p s h
opens_holds p w s h a b = rw a (rw b (opening_holds p w))

pub opens_matches : (w : Setting) (s : State) (h : Store) → s ≡ opening (rules w) → h ≡ empty w → Matches w s h
opens_matches w s h a b = rw a (rw b (opening_matches w))

-- the parts of the state and of the store as they are made
pub state_opens : (f : Fixed) (present : ℕ) (is : List Instance) (given : List (List Bool)) (circuits : List CircuitState)
    → present ≡ 0 → is ≡ [] → given ≡ map none_given f.plans → circuits ≡ map opening_of f.plans → seen present is given circuits ≡ opening f
unfolding opening
state_opens f present is given circuits a b c d = rw a (rw b (rw c (rw d refl)))

pub store_opens : (w : Setting) (told sums : List (List (List ℕ))) (inputs : List (List (Option Cipher))) (outputs : List (Option Cipher)) (answers : List (Option (List ℕ)))
    → told ≡ [] → sums ≡ [] → inputs ≡ map no_inputs w.offers → outputs ≡ replicate (length w.offers) None → answers ≡ replicate (length w.offers) None
    → record { told = told; sums = sums; inputs = inputs; outputs = outputs; answers = answers } ≡ empty w
unfolding empty
store_opens w told sums inputs outputs answers a b c d e = rw a (rw b (rw c (rw d (rw e refl))))

pub opening_keyed : (w : Setting) (h : Store) (is : List Instance) → is ≡ [] → None ≡ held_key w h is
unfolding held_key done_instance
opening_keyed w h is e = rw e refl

-- what the rules keep is kept there
pub opens_well : (w : Setting) (s : State) → s ≡ opening (rules w) → Kept (rules w) s × Grounded (rules w) s
unfolding rules
opens_well w s e = rw e (opening_grounds (rules w) (circuits_are_whole w.numbers (map nodes_of w.offers)))
