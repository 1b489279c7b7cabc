-- What the rules of a session look at, circuit by circuit.
use Rattle.std.proofs.Common.{◌≡◌, ◌∙◌, sym, ap, refl, ℕ, ◌<◌, ◌≤◌, true, inl, inr, List, [], length, map, get_or, arith}
use Rattle.std.proofs.lemmas.Bool.{cases_lt}
use Rattle.std.proofs.lemmas.List.{get_or-map, get_or_past, length-map}
use Rattle.circuit_form.specs.declared.node.Node.{Node}
use Rattle.circuit_form.specs.Circuits.{owners}
use Rattle.param_set.specs.Numbers.{Numbers}
use Rattle.session_rules.specs.declared.fixed.Plan.{Plan}
use Rattle.session_rules.specs.declared.state.CircuitState.{CircuitState}
use Rattle.session_rules.specs.declared.state.CircuitState.TheVariants.{Refused, Idle, Taken, Evaluated, Answered}
use Rattle.session_rules.specs.States.{State, plan, no_plan, circuit}
use Rattle.session_rules.specs.Fixing.{plan_of, fixed_from}
use Rattle.session_rules.specs.Facts.{Kept, is_begun, is_settled}
use Rattle.session_spec.specs.Settings.{Setting, nodes_of, rules, gadget_rows, no_offer, nodes_at, input_count}

-- ---- the rules

pub rules_plans : (w : Setting) → (rules w).plans ≡ map (plan_of w.numbers) (map nodes_of w.offers)
unfolding rules fixed_from
rules_plans w = refl

pub rules_rows : (w : Setting) → (rules w).rows ≡ gadget_rows w
unfolding rules fixed_from
rules_rows w = refl

pub rules_threshold : (w : Setting) → (rules w).threshold ≡ w.numbers.threshold
unfolding rules fixed_from
rules_threshold w = refl

pub rules_number : (w : Setting) → length (rules w).plans ≡ length w.offers
rules_number w = ap length (rules_plans w) ∙ length-map (map nodes_of w.offers) (plan_of w.numbers) ∙ length-map w.offers nodes_of

plan_owners : (p : Numbers) (nodes : List Node) → (plan_of p nodes).owners ≡ owners nodes
unfolding plan_of
plan_owners p nodes = refl

no_owners : length (owners []) ≡ 0
unfolding owners
no_owners = refl

-- a plan has an owner for each input
pub plan_inputs : (w : Setting) (c : ℕ) → length (plan (rules w) c).owners ≡ input_count w c
plan_inputs w c = elim (cases_lt c (length w.offers)) [
  | inl less ↦
      let nodes = map nodes_of w.offers in
      let within : c < length nodes = omega (arith, length-map w.offers nodes_of) in
      let at : plan (rules w) c ≡ plan_of w.numbers (nodes_at w c) =
      ap (λ (z : List Plan). get_or z c no_plan) (rules_plans w) ∙ get_or-map (plan_of w.numbers) nodes c [] no_plan within
      ∙ ap (plan_of w.numbers) (get_or-map nodes_of w.offers c no_offer [] less) in
      ap (λ (z : Plan). length z.owners) at ∙ ap length (plan_owners w.numbers (nodes_at w c))
  | inr more ↦
      let at : plan (rules w) c ≡ no_plan = get_or_past (rules w).plans c no_plan (omega (arith, rules_number w)) in
      let none : nodes_at w c ≡ [] = ap nodes_of (get_or_past w.offers c no_offer more) in
      ap (λ (z : Plan). length z.owners) at ∙ sym (ap (λ (z : List Node). length (owners z)) none ∙ no_owners)
]

-- no circuit has no input
pub no_inputs_past : (w : Setting) (c : ℕ) → length w.offers ≤ c → input_count w c ≡ 0
no_inputs_past w c more =
    let none : nodes_at w c ≡ [] = ap nodes_of (get_or_past w.offers c no_offer more) in
    ap (λ (z : List Node). length (owners z)) none ∙ no_owners

-- ---- circuits

-- one that is settled is begun
pub settled_begun : (now : CircuitState) → is_settled now ≡ true → is_begun now ≡ true
settled_begun (Refused place bound limit) e = cc
settled_begun Idle e = cc
settled_begun (Taken who) e = refl
settled_begun Evaluated e = refl
settled_begun Answered e = refl

-- one that isn't answered is there
pub circuit_within : (circuits : List CircuitState) (c : ℕ) (now : CircuitState) → circuit circuits c ≡ now → (now ≡ Answered → ⊥) → c < length circuits
circuit_within circuits c now e other = elim (cases_lt c (length circuits)) [
  | inl less ↦ less
  | inr more ↦ absurd (other (sym e ∙ get_or_past circuits c Answered more))
]

pub circuits_number : (w : Setting) (s : State) → Kept (rules w) s → length s.circuits ≡ length w.offers
circuits_number w s k = k.circuits ∙ rules_number w
