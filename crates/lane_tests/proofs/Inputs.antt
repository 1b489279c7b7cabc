-- Where no circuit asks for an input none can be given, and a party needs no value.
use Rattle.std.proofs.Common.{◌≡◌, ◌∙◌, sym, ap, subst, refl, ℕ, ◌<◌, nat_lt, Bool, true, false, ◌&&◌, inl, inr, List, [], length, map, get_or, All, Option, Some, None, arith}
use Rattle.std.specs.Prelude.{IfSome}
use Rattle.std.proofs.lemmas.Bool.{cases_lt, le-ltb}
use Rattle.std.proofs.lemmas.List.{length-map, get_or-map, get_or_past}
use Rattle.circuit_form.specs.declared.node.Node.{Node}
use Rattle.circuit_form.specs.Circuits.{owners}
use Rattle.param_set.specs.Numbers.{Numbers}
use Rattle.session_rules.specs.declared.fixed.Plan.{Plan}
use Rattle.session_rules.specs.Fixing.{plan_of}
use Rattle.session_rules.specs.States.{plan, no_plan, is_admitted}
use Rattle.session_rules.specs.Steps.{is_input}
use Rattle.session_spec.specs.Settings.{Setting, Offer, nodes_of, no_offer, nodes_at, rules}
use Rattle.session_laws.proofs.Plans.{rules_plans, rules_number}
use Rattle.lane_tests.specs.Constants.{AsksForNone, HasNoInput}

plan_owners : (p : Numbers) (nodes : List Node) → (plan_of p nodes).owners ≡ owners nodes
unfolding plan_of
plan_owners p nodes = refl

none_planned : (w : Setting) (c : ℕ) → All AsksForNone w.offers → (plan (rules w) c).owners ≡ []
none_planned w c none = elim (cases_lt c (length w.offers)) [
  | inl less ↦
      let nodes = map nodes_of w.offers in
      let within : c < length nodes = omega (arith, length-map w.offers nodes_of) in
      let at : plan (rules w) c ≡ plan_of w.numbers (nodes_at w c) =
      ap (λ (z : List Plan). get_or z c no_plan) (rules_plans w) ∙ get_or-map (plan_of w.numbers) nodes c [] no_plan within
      ∙ ap (plan_of w.numbers) (get_or-map nodes_of w.offers c no_offer [] less) in
      ap (λ (z : Plan). z.owners) at ∙ plan_owners w.numbers (nodes_at w c) ∙ none c no_offer less
  | inr more ↦ ap (λ (z : Plan). z.owners) (get_or_past (rules w).plans c no_plan (omega (arith, rules_number w)))
]

never : (b c : Bool) → c ≡ false → (b && c) ≡ false
never true c e = e
never false c e = refl

pub no_inputs : (w : Setting) → All AsksForNone w.offers → HasNoInput w
unfolding is_input
no_inputs w none c k =
    never (is_admitted (plan (rules w) c)) _ (ap (λ (os : List ℕ). nat_lt k (length os)) (none_planned w c none) ∙ le-ltb k 0 (omega arith))

pub none_if : (w v : Setting) (o : Option (List Offer)) (offers : List Offer) → o ≡ Some offers → IfSome o (λ (os : List Offer). All AsksForNone os) → v ≡ w → w.offers ≡ offers → HasNoInput v
none_if w v None offers e h same are = cc
none_if w v (Some os) offers e h same are =
    let it : os ≡ offers = cc in
    subst HasNoInput (sym same) (no_inputs w (subst (All AsksForNone) (it ∙ sym are) h))
