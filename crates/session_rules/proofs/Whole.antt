-- The fixed data that is made of circuits: each begins idle or refused, and the rotations are those of the
-- admitted ones.
use Rattle.std.proofs.Common.{◌≡◌, ◌∙◌, sym, ap, subst, refl, ℕ, ◌<◌, true, false, List, [], length, map, filter, get_or, Contains, Option, Some, None, arith}
use Rattle.std.specs.Prelude.{◌*◌, nat_eq}
use Rattle.std.specs.List.{range_with_len, list_any}
use Rattle.std.proofs.lemmas.Bool.{and_parts, and_from, eq-eqb, eqb-true}
use Rattle.std.proofs.lemmas.List.{get_or-map, get_or_default, length-map}
use Rattle.std.proofs.lemmas.List.Elements.{Contains-get_or}
use Rattle.circuit_form.specs.declared.node.Node.{Node}
use Rattle.noise_ledger.specs.declared.over.Place.{Place}
use Rattle.param_set.specs.Numbers.{Numbers}
use Rattle.noise_ledger.specs.Ledger.{first_over}
use Rattle.session_rules.specs.declared.fixed.Plan.{Plan}
use Rattle.session_rules.specs.States.{plan, no_plan, is_admitted}
use Rattle.session_rules.specs.Fixing.{begins_as, rotates, plan_of, admits_turn, is_turned, fixed_from, fixed_of}
use Rattle.session_rules.specs.Facts.{is_begun}
use Rattle.session_rules.specs.Grounds.{CircuitsAreWhole}
use Rattle.session_rules.proofs.Contained.{contains_filter, contains_filter_from, any_true, any_from}

-- ---- one circuit

first_begun : (p : Numbers) (nodes : List Node) (o : Option Place) → is_begun (begins_as p nodes o) ≡ false
unfolding begins_as
first_begun p nodes None = refl
first_begun p nodes (Some place) = refl

plan_begins : (p : Numbers) (nodes : List Node) → is_begun (plan_of p nodes).opening ≡ false
unfolding plan_of
plan_begins p nodes = first_begun p nodes (first_over p nodes)

plan_turns : (p : Numbers) (nodes : List Node) → (plan_of p nodes).turns ≡ filter (rotates nodes) (range_with_len 0 (2 * p.n))
unfolding plan_of
plan_turns p nodes = refl

-- ---- all of them

fixed_plans : (p : Numbers) (circuits : List (List Node)) → (fixed_of p circuits).plans ≡ map (plan_of p) circuits
unfolding fixed_from
fixed_plans p circuits = refl

fixed_turns : (p : Numbers) (circuits : List (List Node)) → (fixed_of p circuits).turns ≡ filter (is_turned (map (plan_of p) circuits)) (range_with_len 0 (2 * p.n))
unfolding fixed_from
fixed_turns p circuits = refl

-- the plan of circuit c
record PlanAt (p : Numbers) (circuits : List (List Node)) (c : ℕ) : Type 0 where
  nodes : List Node
  within : Contains circuits nodes
  same : plan (fixed_of p circuits) c ≡ plan_of p nodes

plan_at : (p : Numbers) (circuits : List (List Node)) (c : ℕ) → c < length (fixed_of p circuits).plans → PlanAt p circuits c
plan_at p circuits c l =
    let e = ap length (fixed_plans p circuits) ∙ length-map circuits (plan_of p) in
    record {
      nodes = get_or circuits c [];
      within = Contains-get_or circuits c [] (omega arith);
      same = ap (λ (z : List Plan). get_or z c no_plan) (fixed_plans p circuits) ∙ get_or-map (plan_of p) circuits c [] no_plan (omega arith);
    }

-- a circuit among them that is admitted and rotates by g, and the other way about
rotates_among : (plans : List Plan) (c g : ℕ) → c < length plans → is_admitted (get_or plans c no_plan) ≡ true → Contains (get_or plans c no_plan).turns g → is_turned plans g ≡ true
rotates_among plans c g l admitted m =
    let it = get_or plans c no_plan in
    any_from (admits_turn g) plans it (Contains-get_or plans c no_plan l)
    (and_from (is_admitted it) (list_any (nat_eq g) it.turns) admitted (any_from (nat_eq g) it.turns g m (eq-eqb g g refl)))

record RotatesAt (plans : List Plan) (g : ℕ) : Type 0 where
  at : ℕ
  within : at < length plans
  admitted : is_admitted (get_or plans at no_plan) ≡ true
  turned : Contains (get_or plans at no_plan).turns g

rotates_at : (plans : List Plan) (g : ℕ) → is_turned plans g ≡ true → RotatesAt plans g
rotates_at plans g e =
    let x = any_true (admits_turn g) plans e in
    let two = and_parts (is_admitted x.item) (list_any (nat_eq g) x.item.turns) x.passes in
    let h = any_true (nat_eq g) x.item.turns two.1 in
    let same : get_or plans x.within.0 no_plan ≡ x.item = get_or_default plans x.within.0 no_plan x.item x.within.1 ∙ x.within.2 in
    record {
      at = x.within.0;
      within = x.within.1;
      admitted = subst (λ (z : Plan). is_admitted z ≡ true) (sym same) two.0;
      turned = subst (λ (z : Plan). Contains z.turns g) (sym same) (subst (λ (z : ℕ). Contains x.item.turns z) (sym (eqb-true g h.item h.passes)) h.within);
    }

pub circuits_are_whole : CircuitsAreWhole
unfolding fixed_from
circuits_are_whole p circuits = record {
  begins = λ c l. let at = plan_at p circuits c l in ap (λ (z : Plan). is_begun z.opening) at.same ∙ plan_begins p at.nodes;
  turns = λ c g l admitted m.
      let at = plan_at p circuits c l in
      let its : Contains (filter (rotates at.nodes) (range_with_len 0 (2 * p.n))) g = subst (λ (z : List ℕ). Contains z g) (ap (λ (z : Plan). z.turns) at.same ∙ plan_turns p at.nodes) m in
      let both = contains_filter_from (rotates at.nodes) (range_with_len 0 (2 * p.n)) g its in
      contains_filter (is_turned (map (plan_of p) circuits)) (range_with_len 0 (2 * p.n)) g both.0 (rotates_among (map (plan_of p) circuits) c g l admitted m);
  turned = λ g m.
      let both = contains_filter_from (is_turned (map (plan_of p) circuits)) (range_with_len 0 (2 * p.n)) g m in
      let x = rotates_at (map (plan_of p) circuits) g both.1 in
      (x.at, x.within, x.admitted, x.turned);
}
