use Rattle.std.proofs.Common.{◌≡◌, ◌∙◌, sym, ap, subst, refl, ℕ, ◌≤◌, List, length, map, replicate, Option, None}
use Rattle.std.specs.Prelude.{All}
use Rattle.std.proofs.lemmas.List.{length-map}
use Rattle.ring_spec.specs.Pairs.{Cipher}
use Rattle.mod_ring.specs.declared.ring.Ring.{Ring}
use Rattle.param_set.specs.declared.params.Params.{Params}
use Rattle.session_rules.specs.declared.fixed.Fixed.{Fixed}
use Rattle.session_rules.specs.States.{none_given, opening_of, plan, opening}
use Rattle.session_spec.specs.Settings.{rules, Keeps}
use Rattle.session_state.specs.Parts.{setting_by, polys_in}
use Rattle.session_state.proofs.Rows.{rules_number}
use Rattle.session_state.proofs.Openings.{opens_matches, opens_holds, few_inputs, rules_from, state_opens, store_opens, opening_keyed}
use Rattle.session_state.proofs.standing.Standing.new.Goals as goal

pub invariant_of-result-clause-ring_is : goal.invariant_of-result-clause-ring_is
invariant_of-result-clause-ring_is c = sym (c.params.ensures ∙ ap (λ (z : Ring). z.params) c.deref.ensures)

pub invariant_of-result-clause-table_is : goal.invariant_of-result-clause-table_is
invariant_of-result-clause-table_is c =
    c.in_ok-new.ensures.ring ∙ ap (λ (z : Ring). z.params) c.deref-2.ensures ∙ sym (c.params.ensures ∙ ap (λ (z : Ring). z.params) c.deref.ensures)

pub invariant_of-result-clause-rules_are : goal.invariant_of-result-clause-rules_are
invariant_of-result-clause-rules_are c =
    c.in_ok-rules.ensures ∙ rules_from c.params.result.now c.args.public c.args.circuits c.in_ok-plans.plans c.in_ok-plans.ensures

pub invariant_of-result-clause-setting_is : goal.invariant_of-result-clause-setting_is
invariant_of-result-clause-setting_is c =
    let keep : All (Keeps c.params.result.now) c.args.circuits =
    subst (λ (z : Params). All (Keeps z) c.args.circuits) (sym (c.params.ensures ∙ ap (λ (z : Ring). z.params) c.deref.ensures)) c.requires.keep in
    record { numbers = refl; circuits = keep }

pub invariant_of-result-clause-lengths : goal.invariant_of-result-clause-lengths
invariant_of-result-clause-lengths c =
    let w = setting_by c.params.result.now c.args.public c.args.circuits in
    let f = c.in_ok-rules.ensures ∙ rules_from c.params.result.now c.args.public c.args.circuits c.in_ok-plans.plans c.in_ok-plans.ensures in
    let plans = ap (λ (z : Fixed). length z.plans) f ∙ rules_number w in (
      plans,
      ap length c.in_ok-given_none.ensures ∙ length-map c.in_ok-rules.rules.plans none_given ∙ plans,
      ap length c.in_ok-begun.ensures ∙ length-map c.in_ok-rules.rules.plans opening_of ∙ plans,
    )

pub invariant_of-result-clause-few_inputs : goal.invariant_of-result-clause-few_inputs
invariant_of-result-clause-few_inputs c =
    let keep : All (Keeps c.params.result.now) c.args.circuits =
    subst (λ (z : Params). All (Keeps z) c.args.circuits) (sym (c.params.ensures ∙ ap (λ (z : Ring). z.params) c.deref.ensures)) c.requires.keep in
    let f : c.in_ok-rules.rules ≡ rules (setting_by c.params.result.now c.args.public c.args.circuits) =
    c.in_ok-rules.ensures ∙ rules_from c.params.result.now c.args.public c.args.circuits c.in_ok-plans.plans c.in_ok-plans.ensures in
    λ n. subst (λ (z : Fixed). length (plan z n).owners ≤ 256) (sym f) (few_inputs c.params.result.now (setting_by c.params.result.now c.args.public c.args.circuits) n keep)

pub invariant_of-result-clause-few_turns : goal.invariant_of-result-clause-few_turns
invariant_of-result-clause-few_turns c =
    let params : c.params.result.now ≡ c.args.ring.value.params = c.params.ensures ∙ ap (λ (z : Ring). z.params) c.deref.ensures in
    let f : c.in_ok-rules.rules ≡ rules (setting_by c.params.result.now c.args.public c.args.circuits) =
    c.in_ok-rules.ensures ∙ rules_from c.params.result.now c.args.public c.args.circuits c.in_ok-plans.plans c.in_ok-plans.ensures in
    subst (λ (z : Fixed). length z.turns ≤ 16) (sym f)
    (subst (λ (z : Params). length (rules (setting_by z c.args.public c.args.circuits)).turns ≤ 16) (sym params) c.requires.turns)

pub invariant_of-result-clause-matches : goal.invariant_of-result-clause-matches
invariant_of-result-clause-matches c =
    let w = setting_by c.params.result.now c.args.public c.args.circuits in
    let f : c.in_ok-rules.rules ≡ rules (setting_by c.params.result.now c.args.public c.args.circuits) =
    c.in_ok-rules.ensures ∙ rules_from c.params.result.now c.args.public c.args.circuits c.in_ok-plans.plans c.in_ok-plans.ensures in
    let then_ = state_opens c.in_ok-rules.rules _ _ _ _ refl c.in_ok-new.ensures.instances c.in_ok-given_none.ensures c.in_ok-begun.ensures ∙ ap opening f in
    let held = store_opens w _ _ _ _ _ (ap (map polys_in) c.in_ok-new.ensures.briefs) c.in_ok-new.ensures.sums c.in_ok-no_inputs_of.ensures
    (c.in_ok-empty.ensures ∙ ap (λ (z : ℕ). replicate {A = Option Cipher} z None) c.len.ensures)
    (c.in_ok-empty-2.ensures ∙ ap (λ (z : ℕ). replicate {A = Option (List ℕ)} z None) c.len-2.ensures) in
    opens_matches w _ _ then_ held

pub invariant_of-result-clause-holds : goal.invariant_of-result-clause-holds
invariant_of-result-clause-holds c =
    let w = setting_by c.params.result.now c.args.public c.args.circuits in
    let f : c.in_ok-rules.rules ≡ rules (setting_by c.params.result.now c.args.public c.args.circuits) =
    c.in_ok-rules.ensures ∙ rules_from c.params.result.now c.args.public c.args.circuits c.in_ok-plans.plans c.in_ok-plans.ensures in
    let then_ = state_opens c.in_ok-rules.rules _ _ _ _ refl c.in_ok-new.ensures.instances c.in_ok-given_none.ensures c.in_ok-begun.ensures ∙ ap opening f in
    let held = store_opens w _ _ _ _ _ (ap (map polys_in) c.in_ok-new.ensures.briefs) c.in_ok-new.ensures.sums c.in_ok-no_inputs_of.ensures
    (c.in_ok-empty.ensures ∙ ap (λ (z : ℕ). replicate {A = Option Cipher} z None) c.len.ensures)
    (c.in_ok-empty-2.ensures ∙ ap (λ (z : ℕ). replicate {A = Option (List ℕ)} z None) c.len-2.ensures) in
    opens_holds c.params.result.now w _ _ then_ held

pub invariant_of-result-clause-keyed : goal.invariant_of-result-clause-keyed
invariant_of-result-clause-keyed c = opening_keyed (setting_by c.params.result.now c.args.public c.args.circuits) _ _ c.in_ok-new.ensures.instances

pub returns-clause-state : goal.returns-clause-state
returns-clause-state c =
    let p = c.args.ring.value.params in
    let params : c.params.result.now ≡ p = c.params.ensures ∙ ap (λ (z : Ring). z.params) c.deref.ensures in
    let f = c.in_ok-rules.ensures ∙ rules_from c.params.result.now c.args.public c.args.circuits c.in_ok-plans.plans c.in_ok-plans.ensures in
    state_opens c.in_ok-rules.rules _ _ _ _ refl c.in_ok-new.ensures.instances c.in_ok-given_none.ensures c.in_ok-begun.ensures
    ∙ ap opening (f ∙ ap (λ (z : Params). rules (setting_by z c.args.public c.args.circuits)) params)

pub returns-clause-store : goal.returns-clause-store
returns-clause-store c =
    let w = setting_by c.args.ring.value.params c.args.public c.args.circuits in
    store_opens w _ _ _ _ _ (ap (map polys_in) c.in_ok-new.ensures.briefs) c.in_ok-new.ensures.sums c.in_ok-no_inputs_of.ensures
    (c.in_ok-empty.ensures ∙ ap (λ (z : ℕ). replicate {A = Option Cipher} z None) c.len.ensures)
    (c.in_ok-empty-2.ensures ∙ ap (λ (z : ℕ). replicate {A = Option (List ℕ)} z None) c.len-2.ensures)
