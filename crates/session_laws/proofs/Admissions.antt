-- What the rules admit is what the ledger admits, and those who act by the rules act within the parameters' T.
use Rattle.std.proofs.Common.{◌≡◌, ◌∙◌, sym, ap, subst, refl, ℕ, ◌<◌, true, true≢false, not, List, [], length, map, get_or, arith}
use Rattle.std.specs.Prelude.{Option, Some, None}
use Rattle.std.proofs.lemmas.List.{get_or-map, length-map}
use Rattle.share_spec.specs.Sets.{count}
use Rattle.circuit_form.specs.declared.node.Node.{Node}
use Rattle.param_set.specs.declared.params.Params.{Params}
use Rattle.param_set.specs.Numbers.{Numbers, numbers_of}
use Rattle.noise_ledger.specs.declared.over.Place.{Place}
use Rattle.noise_ledger.specs.Ledger.{first_over}
use Rattle.proto_names.specs.Roles.{Role}
use Rattle.session_rules.specs.declared.fixed.Plan.{Plan}
use Rattle.session_rules.specs.States.{is_refused, is_admitted, plan, no_plan}
use Rattle.session_rules.specs.Fixing.{begins_as, plan_of}
use Rattle.session_spec.specs.Settings.{Setting, rules, nodes_of, nodes_at, no_offer}
use Rattle.session_laws.specs.Laws.{ActsWithin, RulesAskTheLedger}
use Rattle.session_laws.proofs.Plans.{rules_plans, rules_threshold}

-- a circuit that doesn't begin refused has no place above the limit
not_over : (p : Numbers) (nodes : List Node) (over : Option Place) → not (is_refused (begins_as p nodes over)) ≡ true → over ≡ None
unfolding begins_as
not_over p nodes None e = refl
not_over p nodes (Some place) e = absurd (true≢false (sym e))

admitted_plan : (p : Numbers) (nodes : List Node) → is_admitted (plan_of p nodes) ≡ true → first_over p nodes ≡ None
unfolding plan_of
admitted_plan p nodes e = not_over p nodes (first_over p nodes) e

-- circuit c of the rules is that of the setting
pub plan_at : (w : Setting) (c : ℕ) → c < length w.offers → plan (rules w) c ≡ plan_of w.numbers (nodes_at w c)
plan_at w c l =
    ap (λ (z : List Plan). get_or z c no_plan) (rules_plans w)
    ∙ get_or-map (plan_of w.numbers) (map nodes_of w.offers) c [] no_plan (omega (arith, length-map w.offers nodes_of))
    ∙ ap (plan_of w.numbers) (get_or-map nodes_of w.offers c no_offer [] l)

pub rules_ask_the_ledger : RulesAskTheLedger
rules_ask_the_ledger p w c setting l e =
    let here : first_over w.numbers (nodes_at w c) ≡ None =
    admitted_plan w.numbers (nodes_at w c) (subst (λ (z : Plan). is_admitted z ≡ true) (plan_at w c l) e) in
    subst (λ (z : Numbers). first_over z (nodes_at w c) ≡ None) setting.numbers here

-- as many parties as the rules ask for act within the parameters' T
pub acts_by_rules : (p : Params) (w : Setting) (role : Role) → w.numbers ≡ numbers_of p → count role.set.bits ≡ (rules w).threshold → ActsWithin w p.threshold role
acts_by_rules p w role numbers many =
    let parties : count role.set.bits ≡ w.numbers.threshold = many ∙ rules_threshold w in
    let same : w.numbers.threshold ≡ p.threshold = ap (λ (z : Numbers). z.threshold) numbers in
    record { parties = parties; most = omega (arith, parties, same) }
