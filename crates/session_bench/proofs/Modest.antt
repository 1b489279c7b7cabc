-- One circuit that needs no key switch asks for no rotation and for few inputs.
use Rattle.std.proofs.Common.{◌≡◌, ◌∙◌, ap, ℕ, ◌≤◌, List, [], ◌∷◌, length, map, get_or, arith}
use Rattle.std.specs.Prelude.{All, sum_by}
use Rattle.std.proofs.lemmas.List.{length-map}
use Rattle.param_set.specs.declared.params.Params.{Params}
use Rattle.param_set.specs.Numbers.{numbers_of}
use Rattle.session_rules.specs.declared.fixed.Plan.{Plan}
use Rattle.session_rules.specs.Fixing.{plan_of, fixed_from}
use Rattle.session_rules.specs.States.{no_plan}
use Rattle.session_spec.specs.Settings.{Offer, Keeps, IsSwitchFree, nodes_of, rules}
use Rattle.session_state.specs.Parts.{setting_by}
use Rattle.session_state.proofs.Openings.{few_inputs}
use Rattle.session_core.specs.Sessions.{IsModest, owner_count}
use Rattle.session_core.proofs.Keyless.{no_turns}

inputs_of_one : (plans : List Plan) → length plans ≡ 1 → length (get_or plans 0 no_plan).owners ≤ 256 → sum_by owner_count plans ≤ 1024
inputs_of_one [] one few = omega arith
inputs_of_one (p ∷ []) one few = omega arith
inputs_of_one (p ∷ q ∷ ps) one few = omega arith

pub is_modest : (p : Params) (public : List ℕ) (offers : List Offer) → All (Keeps p) offers → All IsSwitchFree offers → length offers ≡ 1 → IsModest (rules (setting_by p public offers))
unfolding rules fixed_from
is_modest p public offers keep free one =
    let plans = map (plan_of (numbers_of p)) (map nodes_of offers) in
    record {
      turns = omega (arith, ap length (no_turns p public offers free));
      inputs = inputs_of_one plans (length-map (map nodes_of offers) (plan_of (numbers_of p)) ∙ length-map offers nodes_of ∙ one) (few_inputs p (setting_by p public offers) 0 keep);
    }
