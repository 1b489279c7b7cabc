-- One circuit over polynomials of eight coefficients asks for few rotations and inputs.
use Rattle.std.proofs.Common.{◌≡◌, ◌∙◌, sym, ap, subst, Option, Some, None, ℕ, ◌*◌, ◌≤◌, List, [], ◌∷◌, length, map, get_or, arith}
use Rattle.std.specs.Prelude.{All, IfSome, sum_by}
use Rattle.std.specs.List.{range_with_len}
use Rattle.std.proofs.lemmas.List.{length-map}
use Rattle.param_set.specs.declared.params.Params.{Params}
use Rattle.circuit_form.specs.declared.node.Node.{Node}
use Rattle.param_set.specs.Numbers.{numbers_of}
use Rattle.session_rules.specs.declared.fixed.Plan.{Plan}
use Rattle.session_rules.specs.Fixing.{plan_of, fixed_from, is_turned}
use Rattle.session_rules.specs.States.{no_plan}
use Rattle.session_rules.proofs.Weights.{passing_all, range_length}
use Rattle.session_spec.specs.Settings.{Offer, Keeps, nodes_of, rules}
use Rattle.session_state.specs.Parts.{setting_by}
use Rattle.session_state.proofs.Openings.{few_inputs}
use Rattle.session_core.specs.Sessions.{IsModest, owner_count}

owners_of_one : (plans : List Plan) → length plans ≡ 1 → ((c : ℕ) → length (get_or plans c no_plan).owners ≤ 256) → sum_by owner_count plans ≤ 1024
owners_of_one [] one few = omega arith
owners_of_one (p ∷ []) one few = let least = few 0 in omega arith
owners_of_one (p ∷ q ∷ ps) one few = omega arith

pub modest_one : (p : Params) (public : List ℕ) (offers : List Offer) → p.n ≡ 8 → All (Keeps p) offers → length offers ≡ 1 → IsModest (rules (setting_by p public offers))
unfolding rules fixed_from
modest_one p public offers eight keep one =
    let plans = map (plan_of (numbers_of p)) (map nodes_of offers) in
    let range : List ℕ = range_with_len 0 (2 * p.n) in
    record {
      turns = omega (arith, passing_all (is_turned plans) range, range_length 0 (2 * p.n));
      inputs = owners_of_one plans (length-map (map nodes_of offers) (plan_of (numbers_of p)) ∙ length-map offers nodes_of ∙ one) (λ c. few_inputs p (setting_by p public offers) c keep);
    }

pub modest_if : (p s : Params) (public : List ℕ) (o : Option (List Offer)) (offers : List Offer) → o ≡ Some offers → p ≡ s → s.n ≡ 8
    → IfSome o (λ (os : List Offer). All (Keeps s) os) → IfSome o (λ (os : List Offer). length os ≡ 1) → IsModest (rules (setting_by p public offers))
modest_if p s public None offers e same eight keep one = cc
modest_if p s public (Some os) offers e same eight keep one =
    let it : os ≡ offers = cc in
    modest_one p public offers (ap (λ (z : Params). z.n) same ∙ eight) (subst (λ (z : Params). All (Keeps z) offers) (sym same) (subst (λ (z : List Offer). All (Keeps s) z) it keep)) (ap length (sym it) ∙ one)

-- it keeps the rules of these parameters
pub keeps_if : (p s : Params) (o : Option (List Offer)) (offers : List Offer) → o ≡ Some offers → p ≡ s → IfSome o (λ (os : List Offer). All (Keeps s) os) → All (Keeps p) offers
keeps_if p s None offers e same keep = cc
keeps_if p s (Some os) offers e same keep =
    let it : os ≡ offers = cc in
    subst (λ (z : Params). All (Keeps z) offers) (sym same) (subst (λ (z : List Offer). All (Keeps s) z) it keep)
