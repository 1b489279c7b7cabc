-- The store is honest at first, and what the laws ask for is met.
use Rattle.std.proofs.Common.{◌≡◌, ◌∙◌, ap, refl, ℕ, ◌<◌, false, List, [], ◌∷◌, length, map, Contains, arith}
use Rattle.std.specs.Prelude.{Option, None}
use Rattle.std.proofs.lemmas.Bool.{both_ways}
use Rattle.std.proofs.lemmas.List.{get_or-map, length-replicate}
use Rattle.ring_spec.specs.Pairs.{Cipher}
use Rattle.circuit_form.specs.Circuits.{owners}
use Rattle.proto_names.specs.declared.signature.Signature.TheVariants.{Pk}
use Rattle.proto_names.specs.declared.instance.Instance.{Instance}
use Rattle.session_rules.specs.declared.state.CircuitState.{CircuitState}
use Rattle.session_rules.specs.declared.state.CircuitState.TheVariants.{Answered}
use Rattle.session_rules.specs.States.{no_plan, circuit, has_done, opening, opening_of}
use Rattle.session_rules.specs.Facts.{is_begun}
use Rattle.session_rules.specs.Grounds.{IsWhole}
use Rattle.session_rules.proofs.Contained.{contains_nil}
use Rattle.session_rules.proofs.Marks.{instance_within}
use Rattle.session_rules.proofs.Keeps.{opening_kept}
use Rattle.session_rules.proofs.Grounds.{opening_grounds}
use Rattle.session_rules.proofs.Whole.{circuits_are_whole}
use Rattle.session_spec.specs.Settings.{Setting, Offer, nodes_of, rules}
use Rattle.session_spec.specs.Stores.{no_inputs, empty}
use Rattle.session_spec.specs.Honesty.{count_inputs, Matches}
use Rattle.session_laws.specs.Laws.{OpeningIsHonest}
use Rattle.session_laws.specs.Beginnings.{OpeningStands}
use Rattle.session_laws.proofs.Plans.{rules_number, settled_begun}

pub rules_whole : (w : Setting) → IsWhole (rules w)
unfolding rules
rules_whole w = circuits_are_whole w.numbers (map nodes_of w.offers)

opening_idle : (w : Setting) (c : ℕ) → c < length w.offers → is_begun (circuit (opening (rules w)).circuits c) ≡ false
unfolding opening
opening_idle w c l =
    let within : c < length (rules w).plans = omega (arith, rules_number w) in
    ap is_begun (get_or-map opening_of (rules w).plans c no_plan Answered within) ∙ (rules_whole w).begins c within

opening_empty : (w : Setting) (i : Instance) → Contains (opening (rules w)).instances i → ⊥
unfolding opening
opening_empty w i m = contains_nil i m

opening_keyless : (w : Setting) → has_done Pk (opening (rules w)).instances ≡ false
unfolding opening has_done
opening_keyless w = refl

pub opening_is_honest : OpeningIsHonest
opening_is_honest w seeds =
    let s = opening (rules w) in
    let ground = (opening_grounds (rules w) (rules_whole w)).1 in
    record {
      told = λ id i found alive. absurd (opening_empty w i (instance_within s.instances id i found));
      sums = λ id i found alive. absurd (opening_empty w i (instance_within s.instances id i found));
      inputs = λ c k e. absurd (both_ways (has_done Pk s.instances) (opening_keyless w) (ground.key c k e));
      outputs = λ c l e. absurd (both_ways (is_begun (circuit s.circuits c)) (opening_idle w c l) (settled_begun (circuit s.circuits c) e));
      answers = λ c l e. absurd (both_ways (is_begun (circuit s.circuits c)) (opening_idle w c l) (ap (λ (z : CircuitState). is_begun z) e));
    }

-- ---- what the laws ask for

rows_match : (offers : List Offer) → map length (map no_inputs offers) ≡ map count_inputs offers
rows_match [] = refl
rows_match (offer ∷ offers) = rw (length-replicate {A = Option Cipher} (length (owners offer.nodes)) None, rows_match offers) refl

opening_matches : (w : Setting) → Matches w (opening (rules w)) (empty w)
unfolding opening empty
opening_matches w = record {
  told = refl;
  sums = refl;
  inputs = rows_match w.offers;
  outputs = length-replicate {A = Option Cipher} (length w.offers) None;
  answers = length-replicate {A = Option (List ℕ)} (length w.offers) None;
}

pub opening_stands : OpeningStands
opening_stands p w seeds setting values free parties = record {
  setting = setting;
  values = values;
  free = free;
  parties = parties;
  kept = opening_kept (rules w);
  grounded = (opening_grounds (rules w) (rules_whole w)).1;
  matches = opening_matches w;
  honest = opening_is_honest w seeds;
}
