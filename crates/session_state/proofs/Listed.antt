-- Lists that are put together item by item, each item made from one of another list.
use Rattle.std.proofs.Common.{◌≡◌, ◌∙◌, sym, ap, refl, ℕ, zero, suc, ◌+◌, ◌<◌, List, [], ◌∷◌, ◌++◌, length, map, take, get_or, replicate, Option, None}
use Rattle.std.proofs.lemmas.List.{take_more, map-append}
use Rattle.std.specs.declared.alloc.Global.{Global}
use Rattle.std.specs.declared.sync.Arc.{Arc}
use Rattle.ring_spec.specs.Pairs.{Cipher}
use Rattle.param_set.specs.Numbers.{Numbers}
use Rattle.session_rules.specs.declared.fixed.Plan.{Plan}
use Rattle.session_rules.specs.Fixing.{plan_of}
use Rattle.session_rules.specs.States.{none_given}
use Rattle.session_spec.specs.Settings.{Offer, nodes_of, no_offer}
use Rattle.session_spec.specs.Stores.{no_inputs}
use Rattle.session_state.specs.Parts.{ciphers_in}

-- what is made of the items up to one more
mapped_more : {X Y : Type 0} (f : X → Y) (xs : List X) (k : ℕ) (d : X) → k < length xs → map f (take (k + 1) xs) ≡ map f (take k xs) ++ f (get_or xs k d) ∷ []
mapped_more f xs k d l = ap (map f) (take_more xs k d l) ∙ map-append f (take k xs) (get_or xs k d ∷ [])

pub plans_more : (p : Numbers) (offers : List Offer) (k : ℕ) → k < length offers
    → map (plan_of p) (map nodes_of (take (k + 1) offers)) ≡ map (plan_of p) (map nodes_of (take k offers)) ++ plan_of p (get_or offers k no_offer).nodes ∷ []
plans_more p offers k l = ap (map (plan_of p)) (mapped_more nodes_of offers k no_offer l) ∙ map-append (plan_of p) (map nodes_of (take k offers)) ((get_or offers k no_offer).nodes ∷ [])

pub flags_more : (plans : List Plan) (k : ℕ) (d : Plan) → k < length plans → map none_given (take (k + 1) plans) ≡ map none_given (take k plans) ++ none_given (get_or plans k d) ∷ []
flags_more plans k d l = mapped_more none_given plans k d l

-- places of no inputs
pub empty_places : (n : ℕ) → ciphers_in (replicate n None) ≡ replicate n None
empty_places zero = refl
empty_places (suc n) = ap (λ (z : List (Option Cipher)). None ∷ z) (empty_places n)

pub inputs_more : (inputs : List (List (Option (Arc Cipher Global)))) (offers : List Offer) (k n : ℕ) → map ciphers_in inputs ≡ map no_inputs (take k offers) → k < length offers
    → no_inputs (get_or offers k no_offer) ≡ replicate n None → map ciphers_in (inputs ++ replicate n None ∷ []) ≡ map no_inputs (take (k + 1) offers)
inputs_more inputs offers k n e l same =
    map-append ciphers_in inputs (replicate n None ∷ [])
    ∙ ap (λ (z : List (Option Cipher)). map ciphers_in inputs ++ z ∷ []) (empty_places n ∙ sym same)
    ∙ ap (λ (z : List (List (Option Cipher))). z ++ no_inputs (get_or offers k no_offer) ∷ []) e
    ∙ sym (mapped_more no_inputs offers k no_offer l)
