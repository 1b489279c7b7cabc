-- Circuits that need no key switch ask for the public key alone.
use Rattle.std.proofs.Common.{◌≡◌, ◌∙◌, sym, ap, subst, refl, ℕ, zero, suc, ◌*◌, ◌<◌, Bool, true, false, not, cond, ◌&&◌, ◌||◌, nat_eq, inl, inr, List, [], ◌∷◌, ◌++◌, length, map, filter, get_or, Contains, arith}
use Rattle.std.specs.Prelude.{All}
use Rattle.std.specs.List.{range_with_len, list_any}
use Rattle.std.proofs.lemmas.Bool.{and_parts, not-true}
use Rattle.std.proofs.lemmas.List.{get_or-map, length-map}
use Rattle.std.proofs.lemmas.List.Elements.{All-contains, All-cons, All-nil, All-from_get_or, All-get_or}
use Rattle.std.proofs.lemmas.List.Folds.{list_any_none}
use Rattle.param_set.specs.declared.params.Params.{Params}
use Rattle.param_set.specs.Numbers.{Numbers, numbers_of}
use Rattle.circuit_form.specs.declared.node.Node.{Node}
use Rattle.circuit_form.specs.declared.node.Node.TheVariants.{Input, Const, Add, Sub, Neg, Mul, Rot}
use Rattle.circuit_form.specs.Circuits.{has_product, is_turn}
use Rattle.cipher_spec.specs.Ciphers.{is_switch_free, is_rotation}
use Rattle.proto_names.specs.declared.signature.Signature.{Signature}
use Rattle.proto_names.specs.declared.signature.Signature.TheVariants.{Pk, Rlk1, Rlk2}
use Rattle.proto_names.specs.declared.signature.Signature.TheVariants as signature
use Rattle.session_rules.specs.declared.fixed.Plan.{Plan}
use Rattle.session_rules.specs.States.{no_plan, is_admitted}
use Rattle.session_rules.specs.Issues.{keys, wants_key, wants_relin}
use Rattle.session_rules.specs.Fixing.{plan_of, fixed_from, rotates, admits_turn, is_turned}
use Rattle.session_spec.specs.Settings.{Offer, nodes_of, no_offer, rules, IsSwitchFree}
use Rattle.session_state.specs.Parts.{setting_by}

-- ---- what a plan of such a circuit needs

not_turned : (g : ℕ) (node : Node) → is_rotation node ≡ false → is_turn g node ≡ false
not_turned g (Input owner) e = refl
not_turned g (Const value) e = refl
not_turned g (Add left right) e = refl
not_turned g (Sub left right) e = refl
not_turned g (Neg of) e = refl
not_turned g (Mul left right) e = refl
not_turned g (Rot h of) e = cc

no_rotation : (g : ℕ) (nodes : List Node) → list_any is_rotation nodes ≡ false → list_any (is_turn g) nodes ≡ false
no_rotation g [] e = refl
no_rotation g (node ∷ rest) e = at (no_rotation g rest) (is_rotation node) refl e
  where
    at : (list_any is_rotation rest ≡ false → list_any (is_turn g) rest ≡ false) → (b : Bool) → is_rotation node ≡ b → (b || list_any is_rotation rest) ≡ false
        → (is_turn g node || list_any (is_turn g) rest) ≡ false
    at later true z y = cc
    at later false z y = rw (not_turned g node z) (later y)

filter_none : (test : ℕ → Bool) (xs : List ℕ) → ((x : ℕ) → test x ≡ false) → filter test xs ≡ []
filter_none test [] none = refl
filter_none test (x ∷ xs) none = rw (none x) (filter_none test xs none)

record NeedsOnlyPk (p : Numbers) (nodes : List Node) : Type 0 where
  product : (plan_of p nodes).product ≡ false
  turns : (plan_of p nodes).turns ≡ []

needs_none : (p : Numbers) (nodes : List Node) → is_switch_free nodes ≡ true → NeedsOnlyPk p nodes
unfolding is_switch_free plan_of
needs_none p nodes e =
    let both = and_parts (not (has_product nodes)) (not (list_any is_rotation nodes)) e in
    record {
      product = not-true (has_product nodes) both.0;
      turns = filter_none (rotates nodes) (range_with_len 0 (2 * p.n)) (λ g. no_rotation g nodes (not-true (list_any is_rotation nodes) both.1));
    }

-- no plan passes a test that none does whose circuit needs no key switch
no_plan_passes : (p : Params) (offers : List Offer) (test : Plan → Bool) → All IsSwitchFree offers
    → ((nodes : List Node) → NeedsOnlyPk (numbers_of p) nodes → test (plan_of (numbers_of p) nodes) ≡ false) → list_any test (map (plan_of (numbers_of p)) (map nodes_of offers)) ≡ false
no_plan_passes p offers test free none =
    let q = numbers_of p in
    let nodes = map nodes_of offers in
    let plans = map (plan_of q) nodes in
    list_any_none test plans (All-from_get_or (λ x. test x ≡ false) plans no_plan (λ k l.
    let less : k < length offers = omega (arith, length-map nodes (plan_of q), length-map offers nodes_of) in
    let within : k < length nodes = omega (arith, length-map offers nodes_of) in
    let its = All-get_or IsSwitchFree offers k no_offer less free in
    let at : get_or plans k no_plan ≡ plan_of q (get_or offers k no_offer).nodes =
    get_or-map (plan_of q) nodes k [] no_plan within ∙ ap (plan_of q) (get_or-map nodes_of offers k no_offer [] less) in
    ap test at ∙ none (get_or offers k no_offer).nodes (needs_none q (get_or offers k no_offer).nodes its)))

wants_none : (p : Numbers) (nodes : List Node) → NeedsOnlyPk p nodes → wants_relin (plan_of p nodes) ≡ false
wants_none p nodes n = at (is_admitted (plan_of p nodes))
  where
    at : (b : Bool) → (b && (plan_of p nodes).product) ≡ false
    at true = n.product
    at false = refl

turns_none : (p : Numbers) (g : ℕ) (nodes : List Node) → NeedsOnlyPk p nodes → admits_turn g (plan_of p nodes) ≡ false
turns_none p g nodes n = at (is_admitted (plan_of p nodes))
  where
    at : (b : Bool) → (b && list_any (nat_eq g) (plan_of p nodes).turns) ≡ false
    at true = ap (λ (z : List ℕ). list_any (nat_eq g) z) n.turns
    at false = refl

-- a key for the inputs, and no other
abbrev key_if : Bool → List Signature
key_if b = cond b (Pk ∷ []) []

pub no_turns : (p : Params) (public : List ℕ) (offers : List Offer) → All IsSwitchFree offers → (rules (setting_by p public offers)).turns ≡ []
unfolding rules fixed_from
no_turns p public offers free =
    let plans = map (plan_of (numbers_of p)) (map nodes_of offers) in
    filter_none (is_turned plans) (range_with_len 0 (2 * p.n)) (λ g. no_plan_passes p offers (admits_turn g) free (turns_none (numbers_of p) g))

rules_relin : (p : Params) (public : List ℕ) (offers : List Offer) → All IsSwitchFree offers → list_any wants_relin (rules (setting_by p public offers)).plans ≡ false
unfolding rules fixed_from
rules_relin p public offers free = no_plan_passes p offers wants_relin free (wants_none (numbers_of p))

keys_are : (p : Params) (public : List ℕ) (offers : List Offer) → All IsSwitchFree offers
    → keys (rules (setting_by p public offers)) ≡ key_if (list_any wants_key (rules (setting_by p public offers)).plans) ++ [] ++ []
unfolding keys
keys_are p public offers free =
    let f = rules (setting_by p public offers) in
    let first = key_if (list_any wants_key f.plans) in
    ap (λ (b : Bool). first ++ cond b (Rlk1 ∷ Rlk2 ∷ []) [] ++ map signature.Rot f.turns) (rules_relin p public offers free)
    ∙ ap (λ (z : List ℕ). first ++ [] ++ map signature.Rot z) (no_turns p public offers free)

-- so each key that is needed is the public one
abbrev IsPk : Signature → Type 0
IsPk σ = σ ≡ Pk

one_key : (b : Bool) → All IsPk (key_if b ++ [] ++ [])
one_key false = All-nil IsPk
one_key true = All-cons IsPk Pk [] refl (All-nil IsPk)

pub only_pk : (p : Params) (public : List ℕ) (offers : List Offer) (σ : Signature) → All IsSwitchFree offers → Contains (keys (rules (setting_by p public offers))) σ → σ ≡ Pk
only_pk p public offers σ free within =
    let f = rules (setting_by p public offers) in
    All-contains IsPk (keys f) σ (subst (λ (σs : List Signature). All IsPk σs) (sym (keys_are p public offers free)) (one_key (list_any wants_key f.plans))) within
