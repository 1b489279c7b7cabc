-- What is needed: no decryption is a key, and a first round is one of them at most.
use Rattle.std.proofs.Common.{◌≡◌, subst, ℕ, Bool, true, false, cond, inl, inr, List, [], ◌∷◌, ◌++◌, map, Contains}
use Rattle.std.specs.List.{list_any}
use Rattle.std.proofs.lemmas.List.Elements.{Contains-append_cases}
use Rattle.proto_names.specs.declared.signature.Signature.{Signature}
use Rattle.proto_names.specs.declared.signature.Signature.TheVariants.{Pk, Rlk1, Rlk2, Rot, Dec}
use Rattle.session_rules.specs.declared.state.CircuitState.{CircuitState}
use Rattle.session_rules.specs.declared.state.CircuitState.TheVariants.{Evaluated}
use Rattle.session_rules.specs.declared.fixed.Fixed.{Fixed}
use Rattle.session_rules.specs.States.{circuit}
use Rattle.session_rules.specs.Issues.{keys, wants_key, wants_relin}
use Rattle.session_rules.proofs.Contained.{contains_nil, contains_cases, contains_map_from}
use Rattle.session_rules.proofs.MoveKinds.{IsNeeded, key, decryption}

in_first : (b : Bool) (σ : Signature) (c : ℕ) → Contains (cond b (Pk ∷ []) []) σ → σ ≡ Dec c → ⊥
in_first true σ c m e = elim (contains_cases Pk [] σ m) [
  | inl is ↦ cc
  | inr none ↦ contains_nil σ none
]
in_first false σ c m e = contains_nil σ m

in_second : (b : Bool) (σ : Signature) (c : ℕ) → Contains (cond b (Rlk1 ∷ Rlk2 ∷ []) []) σ → σ ≡ Dec c → ⊥
in_second true σ c m e = elim (contains_cases Rlk1 (Rlk2 ∷ []) σ m) [
  | inl is ↦ cc
  | inr rest ↦ elim (contains_cases Rlk2 [] σ rest) [
    | inl is ↦ cc
    | inr none ↦ contains_nil σ none
  ]
]
in_second false σ c m e = contains_nil σ m

in_turns : (turns : List ℕ) (σ : Signature) (c : ℕ) → Contains (map Rot turns) σ → σ ≡ Dec c → ⊥
in_turns turns σ c m e = let x = contains_map_from Rot turns σ m in let y = x.same in cc

pub keys_decrypt_nothing : (f : Fixed) (σ : Signature) (c : ℕ) → Contains (keys f) σ → σ ≡ Dec c → ⊥
unfolding keys
keys_decrypt_nothing f σ c m e =
    let A = cond (list_any wants_key f.plans) (Pk ∷ []) [] in
    let B = cond (list_any wants_relin f.plans) (Rlk1 ∷ Rlk2 ∷ []) [] in
    elim (Contains-append_cases (A ++ B) (map Rot f.turns) σ m) [
      | inl front ↦ elim (Contains-append_cases A B σ front) [
        | inl first ↦ in_first (list_any wants_key f.plans) σ c first e
        | inr second ↦ in_second (list_any wants_relin f.plans) σ c second e
      ]
      | inr turns ↦ in_turns f.turns σ c turns e
    ]

-- a decryption is needed where its circuit is evaluated
pub needed_evaluated : (f : Fixed) (circuits : List CircuitState) (σ : Signature) (c : ℕ) → IsNeeded f circuits σ → σ ≡ Dec c → circuit circuits c ≡ Evaluated
needed_evaluated f circuits σ c (key m) e = absurd (keys_decrypt_nothing f σ c m e)
needed_evaluated f circuits σ c (decryption d its m evaluated) e =
    let same : d ≡ c = cc in subst (λ (z : ℕ). circuit circuits z ≡ Evaluated) same evaluated
