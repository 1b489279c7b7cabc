-- What a completed instance leaves as it was, and how many keys are needed.
use Rattle.std.proofs.Common.{◌≡◌, ◌∙◌, sym, ap, refl, ℕ, ◌≤◌, Bool, true, false, cond, inl, inr, List, [], ◌∷◌, ◌++◌, map, length, length-set, arith}
use Rattle.std.specs.List.{list_any}
use Rattle.std.proofs.lemmas.List.{length-map}
use Rattle.proto_names.specs.Instances.{counted_at, after_share}
use Rattle.proto_names.specs.declared.signature.Signature.{Signature}
use Rattle.proto_names.specs.declared.signature.Signature.TheVariants.{Pk, Rlk1, Rlk2, Rot, Dec}
use Rattle.proto_names.specs.declared.instance.Instance.{Instance}
use Rattle.session_rules.specs.declared.fixed.Fixed.{Fixed}
use Rattle.session_rules.specs.declared.state.CircuitState.{CircuitState}
use Rattle.session_rules.specs.declared.state.CircuitState.TheVariants.{Evaluated, Answered}
use Rattle.session_rules.specs.States.{circuit}
use Rattle.session_rules.specs.Issues.{wants_key, wants_relin, keys}
use Rattle.session_rules.specs.Deeds.{answered_by}
use Rattle.session_rules.proofs.Shares.{decides_dec, answered_its, answered_other}
use Rattle.session_spec.specs.Settings.{Setting}
use Rattle.session_spec.specs.Stores.{Store, with_rows, with_answer}
use Rattle.session_state.specs.Completions.{HasSumsAlone}
use Rattle.session_state.specs.declared.standing.Standing.{Standing}

pub same_number : (id p : ℕ) (is : List Instance) → length (after_share id p is) ≡ length is
unfolding after_share
same_number id p is = length-map is (counted_at id p)

-- ---- circuits, once a decryption is complete

pub answered_length : (σ : Signature) (circuits : List CircuitState) → length (answered_by σ circuits) ≡ length circuits
unfolding answered_by
answered_length Pk circuits = refl
answered_length Rlk1 circuits = refl
answered_length Rlk2 circuits = refl
answered_length (Rot g) circuits = refl
answered_length (Dec c) circuits = length-set circuits c Answered

-- one that is evaluated then was evaluated
pub evaluated_before : (σ : Signature) (circuits : List CircuitState) (c : ℕ) → circuit (answered_by σ circuits) c ≡ Evaluated → circuit circuits c ≡ Evaluated
evaluated_before σ circuits c e = elim (decides_dec σ c) [
  | inl its ↦ let answered = answered_its σ circuits c its in cc
  | inr other ↦ sym (answered_other σ circuits c other) ∙ e
]

-- ---- the store

pub answer_outputs : (w : Setting) (id : ℕ) (σ : Signature) (h : Store) → (with_answer w id σ h).outputs ≡ h.outputs
unfolding with_answer
answer_outputs w id Pk h = refl
answer_outputs w id Rlk1 h = refl
answer_outputs w id Rlk2 h = refl
answer_outputs w id (Rot g) h = refl
answer_outputs w id (Dec c) h = refl

pub rows_outputs : (w : Setting) (id : ℕ) (rows : List (List ℕ)) (h : Store) → (with_rows w id rows h).outputs ≡ h.outputs
unfolding with_rows
rows_outputs w id rows h = refl

pub answer_sums : (w : Setting) (id : ℕ) (σ : Signature) (h : Store) → (with_answer w id σ h).sums ≡ h.sums
unfolding with_answer
answer_sums w id Pk h = refl
answer_sums w id Rlk1 h = refl
answer_sums w id Rlk2 h = refl
answer_sums w id (Rot g) h = refl
answer_sums w id (Dec c) h = refl

-- where the instance gives nothing but its sums
pub sums_answer : (w : Setting) (id : ℕ) (σ : Signature) (h : Store) → HasSumsAlone σ → with_answer w id σ h ≡ h
unfolding with_answer
sums_answer w id Pk h alone = absurd alone
sums_answer w id Rlk1 h alone = refl
sums_answer w id Rlk2 h alone = refl
sums_answer w id (Rot g) h alone = refl
sums_answer w id (Dec c) h alone = absurd alone

-- ---- the keys that are needed

pub few_keys : (f : Fixed) → length f.turns ≤ 16 → length (keys f) ≤ 19
unfolding keys
few_keys f few = at (list_any wants_key f.plans) (list_any wants_relin f.plans)
  where
    at : (a b : Bool) → length (cond a (Pk ∷ []) [] ++ cond b (Rlk1 ∷ Rlk2 ∷ []) [] ++ map Rot f.turns) ≤ 19
    at true true = omega (arith, length-map f.turns Rot)
    at true false = omega (arith, length-map f.turns Rot)
    at false true = omega (arith, length-map f.turns Rot)
    at false false = omega (arith, length-map f.turns Rot)

pub needed_few : (st : Standing) → length st.needed.items ≤ 32
needed_few st =
    let few = few_keys st.rules st.few_turns in
    let same = ap length st.needed_are in
    omega arith
