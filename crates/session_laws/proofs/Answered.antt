-- An answer changes the answers alone, and of these its own circuit's.
use Rattle.std.proofs.Common.{◌≡◌, sym, ap, refl, ℕ, ◌<◌, length, Some, None}
use Rattle.std.proofs.lemmas.List.{get_or-set_same, get_or-set_other}
use Rattle.proto_names.specs.declared.signature.Signature.{Signature}
use Rattle.proto_names.specs.declared.signature.Signature.TheVariants.{Pk, Rlk1, Rlk2, Rot, Dec}
use Rattle.session_spec.specs.Settings.{Setting}
use Rattle.session_spec.specs.Stores.{Store, held_answer, with_answer, opened}

pub answer_told : (w : Setting) (id : ℕ) (σ : Signature) (h : Store) → (with_answer w id σ h).told ≡ h.told
unfolding with_answer
answer_told w id Pk h = refl
answer_told w id Rlk1 h = refl
answer_told w id Rlk2 h = refl
answer_told w id (Rot g) h = refl
answer_told w id (Dec c) h = refl

pub answer_sums : (w : Setting) (id : ℕ) (σ : Signature) (h : Store) → (with_answer w id σ h).sums ≡ h.sums
unfolding with_answer
answer_sums w id Pk h = refl
answer_sums w id Rlk1 h = refl
answer_sums w id Rlk2 h = refl
answer_sums w id (Rot g) h = refl
answer_sums w id (Dec c) h = refl

pub answer_inputs : (w : Setting) (id : ℕ) (σ : Signature) (h : Store) → (with_answer w id σ h).inputs ≡ h.inputs
unfolding with_answer
answer_inputs w id Pk h = refl
answer_inputs w id Rlk1 h = refl
answer_inputs w id Rlk2 h = refl
answer_inputs w id (Rot g) h = refl
answer_inputs w id (Dec c) h = refl

pub answer_outputs : (w : Setting) (id : ℕ) (σ : Signature) (h : Store) → (with_answer w id σ h).outputs ≡ h.outputs
unfolding with_answer
answer_outputs w id Pk h = refl
answer_outputs w id Rlk1 h = refl
answer_outputs w id Rlk2 h = refl
answer_outputs w id (Rot g) h = refl
answer_outputs w id (Dec c) h = refl

pub answer_other : (w : Setting) (id : ℕ) (σ : Signature) (h : Store) (c : ℕ) → (σ ≡ Dec c → ⊥) → held_answer (with_answer w id σ h) c ≡ held_answer h c
unfolding with_answer
answer_other w id Pk h c n = refl
answer_other w id Rlk1 h c n = refl
answer_other w id Rlk2 h c n = refl
answer_other w id (Rot g) h c n = refl
answer_other w id (Dec d) h c n = get_or-set_other h.answers d c (Some (opened w h id d)) None (λ e. n (ap Dec (sym e)))

pub answer_its : (w : Setting) (id : ℕ) (σ : Signature) (h : Store) (c : ℕ) → σ ≡ Dec c → c < length h.answers → held_answer (with_answer w id σ h) c ≡ Some (opened w h id c)
unfolding with_answer
answer_its w id σ h c e l = rw e (get_or-set_same h.answers c (Some (opened w h id c)) None l)
