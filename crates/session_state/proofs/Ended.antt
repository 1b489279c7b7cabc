-- What a standing has once a circuit is evaluated and its output is there.
use Rattle.std.proofs.Common.{◌≡◌, ◌∙◌, sym, ap, subst, refl, ℕ, ◌<◌, true, inl, inr, List, length, get_or, set, Option, Some, None, arith, length-set}
use Rattle.std.proofs.lemmas.Bool.{cases_eq}
use Rattle.std.proofs.lemmas.List.{get_or-set_same, get_or-set_other}
use Rattle.ring_spec.specs.Pairs.{Cipher, CipherFits}
use Rattle.param_set.specs.declared.params.Params.{Params}
use Rattle.proto_names.specs.declared.instance.Instance.{Instance}
use Rattle.session_rules.specs.declared.state.CircuitState.TheVariants.{Evaluated, Answered}
use Rattle.session_rules.specs.States.{State, circuit}
use Rattle.session_rules.specs.Deeds.{with_circuit}
use Rattle.session_rules.specs.Facts.{is_settled}
use Rattle.session_spec.specs.Settings.{Setting}
use Rattle.session_spec.specs.Stores.{Store, held_output, held_key, with_output}
use Rattle.session_spec.specs.Honesty.{Matches}
use Rattle.session_state.specs.Parts.{HasCipher, Holds}

pub ended_matches : (w : Setting) (s : State) (h : Store) (c : ℕ) (ct : Cipher) → Matches w s h → Matches w (with_circuit s c Evaluated) (with_output c ct h)
unfolding with_output
ended_matches w s h c ct m = record {
  told = m.told;
  sums = m.sums;
  inputs = m.inputs;
  outputs = length-set h.outputs c (Some ct) ∙ m.outputs;
  answers = m.answers;
}

module _ (p : Params) (s : State) (h : Store) (c : ℕ) (ct : Cipher) (fits : CipherFits p.q p.n ct) (place : c < length h.outputs) (there : c < length s.circuits) (o : Holds p s h) where
  -- each circuit that is settled then has its output
  ended_output : (d : ℕ) → d < length s.circuits → is_settled (circuit (set s.circuits c Evaluated) d) ≡ true → HasCipher p (held_output (with_output c ct h) d)
  unfolding with_output
  ended_output d n settled = elim (cases_eq d c) [
    | inl same ↦
        let here : get_or (set h.outputs c (Some ct)) d None ≡ Some ct = ap (λ (k : ℕ). get_or (set h.outputs c (Some ct)) k None) same ∙ get_or-set_same h.outputs c (Some ct) None place in
        subst (λ (z : Option Cipher). HasCipher p z) (sym here) (record { there = refl; fits = fits })
    | inr other ↦
        subst (λ (z : Option Cipher). HasCipher p z) (sym (get_or-set_other h.outputs c d (Some ct) None other))
        (o.outputs d n (sym (ap is_settled (get_or-set_other s.circuits c d Evaluated Answered other)) ∙ settled))
  ]

  -- and the answered ones are the same
  answered_before : (d : ℕ) → circuit (set s.circuits c Evaluated) d ≡ Answered → circuit s.circuits d ≡ Answered
  answered_before d answered = elim (cases_eq d c) [
    | inl same ↦
        let here : get_or (set s.circuits c Evaluated) d Answered ≡ Evaluated = ap (λ (k : ℕ). get_or (set s.circuits c Evaluated) k Answered) same ∙ get_or-set_same s.circuits c Evaluated Answered there in
        let e : Evaluated ≡ Answered = sym here ∙ answered in
        cc
    | inr other ↦ sym (get_or-set_other s.circuits c d Evaluated Answered other) ∙ answered
  ]

  pub ended_holds : Holds p (with_circuit s c Evaluated) (with_output c ct h)
  unfolding with_output
  ended_holds =
      let many = length-set s.circuits c Evaluated in
      record {
        told = o.told;
        inputs = o.inputs;
        outputs = λ d m e. ended_output d (omega arith) e;
        answers = λ d m e. o.answers d (omega arith) (answered_before d e);
      }

pub ended_key : (w : Setting) (h : Store) (c : ℕ) (ct : Cipher) (is : List Instance) → held_key w (with_output c ct h) is ≡ held_key w h is
unfolding held_key with_output
ended_key w h c ct is = refl
