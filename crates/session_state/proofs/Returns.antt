-- A circuit that is given back.
use Rattle.std.proofs.Common.{◌≡◌, ◌∙◌, sym, ap, subst, refl, ℕ, ◌<◌, true, inl, inr, [], length, set, length-set, arith}
use Rattle.std.proofs.lemmas.Bool.{both_ways, cases_eq}
use Rattle.std.proofs.lemmas.List.{get_or-set_same, get_or-set_other}
use Rattle.param_set.specs.declared.params.Params.{Params}
use Rattle.session_rules.specs.declared.state.CircuitState.{CircuitState}
use Rattle.session_rules.specs.declared.state.CircuitState.TheVariants.{Idle, Answered}
use Rattle.session_rules.specs.States.{State, seen, circuit}
use Rattle.session_rules.specs.Deeds.{with_circuit}
use Rattle.session_rules.specs.Steps.{give_back}
use Rattle.session_rules.specs.Facts.{is_settled}
use Rattle.session_spec.specs.Stores.{Store}
use Rattle.session_state.specs.Parts.{Holds}

-- how far the circuits have come is all that is looked at
pub return_seen : (s : State) (caller c : ℕ) → give_back (seen 0 [] [] s.circuits) caller c ≡ give_back s caller c
unfolding give_back
return_seen s caller c = refl

-- what holds once it is idle
pub idle_holds : (p : Params) (s : State) (h : Store) (c : ℕ) → c < length s.circuits → Holds p s h → Holds p (with_circuit s c Idle) h
idle_holds p s h c within holds =
    let now : circuit (set s.circuits c Idle) c ≡ Idle = get_or-set_same s.circuits c Idle Answered within in
    let before : (d : ℕ) → is_settled (circuit (set s.circuits c Idle) d) ≡ true → circuit (set s.circuits c Idle) d ≡ circuit s.circuits d = λ d e. elim (cases_eq d c) [
      | inr other ↦ get_or-set_other s.circuits c d Idle Answered other
      | inl same ↦ absurd (both_ways (is_settled (circuit (set s.circuits c Idle) d)) (rw same (ap (λ (z : CircuitState). is_settled z) now)) e)
    ] in
    record {
      told = holds.told;
      inputs = holds.inputs;
      outputs = λ d m e. holds.outputs d (omega (arith, length-set s.circuits c Idle)) (subst (λ (z : CircuitState). is_settled z ≡ true) (before d e) e);
      answers = λ d m e. holds.answers d (omega (arith, length-set s.circuits c Idle)) (sym (before d (ap (λ (z : CircuitState). is_settled z) e)) ∙ e);
    }
