-- The refused circuits are those that began so.
use Rattle.std.proofs.Common.{◌≡◌, ◌∙◌, sym, ap, refl, ℕ, false, List}
use Rattle.std.specs.Prelude.{◌↔◌}
use Rattle.noise_ledger.specs.declared.over.Place.{Place}
use Rattle.session_rules.specs.declared.call.Entry.{Entry}
use Rattle.session_rules.specs.declared.state.CircuitState.{CircuitState}
use Rattle.session_rules.specs.declared.state.CircuitState.TheVariants.{Refused, Idle, Taken, Evaluated, Answered}
use Rattle.session_rules.specs.declared.fixed.Fixed.{Fixed}
use Rattle.session_rules.specs.States.{circuit, plan, is_refused}
use Rattle.session_rules.specs.Histories.{state_after}
use Rattle.session_rules.proofs.Grounds.{refused_ones_began_so}

pub stays_refused : (f : Fixed) (es : List Entry) (c : ℕ) (place : Place) (bound limit : ℕ) → (plan f c).opening ≡ Refused place bound limit
    → circuit (state_after f es).circuits c ≡ Refused place bound limit
stays_refused f es c place bound limit e = (refused_ones_began_so f es c place bound limit).1 e

-- what is never refused where another is not isn't refused
never : (x y : CircuitState) → is_refused x ≡ false → ((place : Place) (bound limit : ℕ) → y ≡ Refused place bound limit → x ≡ Refused place bound limit) → false ≡ is_refused y
never x (Refused place bound limit) e h = sym e ∙ ap is_refused (h place bound limit refl)
never x Idle e h = refl
never x (Taken who) e h = refl
never x Evaluated e h = refl
never x Answered e h = refl

both_or_neither : (x y : CircuitState) → ((place : Place) (bound limit : ℕ) → (x ≡ Refused place bound limit) ↔ (y ≡ Refused place bound limit)) → is_refused x ≡ is_refused y
both_or_neither (Refused place bound limit) y h = sym (ap is_refused ((h place bound limit).0 refl))
both_or_neither Idle y h = never Idle y refl (λ place bound limit. (h place bound limit).1)
both_or_neither (Taken who) y h = never (Taken who) y refl (λ place bound limit. (h place bound limit).1)
both_or_neither Evaluated y h = never Evaluated y refl (λ place bound limit. (h place bound limit).1)
both_or_neither Answered y h = never Answered y refl (λ place bound limit. (h place bound limit).1)

pub others_are_not_refused : (f : Fixed) (es : List Entry) (c : ℕ) → is_refused (circuit (state_after f es).circuits c) ≡ is_refused (plan f c).opening
others_are_not_refused f es c = both_or_neither (circuit (state_after f es).circuits c) (plan f c).opening (refused_ones_began_so f es c)
