-- A step keeps the invariant; at the end the last remainder is the greatest common divisor.
use Rattle.std.proofs.Common.{◌≡◌, ℕ, ◌*◌, ◌%◌, refl, subst, sym, ap, ◌∙◌, arith}
use Rattle.std.specs.Int.{IsGcd}
use Rattle.std.proofs.lemmas.Nat.Gcd.{IsGcd-from_zero, IsGcd-from_mod, IsGcd-swap, same_from_IsGcd}
use Rattle.mod_inverse.proofs.Steps.{step_agrees}
use Rattle.mod_inverse.proofs.euclid.inverse.Goals as goal

pub loop-here-preserved : goal.loop-here-preserved
loop-here-preserved c =
    let q = c.args.q in let x = c.args.x in
    let above = c.loop-here.above in let here = c.loop-here.here in
    let i = c.loop-here.invariant in let e = c.next-below.ensures in
    record {
      above_below = i.here_below;
      here_below = omega (arith, e.factor);
      within = i.here_within;
      here_within = omega (arith, e.remainder);
      above_agrees = i.here_agrees;
      here_agrees =
          ap (λ (z : ℕ). z * x % q) e.factor
          ∙ step_agrees q x above.remainder above.factor here.remainder here.factor (omega arith) (omega arith) i.above_agrees i.here_agrees
          ∙ ap (λ (z : ℕ). z % q) (sym e.remainder);
      divisor = λ g h. i.divisor g (IsGcd-from_mod above.remainder here.remainder g (let P : ℕ → Type 0 = λ z. IsGcd here.remainder z g in subst P e.remainder h));
    }

pub returns-then-above-eq1-clause-exactly : goal.returns-then-above-eq1-clause-exactly
returns-then-above-eq1-clause-exactly c =
    let last = c.loop-here.above.remainder in
    let one : last ≡ 1 = omega arith in
    let P : ℕ → Type 0 = λ z. IsGcd c.args.q c.args.x z in
    let found = subst P one (c.loop-here.invariant.divisor last (IsGcd-from_zero last c.loop-here.here.remainder (omega arith))) in
    ((λ e. IsGcd-swap c.args.q c.args.x 1 found), (λ h. refl))

pub returns-else-above-eq1-clause-exactly : goal.returns-else-above-eq1-clause-exactly
returns-else-above-eq1-clause-exactly c =
    let last = c.loop-here.above.remainder in
    let found = c.loop-here.invariant.divisor last (IsGcd-from_zero last c.loop-here.here.remainder (omega arith)) in
    ((λ e. cc), (λ h. let one : last ≡ 1 = same_from_IsGcd c.args.q c.args.x last 1 found (IsGcd-swap c.args.x c.args.q 1 h) in absurd (omega arith)))
