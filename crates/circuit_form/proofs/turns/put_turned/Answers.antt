-- Each coefficient is added at its place, or taken away at its place less n.
use Rattle.std.proofs.Common.{◌≡◌, ◌*◌, ◌%◌, ◌<◌, length, get_or, refl, sym, ◌∙◌, subst, arith}
use Rattle.std.proofs.lemmas.Grind.{common_steps}
use Rattle.std.proofs.Math.Nat.{zero-mod}
use Rattle.ring_spec.specs.Ring.{residue, total, moved, coefficient, turned}
use Rattle.ring_laws.proofs.Congruences.{residue_below}
use Rattle.circuit_form.proofs.Terms.{turned_low, turned_high}
use Rattle.circuit_form.proofs.turns.put_turned.Goals as goal
use Rattle.circuit_form.proofs.turns.put_turned.Goals.{then-place-n, else-place-n}

pub terms-init : goal.terms-init
unfolding total residue
terms-init c = record { count = c.requires.count; each = λ k h. c.requires.zeros k h ∙ sym (zero-mod c.args.t) }

pub overflow_add-coeffs : goal.overflow_add-coeffs
overflow_add-coeffs c =
    let f = c.args.f.now in
    let n = length f in
    let t = c.args.t in
    let i = c.terms.i in
    let place = i * c.args.g % (2 * n) in
    let x : get_or f i 0 < t = c.requires.poly.below i 0 (omega arith) in
    let at : get_or c.terms.coeffs place 0 < t =
    subst (λ y. y < t) (sym (c.terms.invariant.each place c.if-place-n.true)) (residue_below t (total i (moved n c.args.g (coefficient f) place)) c.requires.modulus_low) in
    omega (arith, x, at, c.requires.modulus_high)

pub terms-preserved : goal.terms-preserved
terms-preserved c =
    let f = c.args.f.now in
    let n = length f in
    let t = c.args.t in
    let g = c.args.g in
    let i = c.terms.i in
    let place = i * g % (2 * n) in
    let some : 0 < n = omega arith in
    let within : place < 2 * n = omega (arith, some) in
    elim c.if-place-n.branch [
      | then-place-n w ↦
          record {
            count = grind (arith, common_steps);
            each = rw w.coeffs-is (turned_low t n g i place w.reduced.result f c.terms.coeffs c.requires.modulus_low c.terms.invariant.count refl w.if-place-n.true c.terms.invariant.each w.reduced.ensures);
          }
      | else-place-n w ↦
          record {
            count = grind (arith, common_steps);
            each = rw w.coeffs-is (turned_high t n g i place w.reduced-else-place-n.result f c.terms.coeffs c.requires.modulus_low c.terms.invariant.count refl w.if-place-n.false within c.terms.invariant.each w.reduced-else-place-n.ensures);
          }
    ]

pub returns-clause-turned : goal.returns-clause-turned
unfolding turned
returns-clause-turned c = λ k h.
    let f = c.args.f.now in
    let at_end : c.terms.i ≡ length f = omega arith in
    subst (λ m. get_or c.terms.coeffs k 0 ≡ residue c.args.t (total m (moved (length f) c.args.g (coefficient f) k))) at_end (c.terms.invariant.each k h)
