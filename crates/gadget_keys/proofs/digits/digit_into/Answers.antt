-- The loop has written the digit of each coefficient.
use Rattle.std.proofs.Common.{◌≡◌, ◌+◌, ◌<◌, sym, subst, ap, length, arith}
use Rattle.std.proofs.lemmas.Grind.{common_steps}
use Rattle.mod_ring.proofs.Filled.{Filled, Filled-start, Filled-next}
use Rattle.gadget_keys.proofs.Written.{entry, entry_is, written_is, digits_fit}
use Rattle.gadget_keys.proofs.digits.digit_into.Goals as goal

pub loop-k-init : goal.loop-k-init
loop-k-init c = record {
  places = c.requires.places;
  written = Filled-start (entry c.args.ring.now.params c.args.f.now c.args.row) c.args.out.now;
}

pub set-requires : goal.set-requires
set-requires c =
    omega (arith, c.loop-k.invariant.places, c.loop-k-test.true, c.requires.poly.entries, ap length c.coeffs-coeffs.ensures)

pub loop-k-preserved : goal.loop-k-preserved
loop-k-preserved c =
    let p = c.args.ring.now.params in let d = c.new-digit.result in let k = c.loop-k.k in let out = c.loop-k.out in
    let here : c.of.result ≡ entry p c.args.f.now c.args.row k =
    entry_is p c.args.f.now c.coeffs-coeffs.result.now c.args.row k d.modulus d.bits d.rows d.row d.balanced c.of.result
    c.coeffs-coeffs.ensures (grind arith) (grind arith) (grind arith) (grind arith) (grind arith) c.of.ensures in
    let within : k < length out =
    omega (arith, c.loop-k.invariant.places, c.loop-k-test.true, c.requires.poly.entries, ap length c.coeffs-coeffs.ensures) in
    record {
      places = grind (arith, common_steps);
      written = subst (λ now. Filled (entry p c.args.f.now c.args.row) c.args.out.now now (k + 1)) (sym c.set.ensures)
          (Filled-next (entry p c.args.f.now c.args.row) c.args.out.now out k c.of.result within here c.loop-k.invariant.written);
    }

pub returns-clause-value : goal.returns-clause-value
returns-clause-value c =
    written_is c.args.ring.now.params c.args.f.now c.args.out.now c.loop-k.out c.args.row c.loop-k.k c.loop-k.invariant.places
    (omega (arith, c.loop-k-test.false, c.requires.poly.entries, ap length c.coeffs-coeffs.ensures)) c.loop-k.invariant.written

pub returns-clause-fits : goal.returns-clause-fits
returns-clause-fits c = digits_fit c.args.ring.now.params c.args.f.now c.loop-k.out c.args.row (returns-clause-value c)
