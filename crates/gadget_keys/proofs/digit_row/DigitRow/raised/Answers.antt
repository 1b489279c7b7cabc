-- Twice what is added is no less than the modulus.
use Rattle.std.proofs.Common.{◌*◌, ◌^◌, ◌≤◌, arith}
use Rattle.std.specs.Prelude.{pos, ◌-ℤ◌, nat_lt}
use Rattle.std.proofs.lemmas.Bool.{cond-true, cond-false, lt-ltb, le-ltb}
use Rattle.ring_spec.specs.Ring.{centre}
use borrow.Author.Differences.{ints}
use Rattle.gadget_keys.specs.declared.digit_row.DigitRow.{DigitRow}
use Rattle.gadget_keys.proofs.Places.{halves_within, halves_cover}
use Rattle.gadget_keys.proofs.digit_row.DigitRow.raised.Goals as goal

few : (r : DigitRow) → r.raise ≤ 2 ^ 70
few r = let h = halves_within r.bits r.rows r.few_bits.0 r.places.1 in omega (arith, h, r.halves)

enough : (r : DigitRow) → r.modulus ≤ 2 * r.raise
enough r = let h = halves_cover r.modulus r.bits r.rows r.few_bits.0 r.places.2 in omega (arith, h, r.halves)

pub overflow_add-result : goal.overflow_add-result
overflow_add-result c = omega (arith, few c.args.self.now, c.requires, c.args.self.now.word.1)

pub overflow_add-result-else-x-self : goal.overflow_add-result-else-x-self
overflow_add-result-else-x-self c = omega (arith, few c.args.self.now, c.requires, c.args.self.now.word.1)

pub overflow_sub-result : goal.overflow_sub-result
overflow_sub-result c = omega (arith, enough c.args.self.now, c.if-x-self.false)

pub returns-then-x-self : goal.returns-then-x-self
unfolding centre
returns-then-x-self c =
    let q = c.args.self.now.modulus in let x = c.args.x in
    rw (cond-true (nat_lt (2 * x) q) (pos x) (pos x -ℤ pos q) (lt-ltb (2 * x) q c.if-x-self.true)) (omega (arith, ints))

pub returns-else-x-self : goal.returns-else-x-self
unfolding centre
returns-else-x-self c =
    let q = c.args.self.now.modulus in let x = c.args.x in
    let e = enough c.args.self.now in
    rw (cond-false (nat_lt (2 * x) q) (pos x) (pos x -ℤ pos q) (le-ltb (2 * x) q c.if-x-self.false)) (omega (arith, ints, e, c.if-x-self.false))
