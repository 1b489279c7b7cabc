-- The digit of the number raised is the balanced digit raised, which is at most 2^b.
use Rattle.std.proofs.Common.{◌≡◌, ℕ, ◌+◌, ◌-◌, ◌*◌, ◌/◌, ◌%◌, ◌^◌, ◌<◌, ◌≤◌, ◌∙◌, sym, ap, arith}
use Rattle.std.specs.Prelude.{pos, ◌+ℤ◌, ◌-ℤ◌, nat_eq, cond}
use Rattle.std.proofs.Math.Nat.{pow-le-pow_right}
use Rattle.std.proofs.lemmas.Bool.{cond-true, cond-false, eq-eqb, ne_eqb}
use Rattle.ring_spec.specs.Ring.{centre}
use Rattle.gadget_spec.specs.Digits.{balanced_digit}
use Rattle.gadget_keys.specs.declared.digit_row.DigitRow.{DigitRow}
use Rattle.gadget_keys.proofs.Cuts.{mask_is, raised_digit_is, raised_digit_small}
use Rattle.gadget_keys.proofs.digit_row.DigitRow.raised_digit.Goals as goal

digit_is : (r : DigitRow) (x y d : ℕ) → pos y ≡ centre r.modulus x +ℤ pos r.raise →
    d ≡ cond (nat_eq (r.row + 1) r.rows) (y / 2 ^ (r.bits * r.row)) (y / 2 ^ (r.bits * r.row) % 2 ^ r.bits) →
    pos d -ℤ pos (2 ^ (r.bits - 1)) ≡ balanced_digit r.bits r.rows r.row (centre r.modulus x)
digit_is r x y d e is =
    raised_digit_is r.modulus r.bits r.rows r.row x y d r.place.0
    (e ∙ ap (λ (h : ℕ). centre r.modulus x +ℤ pos h) r.halves) is

small : (r : DigitRow) (x d : ℕ) → x < r.modulus →
    pos d -ℤ pos (2 ^ (r.bits - 1)) ≡ balanced_digit r.bits r.rows r.row (centre r.modulus x) → d ≤ 2 ^ r.bits
small r x d h e = raised_digit_small r.modulus r.bits r.rows r.row x d r.few_bits.0 h r.places.2 r.place.0 e

pub returns-then-self-clause-digit : goal.returns-then-self-clause-digit
returns-then-self-clause-digit c =
    let r = c.args.self.now in let v = c.raised.result / 2 ^ (r.bits * r.row) in
    digit_is r c.args.x c.raised.result v c.raised.ensures
    (sym (cond-true (nat_eq (r.row + 1) r.rows) v (v % 2 ^ r.bits) (eq-eqb (r.row + 1) r.rows c.if-self.true)))

pub returns-then-self-clause-small : goal.returns-then-self-clause-small
returns-then-self-clause-small c =
    let r = c.args.self.now in
    small r c.args.x (c.raised.result / 2 ^ (r.bits * r.row)) c.requires (returns-then-self-clause-digit c)

pub overflow_cast-result : goal.overflow_cast-result
overflow_cast-result c =
    let r = c.args.self.now in let v = c.raised.result / 2 ^ (r.bits * r.row) in
    let d = digit_is r c.args.x c.raised.result v c.raised.ensures
    (sym (cond-true (nat_eq (r.row + 1) r.rows) v (v % 2 ^ r.bits) (eq-eqb (r.row + 1) r.rows c.if-self.true))) in
    let most : 2 ^ r.bits ≤ 2 ^ 16 = pow-le-pow_right (omega arith) r.few_bits.1 in
    omega (arith, small r c.args.x v c.requires d, most)

pub returns-else-self-clause-digit : goal.returns-else-self-clause-digit
returns-else-self-clause-digit c =
    let r = c.args.self.now in let v = c.raised.result / 2 ^ (r.bits * r.row) in
    digit_is r c.args.x c.raised.result _ c.raised.ensures
    (mask_is 340282366920938463463374607431768211456 r.bits v (omega arith) r.few_bits.1
    ∙ sym (cond-false (nat_eq (r.row + 1) r.rows) v (v % 2 ^ r.bits) (ne_eqb (r.row + 1) r.rows c.if-self.false)))
