-- Balanced digits by shifts.
use Rattle.std.proofs.Common.{◌≡◌, ℕ, zero, suc, ◌+◌, ◌-◌, ◌*◌, ◌/◌, ◌%◌, ◌^◌, ◌<◌, sym, ap, ◌∙◌, inl, inr, arith}
use Rattle.std.specs.Prelude.{ℤ, pos, negsuc, ◌+ℤ◌, ◌-ℤ◌, ◌*ℤ◌, neg_ℤ, nat_eq}
use Rattle.std.proofs.lemmas.Bool.{cases_eq, cond-true, cond-false, eq-eqb, ne_eqb}
use Rattle.std.proofs.lemmas.Nat.{pow_pos, pow-add, div-mul-add}
use Rattle.std.proofs.Math.Nat.{div-div-eq-div-mul}
use Rattle.ring_spec.specs.Ring.{residue}
use Rattle.gadget_spec.specs.Digits.{lowest, divided, rest, balanced_digit}
use Rattle.gadget_laws.specs.Shifted.{halves, BalancedDigitsAreShifted, HalvesAreEnough}
use Rattle.ring_laws.proofs.Integers.{sums, times_sum, times_negative, one_times}
use Rattle.ring_laws.proofs.Congruences.{residue_below, residue_same}
use Rattle.gadget_laws.proofs.BaseDigits.{next_weight}
use Rattle.gadget_laws.proofs.BalancedDigits.{divided_is, half_power}

-- ---- division rounded down

-- a number is m times its quotient, and its residue
divided_split : (m : ℕ) (z : ℤ) → 0 < m → z ≡ pos m *ℤ divided m z +ℤ pos (residue m z)
unfolding divided residue
divided_split m (pos a) h = omega (arith, sums, h)
divided_split m (negsuc a) h = omega (arith, sums, h, times_negative (pos m) (pos (suc (a / m))))

-- and only so
divided_floor : (m r : ℕ) (z y : ℤ) → r < m → z ≡ pos m *ℤ y +ℤ pos r → divided m z ≡ y
unfolding divided
divided_floor m r (pos x) (pos a) h e =
    let e' : x ≡ a * m + r = omega (arith, sums, e) in
    ap pos (ap (λ (y : ℕ). y / m) e' ∙ div-mul-add a m r h)
divided_floor m r (pos x) (negsuc a) h e = absurd (let p : x + m * suc a ≡ r = omega (arith, sums, e, times_negative (pos m) (pos (suc a))) in omega arith)
divided_floor m r (negsuc x) (pos a) h e = absurd (omega (arith, sums, e))
divided_floor m r (negsuc x) (negsuc a) h e =
    let e' : x ≡ a * m + (m - 1 - r) = omega (arith, sums, e, times_negative (pos m) (pos (suc a))) in
    ap negsuc (ap (λ (y : ℕ). y / m) e' ∙ div-mul-add a m (m - 1 - r) (omega arith))

-- m times k more gives k more
divided_more : (m k : ℕ) (z : ℤ) → 0 < m → divided m (z +ℤ pos (m * k)) ≡ divided m z +ℤ pos k
divided_more m k z h =
    divided_floor m (residue m z) (z +ℤ pos (m * k)) (divided m z +ℤ pos k) (residue_below m z h)
    (omega (arith, sums, divided_split m z h, times_sum (pos m) (divided m z) (pos k)))

-- a quotient of a quotient
divided_twice : (k m : ℕ) (z : ℤ) → divided m (divided k z) ≡ divided (k * m) z
unfolding divided
divided_twice k m (pos a) = ap pos (div-div-eq-div-mul a k m)
divided_twice k m (negsuc a) = ap negsuc (div-div-eq-div-mul a k m)

-- ---- what is left

-- the next is the quotient of what is left and a half
rest_next : (b i : ℕ) (z : ℤ) → rest b (suc i) z ≡ divided (2 ^ b) (rest b i z +ℤ pos (2 ^ (b - 1)))
unfolding rest lowest
rest_next b i z =
    let m = 2 ^ b in let h = 2 ^ (b - 1) in let r = rest b i z in
    let y = r +ℤ pos h in let k = divided m y in
    divided_is m (r -ℤ (pos (residue m y) -ℤ pos h)) k (pow_pos b) (omega (arith, sums, divided_split m y (pow_pos b)))

-- so it is a quotient of the number and the halves below
rest_is : (b i : ℕ) (z : ℤ) → rest b i z ≡ divided (2 ^ (b * i)) (z +ℤ pos (halves b i))
unfolding rest halves
rest_is b zero z =
    let e : 2 ^ (b * 0) ≡ 1 = ap (λ (x : ℕ). 2 ^ x) (let e' : b * 0 ≡ 0 = omega arith in e') in
    sym (divided_floor (2 ^ (b * 0)) 0 (z +ℤ pos 0) z (omega arith) (omega (arith, sums, ap (λ (x : ℕ). pos x *ℤ z) e, one_times z)))
rest_is b (suc i) z =
    let w = 2 ^ (b * i) in let h = 2 ^ (b - 1) in
    rest_next b i z
    ∙ ap (λ (y : ℤ). divided (2 ^ b) (y +ℤ pos h)) (rest_is b i z)
    ∙ ap (divided (2 ^ b)) (sym (divided_more w h (z +ℤ pos (halves b i)) (pow_pos (b * i))))
    ∙ divided_twice w (2 ^ b) (z +ℤ pos (halves b i) +ℤ pos (w * h))
    ∙ ap (λ (x : ℕ). divided x (z +ℤ pos (halves b i) +ℤ pos (w * h))) (sym (next_weight b i ∙ pow-add 2 b (b * i) ∙ omega arith))
    ∙ ap (divided (2 ^ (b * suc i))) (omega (arith, sums))

-- the halves of i digits and of k more
halves_more : (b i k : ℕ) → halves b (i + k) ≡ halves b i + 2 ^ (b * i) * halves b k
unfolding halves
halves_more b i zero = ap (halves b) (let e : i + 0 ≡ i = omega arith in e) ∙ omega arith
halves_more b i (suc k) =
    let w = 2 ^ (b * i) in let u = 2 ^ (b * k) in let h = 2 ^ (b - 1) in
    let e : 2 ^ (b * (i + k)) ≡ w * u = ap (λ (x : ℕ). 2 ^ x) (let e' : b * (i + k) ≡ b * i + b * k = omega arith in e') ∙ pow-add 2 (b * i) (b * k) in
    ap (halves b) (let e' : i + suc k ≡ suc (i + k) = omega arith in e')
    ∙ (let e' : halves b (i + k) + 2 ^ (b * (i + k)) * h ≡ halves b i + w * halves b k + w * u * h = omega (arith, halves_more b i k, ap (λ (x : ℕ). x * h) e) in e')
    ∙ omega arith

-- ---- digits

-- the quotient of the raised number is what is left, a half, and a multiple of 2^b
raised : (b l i y : ℕ) (z : ℤ) → i < l → pos y ≡ z +ℤ pos (halves b l) →
    pos (y / 2 ^ (b * i)) ≡ rest b i z +ℤ pos (2 ^ (b - 1) + 2 ^ b * halves b (l - suc i))
unfolding halves divided
raised b l i y z p e =
    let w = 2 ^ (b * i) in let m = 2 ^ b in let h = 2 ^ (b - 1) in let k = halves b (l - suc i) in
    let all : halves b l ≡ halves b i + w * h + w * m * k =
    ap (halves b) (let e' : l ≡ suc i + (l - suc i) = omega arith in e') ∙ halves_more b (suc i) (l - suc i)
    ∙ ap (λ (x : ℕ). halves b i + w * h + x * k) (next_weight b i ∙ pow-add 2 b (b * i) ∙ (let e' : m * w ≡ w * m = omega arith in e')) in
    let is : pos y ≡ z +ℤ pos (halves b i) +ℤ pos (w * (h + m * k)) = omega (arith, sums, e, all) in
    ap (divided w) is ∙ divided_more w (h + m * k) (z +ℤ pos (halves b i)) (pow_pos (b * i))
    ∙ ap (λ (x : ℤ). x +ℤ pos (h + m * k)) (sym (rest_is b i z))

pub balanced_digits_are_shifted : BalancedDigitsAreShifted
unfolding balanced_digit lowest residue halves
balanced_digits_are_shifted b l i y z p e =
    let m = 2 ^ b in let h = 2 ^ (b - 1) in let r = rest b i z in let v = y / 2 ^ (b * i) in let k = halves b (l - suc i) in
    let up = raised b l i y z p e in
    elim (cases_eq (i + 1) l) [
      | inl is ↦ rw (cond-true (nat_eq (i + 1) l) r (lowest b r) (eq-eqb (i + 1) l is), cond-true (nat_eq (i + 1) l) v (v % m) (eq-eqb (i + 1) l is))
          (let none : m * k ≡ m * 0 = ap (λ (x : ℕ). m * halves b x) (let e' : l - suc i ≡ 0 = omega arith in e') in omega (arith, sums, up, none))
      | inr ne ↦ rw (cond-false (nat_eq (i + 1) l) r (lowest b r) (ne_eqb (i + 1) l ne), cond-false (nat_eq (i + 1) l) v (v % m) (ne_eqb (i + 1) l ne))
          (ap (λ (x : ℕ). pos x -ℤ pos h)
          (residue_same m (r +ℤ pos h) (pos v) (pow_pos b) (record { k = neg_ℤ (pos k); is = omega (arith, sums, up, times_negative (pos m) (pos k)) })))
    ]

pub halves_are_enough : HalvesAreEnough
unfolding halves
halves_are_enough b zero z h p q = absurd (omega arith)
halves_are_enough b (suc l) z h p q =
    let w = 2 ^ (b * l) in let u = 2 ^ (b - 1) in
    let e : 2 ^ (b * suc l) ≡ 2 * (w * u) = next_weight b l ∙ pow-add 2 b (b * l) ∙ ap (λ (x : ℕ). x * w) (half_power b h) ∙ omega arith in
    omega arith
