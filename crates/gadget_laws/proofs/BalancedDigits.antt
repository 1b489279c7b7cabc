-- Balanced digits: the first ones times their weights, and what is left times the next weight, make up the
-- number; and what is left shrinks with each row.
use Rattle.std.proofs.Common.{◌≡◌, ℕ, zero, suc, ◌+◌, ◌-◌, ◌*◌, ◌/◌, ◌^◌, ◌≤◌, ◌<◌, ap, ◌∙◌, inl, inr, arith}
use Rattle.std.specs.Prelude.{ℤ, pos, negsuc, ◌+ℤ◌, ◌-ℤ◌, ◌*ℤ◌, neg_ℤ, unsigned_abs, nat_eq}
use Rattle.std.proofs.lemmas.Nat.{pow_pos, pow-add, div-mul-add, mul-le}
use Rattle.std.proofs.Math.Nat.{pow-suc}
use Rattle.std.proofs.lemmas.Bool.{cases_lt, cases_eq, cond-true, cond-false, eq-eqb, ne_eqb}
use Rattle.ring_spec.specs.Ring.{total, residue}
use Rattle.gadget_spec.specs.Digits.{lowest, divided, rest, balanced_digit}
use Rattle.ring_laws.proofs.Integers.{sums, times_negative, times_sum, times_times, one_times}
use Rattle.ring_laws.proofs.Totals.{total_same}
use Rattle.ring_laws.proofs.Congruences.{residue_below, residue_congruent}
use Rattle.gadget_laws.proofs.BaseDigits.{next_weight}
use borrow.Author.Differences.{ints}

-- a multiple of m divided by m
pub divided_is : (m : ℕ) (z k : ℤ) → 0 < m → z ≡ pos m *ℤ k → divided m z ≡ k
unfolding divided
divided_is m (pos x) (pos a) h e =
    let e' : x ≡ a * m + 0 = omega (arith, sums, e) in
    ap pos (ap (λ (y : ℕ). y / m) e' ∙ div-mul-add a m 0 h)
divided_is m (pos x) (negsuc a) h e =
    let p : x + m * suc a ≡ 0 = omega (arith, sums, e, times_negative (pos m) (pos (suc a))) in
    absurd (omega arith)
divided_is m (negsuc x) (pos a) h e = absurd (omega (arith, sums, e))
divided_is m (negsuc x) (negsuc a) h e =
    let e' : x ≡ a * m + (m - 1) = omega (arith, sums, e, times_negative (pos m) (pos (suc a))) in
    ap negsuc (ap (λ (y : ℕ). y / m) e' ∙ div-mul-add a m (m - 1) (omega arith))

-- a number is its lowest digit and 2^b times what is left
pub parts_are : (b : ℕ) (z : ℤ) → z ≡ lowest b z +ℤ pos (2 ^ b) *ℤ divided (2 ^ b) (z -ℤ lowest b z)
unfolding lowest
parts_are b z =
    let m = 2 ^ b in let h = 2 ^ (b - 1) in
    let p : 0 < m = pow_pos b in
    let y = z +ℤ pos h in
    let c = residue_congruent m y p in
    let low = pos (residue m y) -ℤ pos h in
    let e : z -ℤ low ≡ pos m *ℤ neg_ℤ c.k = omega (arith, sums, c.is, times_negative (pos m) c.k) in
    let k : divided m (z -ℤ low) ≡ neg_ℤ c.k = divided_is m (z -ℤ low) (neg_ℤ c.k) p e in
    omega (arith, sums, e, ap (λ (x : ℤ). pos m *ℤ x) k)

pub half_power : (b : ℕ) → 0 < b → 2 ^ b ≡ 2 * 2 ^ (b - 1)
half_power b h = ap (λ (x : ℕ). 2 ^ x) (let e : b ≡ suc (b - 1) = omega arith in e) ∙ pow-suc 2 (b - 1) ∙ omega arith

-- the lowest digit is at most 2^(b-1) in absolute value
pub lowest_within : (b : ℕ) (z : ℤ) → 0 < b → unsigned_abs (lowest b z) ≤ 2 ^ (b - 1)
unfolding lowest
lowest_within b z h =
    let p : residue (2 ^ b) (z +ℤ pos (2 ^ (b - 1))) < 2 ^ b = residue_below (2 ^ b) (z +ℤ pos (2 ^ (b - 1))) (pow_pos b) in
    omega (arith, ints, p, half_power b h)

-- the first j digits, and what is left before row j
pub rest_sum : (b j : ℕ) (z : ℤ) → total j (λ i. pos (2 ^ (b * i)) *ℤ lowest b (rest b i z)) +ℤ pos (2 ^ (b * j)) *ℤ rest b j z ≡ z
unfolding total rest
rest_sum b zero z =
    let e : 2 ^ (b * 0) ≡ 1 = ap (λ (y : ℕ). 2 ^ y) (let e' : b * 0 ≡ 0 = omega arith in e') in
    ap (λ (w : ℕ). pos 0 +ℤ pos w *ℤ z) e ∙ omega (arith, sums, one_times z)
rest_sum b (suc j) z =
    let r = rest b j z in let w = 2 ^ (b * j) in let m = 2 ^ b in
    let low = lowest b r in let next = divided m (r -ℤ low) in
    let before = total j (λ i. pos (2 ^ (b * i)) *ℤ lowest b (rest b i z)) in
    let e₁ : 2 ^ (b * suc j) ≡ w * m = next_weight b j ∙ pow-add 2 b (b * j) ∙ omega arith in
    let e₂ : pos (2 ^ (b * suc j)) *ℤ next ≡ pos w *ℤ (pos m *ℤ next) = ap (λ (x : ℕ). pos x *ℤ next) e₁ ∙ times_times (pos w) (pos m) next in
    let e₃ : pos w *ℤ r ≡ pos w *ℤ low +ℤ pos w *ℤ (pos m *ℤ next) = ap (λ (x : ℤ). pos w *ℤ x) (parts_are b r) ∙ times_sum (pos w) low (pos m *ℤ next) in
    omega (arith, sums, e₂, e₃, rest_sum b j z)

-- all l digits make up the number
pub balanced_sum : (b l : ℕ) (z : ℤ) → 0 < l → total l (λ i. pos (2 ^ (b * i)) *ℤ balanced_digit b l i z) ≡ z
unfolding total balanced_digit
balanced_sum b zero z h = absurd (omega arith)
balanced_sum b (suc j) z h =
    let low : total j (λ i. pos (2 ^ (b * i)) *ℤ balanced_digit b (suc j) i z) ≡ total j (λ i. pos (2 ^ (b * i)) *ℤ lowest b (rest b i z)) =
    total_same j (λ i. pos (2 ^ (b * i)) *ℤ balanced_digit b (suc j) i z) (λ i. pos (2 ^ (b * i)) *ℤ lowest b (rest b i z))
    (λ i l. ap (λ (x : ℤ). pos (2 ^ (b * i)) *ℤ x) (cond-false (nat_eq (i + 1) (suc j)) (rest b i z) (lowest b (rest b i z)) (ne_eqb (i + 1) (suc j) (λ e. omega arith)))) in
    let last : balanced_digit b (suc j) j z ≡ rest b j z = cond-true (nat_eq (j + 1) (suc j)) (rest b j z) (lowest b (rest b j z)) (eq-eqb (j + 1) (suc j) (omega arith)) in
    ap (λ (x : ℤ). x +ℤ pos (2 ^ (b * j)) *ℤ balanced_digit b (suc j) j z) low
    ∙ ap (λ (x : ℤ). total j (λ i. pos (2 ^ (b * i)) *ℤ lowest b (rest b i z)) +ℤ pos (2 ^ (b * j)) *ℤ x) last
    ∙ rest_sum b j z

-- what is left before the last k rows is at most half of 2^(b*k)
pub rest_within : (b i k : ℕ) (z : ℤ) → 0 < b → 0 < k → 2 * unsigned_abs z ≤ 2 ^ (b * (i + k)) → 2 * unsigned_abs (rest b i z) ≤ 2 ^ (b * k)
unfolding rest
rest_within b zero k z h q p = rw (let e : 0 + k ≡ k = omega arith in e) at p
rest_within b (suc i) k z h q p =
    let r = rest b i z in let m = 2 ^ b in let low = lowest b r in let next = divided m (r -ℤ low) in
    let u = 2 ^ (b * k) in let v = 2 ^ (b * k - 1) in
    let before : 2 * unsigned_abs r ≤ 2 ^ (b * suc k) =
    rest_within b i (suc k) z h (omega arith) (rw (let e : suc i + k ≡ i + suc k = omega arith in e) at p) in
    let few : unsigned_abs low ≤ 2 ^ (b - 1) = lowest_within b r h in
    let e₁ : 2 ^ (b * suc k) ≡ m * u = next_weight b k ∙ pow-add 2 b (b * k) in
    let even : u ≡ 2 * v = half_power (b * k) (places b k h q) in
    let e₂ : m * unsigned_abs next ≤ unsigned_abs r + unsigned_abs low = product_within m r low next (parts_are b r) in
    let e₃ : 2 * (m * unsigned_abs next) ≤ m * u + m = omega (arith, half_power b h) in
    let e₄ : m * u ≡ 2 * (m * v) = ap (λ (x : ℕ). m * x) even ∙ omega arith in
    let e₅ : unsigned_abs next ≤ v = halved m (unsigned_abs next) v (pow_pos b) (omega arith) in
    omega arith
  where
    places : (b k : ℕ) → 0 < b → 0 < k → 0 < b * k
    places zero k h p = absurd (omega arith)
    places (suc b) zero h p = absurd (omega arith)
    places (suc b) (suc k) h p = omega arith

    product_within : (m : ℕ) (r low next : ℤ) → r ≡ low +ℤ pos m *ℤ next → m * unsigned_abs next ≤ unsigned_abs r + unsigned_abs low
    product_within m r low (pos a) e = omega (arith, ints, e)
    product_within m r low (negsuc a) e = omega (arith, ints, e, times_negative (pos m) (pos (suc a)))

    halved : (m x v : ℕ) → 0 < m → 2 * (m * x) ≤ 2 * (m * v) + m → x ≤ v
    halved m x v h p = elim (cases_lt v x) [
      | inl l ↦ absurd (let more : m * (v + 1) ≤ m * x = mul-le m (v + 1) m x (omega arith) (omega arith) in omega arith)
      | inr l ↦ l
    ]

-- so no digit is greater than 2^(b-1)
pub balanced_digit_within : (b l i : ℕ) (z : ℤ) → 0 < b → 2 * unsigned_abs z ≤ 2 ^ (b * l) → i < l → unsigned_abs (balanced_digit b l i z) ≤ 2 ^ (b - 1)
unfolding balanced_digit
balanced_digit_within b l i z h p q = elim (cases_eq (i + 1) l) [
  | inl e ↦ rw (cond-true (nat_eq (i + 1) l) (rest b i z) (lowest b (rest b i z)) (eq-eqb (i + 1) l e))
      (let last : 2 * unsigned_abs (rest b i z) ≤ 2 ^ (b * 1) = rest_within b i 1 z h (omega arith) (rw (← e) at p) in
      let e₁ : 2 ^ (b * 1) ≡ 2 ^ b = ap (λ (x : ℕ). 2 ^ x) (omega arith) in
      omega (arith, half_power b h))
  | inr ne ↦ rw (cond-false (nat_eq (i + 1) l) (rest b i z) (lowest b (rest b i z)) (ne_eqb (i + 1) l ne)) (lowest_within b (rest b i z) h)
]
