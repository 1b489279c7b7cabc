-- The powers of X, whose exponents count modulo 2n.
use Rattle.std.proofs.Common.{◌≡◌, ℕ, zero, suc, ◌+◌, ◌-◌, ◌*◌, ◌/◌, ◌%◌, ◌<◌, cond, refl, sym, ap, ◌∙◌, ◌⊎◌, inl, inr, arith}
use Rattle.std.specs.Prelude.{ℤ, pos, negsuc, ◌+ℤ◌, ◌*ℤ◌, neg_ℤ, nat_eq}
use Rattle.std.proofs.lemmas.Bool.{cases_lt, cases_eq, cond-true, cond-false, eq-eqb, ne_eqb}
use Rattle.std.proofs.lemmas.Nat.{mod-mul-add}
use Rattle.ring_spec.specs.Ring.{wrapped}
use Rattle.ring_laws.proofs.Integers.{sums, zero_times, one_times}
use Rattle.ring_laws.proofs.Totals.{total_same, total_zero, total_first}
use Rattle.ring_laws.proofs.Products.{shifted, shifted_low, shifted_high, shifted_same, wrapped_is, wrapped_same}
use Rattle.ring_laws.proofs.Associates.{shifted_none, one_shifted}

-- coefficient k of X^r for r below 2n: 1 where r is k, and -1 where r is k + n
abbrev pub unit : ℕ → ℕ → ℕ → ℤ
unit n r k = cond (nat_eq r k) (pos 1) (cond (nat_eq r (k + n)) (negsuc 0) (pos 0))

-- coefficient k of X^p for any p
abbrev pub power : ℕ → ℕ → ℕ → ℤ
power n p k = unit n (p % (2 * n)) k

-- coefficient r of X^r
pub unit_one : (n r k : ℕ) → r ≡ k → unit n r k ≡ pos 1
unit_one n r k e = cond-true (nat_eq r k) (pos 1) (cond (nat_eq r (k + n)) (negsuc 0) (pos 0)) (eq-eqb r k e)

-- coefficient r - n of X^r
pub unit_minus : (n r k : ℕ) → 0 < n → r ≡ k + n → unit n r k ≡ negsuc 0
unit_minus n r k h e =
    cond-false (nat_eq r k) (pos 1) (cond (nat_eq r (k + n)) (negsuc 0) (pos 0)) (ne_eqb r k (λ e'. omega arith))
    ∙ cond-true (nat_eq r (k + n)) (negsuc 0) (pos 0) (eq-eqb r (k + n) e)

-- the other coefficients of X^r
pub unit_none : (n r k : ℕ) → (r ≡ k → ⊥) → (r ≡ k + n → ⊥) → unit n r k ≡ pos 0
unit_none n r k e e' =
    cond-false (nat_eq r k) (pos 1) (cond (nat_eq r (k + n)) (negsuc 0) (pos 0)) (ne_eqb r k e)
    ∙ cond-false (nat_eq r (k + n)) (negsuc 0) (pos 0) (ne_eqb r (k + n) e')

-- two units that are one, minus one and nothing together are equal
same_unit : (n r k : ℕ) (z : ℤ) → 0 < n → (r ≡ k → z ≡ pos 1) → (r ≡ k + n → z ≡ negsuc 0) → ((r ≡ k → ⊥) → (r ≡ k + n → ⊥) → z ≡ pos 0) → unit n r k ≡ z
same_unit n r k z h one minus none = elim (cases_eq r k) [
  | inl e ↦ unit_one n r k e ∙ sym (one e)
  | inr ne ↦ elim (cases_eq r (k + n)) [
    | inl e ↦ unit_minus n r k h e ∙ sym (minus e)
    | inr ne' ↦ unit_none n r k ne ne' ∙ sym (none ne ne')
  ]
]

-- X times X^r, where r + 1 is below 2n or comes back to 0
unit_next : (n r s k : ℕ) → k < n → r < 2 * n → ((s ≡ r + 1) × (r + 1 < 2 * n)) ⊎ ((s ≡ 0) × (r + 1 ≡ 2 * n)) → unit n s k ≡ shifted n 1 (unit n r) k
unit_next n r s zero h l (inl e) =
    same_unit n s 0 (shifted n 1 (unit n r) 0) h
    (λ e'. absurd (omega arith))
    (λ e'. shifted_high n 1 (unit n r) 0 (omega arith) ∙ ap neg_ℤ (unit_one n r (0 + n - 1) (omega arith)))
    (λ e' e''. shifted_high n 1 (unit n r) 0 (omega arith) ∙ ap neg_ℤ (unit_none n r (0 + n - 1) (λ d. e'' (omega arith)) (λ d. omega arith)))
unit_next n r s zero h l (inr e) =
    same_unit n s 0 (shifted n 1 (unit n r) 0) h
    (λ e'. shifted_high n 1 (unit n r) 0 (omega arith) ∙ ap neg_ℤ (unit_minus n r (0 + n - 1) h (omega arith)))
    (λ e'. absurd (omega arith))
    (λ e' e''. absurd (e' e.0))
unit_next n r s (suc k) h l (inl e) =
    same_unit n s (suc k) (shifted n 1 (unit n r) (suc k)) (omega arith)
    (λ e'. shifted_low n 1 (unit n r) (suc k) (omega arith) ∙ unit_one n r (suc k - 1) (omega arith))
    (λ e'. shifted_low n 1 (unit n r) (suc k) (omega arith) ∙ unit_minus n r (suc k - 1) (omega arith) (omega arith))
    (λ e' e''. shifted_low n 1 (unit n r) (suc k) (omega arith) ∙ unit_none n r (suc k - 1) (λ d. e' (omega arith)) (λ d. e'' (omega arith)))
unit_next n r s (suc k) h l (inr e) =
    same_unit n s (suc k) (shifted n 1 (unit n r) (suc k)) (omega arith)
    (λ e'. absurd (omega arith))
    (λ e'. absurd (omega arith))
    (λ e' e''. shifted_low n 1 (unit n r) (suc k) (omega arith) ∙ unit_none n r (suc k - 1) (λ d. omega arith) (λ d. omega arith))

-- the remainder of the next number
remainder_next : (p m : ℕ) → 0 < m → ((suc p % m ≡ p % m + 1) × (p % m + 1 < m)) ⊎ ((suc p % m ≡ 0) × (p % m + 1 ≡ m))
remainder_next p m h = elim (cases_lt (p % m + 1) m) [
  | inl l ↦ inl (ap (λ (x : ℕ). x % m) (omega (arith, h)) ∙ mod-mul-add (p / m) m (p % m + 1) l, l)
  | inr l ↦ inr (ap (λ (x : ℕ). x % m) (omega (arith, h)) ∙ mod-mul-add (p / m + 1) m 0 h, omega arith)
]

-- X^(p+1) is X times X^p
pub power_next : (n p k : ℕ) → k < n → power n (suc p) k ≡ shifted n 1 (power n p) k
power_next n p k h = unit_next n (p % (2 * n)) (suc p % (2 * n)) k h (omega arith) (remainder_next p (2 * n) (omega arith))

-- X^0 times b is b
pub power_zero : (n : ℕ) (b : ℕ → ℤ) (k : ℕ) → k < n → wrapped n (power n 0) b k ≡ b k
power_zero zero b k h = absurd (omega arith)
power_zero (suc m) b k h =
    let r : 0 % (2 * suc m) ≡ 0 = omega arith in
    wrapped_is (suc m) (power (suc m) 0) b k
    ∙ total_first m (λ i. power (suc m) 0 i *ℤ shifted (suc m) i b k)
    ∙ ap (λ (z : ℤ). power (suc m) 0 0 *ℤ shifted (suc m) 0 b k +ℤ z)
    (total_same m (λ i. power (suc m) 0 (suc i) *ℤ shifted (suc m) (suc i) b k) (λ i. pos 0)
    (λ i l. ap (λ (z : ℤ). z *ℤ shifted (suc m) (suc i) b k) (unit_none (suc m) (0 % (2 * suc m)) (suc i) (λ e. omega arith) (λ e. omega arith)) ∙ zero_times (shifted (suc m) (suc i) b k))
    ∙ total_zero m)
    ∙ ap (λ (z : ℤ). z *ℤ shifted (suc m) 0 b k +ℤ pos 0) (unit_one (suc m) (0 % (2 * suc m)) 0 r)
    ∙ ap (λ (z : ℤ). pos 1 *ℤ z +ℤ pos 0) (shifted_none (suc m) b k)
    ∙ omega (arith, sums, one_times (b k))

-- X^p times X^r is X^(p+r)
pub power_sum : (n p r k : ℕ) → k < n → wrapped n (power n p) (power n r) k ≡ power n (p + r) k
power_sum n zero r k h = power_zero n (power n r) k h ∙ ap (λ (x : ℕ). power n x k) (omega arith)
power_sum n (suc p) r k h =
    wrapped_same n (power n (suc p)) (power n r) (shifted n 1 (power n p)) (power n r) k h (λ j l. power_next n p j l) (λ j l. refl)
    ∙ one_shifted n (power n p) (power n r) k h
    ∙ shifted_same n 1 (wrapped n (power n p) (power n r)) (power n (p + r)) k (omega arith) h (λ j l. power_sum n p r j l)
    ∙ sym (power_next n (p + r) k h) ∙ ap (λ (x : ℕ). power n x k) (omega arith)

-- X^(g*n) is -1 for g odd
pub power_half : (n g k : ℕ) → k < n → g % 2 ≡ 1 → power n (n * g) k ≡ neg_ℤ (power n 0 k)
power_half n g k h odd =
    let e : n * g % (2 * n) ≡ n =
    ap (λ (x : ℕ). x % (2 * n)) (ap (λ (x : ℕ). n * x) (let e' : g ≡ 2 * (g / 2) + 1 = omega arith in e') ∙ (let e'' : n * (2 * (g / 2) + 1) ≡ g / 2 * (2 * n) + n = omega arith in e''))
    ∙ mod-mul-add (g / 2) (2 * n) n (omega arith) in
    let r : 0 % (2 * n) ≡ 0 = omega arith in
    same_unit n (n * g % (2 * n)) k (neg_ℤ (power n 0 k)) (omega arith)
    (λ e'. absurd (omega arith))
    (λ e'. ap neg_ℤ (unit_one n (0 % (2 * n)) k (omega arith)))
    (λ e' e''. ap neg_ℤ (unit_none n (0 % (2 * n)) k (λ d. e'' (omega arith)) (λ d. omega arith)))
