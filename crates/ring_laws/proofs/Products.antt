-- The product of polynomials with n coefficients over the whole numbers, where X^n is -1.
use Rattle.std.proofs.Common.{◌≡◌, ℕ, ◌+◌, ◌-◌, ◌≤◌, ◌<◌, cond, sym, ap, ◌∙◌, inl, inr, arith}
use Rattle.std.specs.Prelude.{ℤ, pos, ◌+ℤ◌, ◌-ℤ◌, ◌*ℤ◌, neg_ℤ, nat_le}
use Rattle.std.proofs.lemmas.Bool.{cases_lt, cond-true, cond-false, le-leb, lt-leb}
use Rattle.ring_spec.specs.Ring.{total, wrapped, term, plus, minus, negated, times}
use Rattle.ring_laws.proofs.Integers.{sum_times, times_times, times_commutes, negative_times, times_negative, zero_times}
use Rattle.ring_laws.proofs.Totals.{total_same, total_sum, total_times, total_negative, total_zero, total_split, total_reverse}

-- coefficient k of X^i times b, for i up to n and k below n
abbrev pub shifted : ℕ → ℕ → (ℕ → ℤ) → ℕ → ℤ
shifted n i b k = cond (nat_le i k) (b (k - i)) (neg_ℤ (b (k + n - i)))

-- from place i on, it is b moved up
pub shifted_low : (n i : ℕ) (b : ℕ → ℤ) (k : ℕ) → i ≤ k → shifted n i b k ≡ b (k - i)
shifted_low n i b k h = cond-true (nat_le i k) (b (k - i)) (neg_ℤ (b (k + n - i))) (le-leb i k h)

-- below place i, what went past the end comes back with the sign changed
pub shifted_high : (n i : ℕ) (b : ℕ → ℤ) (k : ℕ) → k < i → shifted n i b k ≡ neg_ℤ (b (k + n - i))
shifted_high n i b k h = cond-false (nat_le i k) (b (k - i)) (neg_ℤ (b (k + n - i))) (lt-leb i k h)

-- X^i times b goes by the coefficients below n alone
pub shifted_same : (n i : ℕ) (b c : ℕ → ℤ) (k : ℕ) → i ≤ n → k < n → ((j : ℕ) → j < n → b j ≡ c j) → shifted n i b k ≡ shifted n i c k
shifted_same n i b c k l h e = elim (cases_lt k i) [
  | inl p ↦ shifted_high n i b k p ∙ ap neg_ℤ (e (k + n - i) (omega arith)) ∙ sym (shifted_high n i c k p)
  | inr p ↦ shifted_low n i b k p ∙ e (k - i) (omega arith) ∙ sym (shifted_low n i c k p)
]

-- a term of a product is a_i times X^i times b
pub term_is : (n : ℕ) (a b : ℕ → ℤ) (k i : ℕ) → term n a b k i ≡ a i *ℤ shifted n i b k
term_is n a b k i = elim (cases_lt k i) [
  | inl p ↦ cond-false (nat_le i k) (a i *ℤ b (k - i)) (neg_ℤ (a i *ℤ b (k + n - i))) (lt-leb i k p)
      ∙ sym (times_negative (a i) (b (k + n - i))) ∙ ap (λ (z : ℤ). a i *ℤ z) (sym (shifted_high n i b k p))
  | inr p ↦ cond-true (nat_le i k) (a i *ℤ b (k - i)) (neg_ℤ (a i *ℤ b (k + n - i))) (le-leb i k p)
      ∙ ap (λ (z : ℤ). a i *ℤ z) (sym (shifted_low n i b k p))
]

-- a product is the sum of a_i times X^i times b
pub wrapped_is : (n : ℕ) (a b : ℕ → ℤ) (k : ℕ) → wrapped n a b k ≡ total n (λ i. a i *ℤ shifted n i b k)
unfolding wrapped
wrapped_is n a b k = total_same n (term n a b k) (λ i. a i *ℤ shifted n i b k) (λ i h. term_is n a b k i)

-- a product goes by the coefficients below n alone
pub wrapped_same : (n : ℕ) (a b c d : ℕ → ℤ) (k : ℕ) → k < n → ((i : ℕ) → i < n → a i ≡ c i) → ((i : ℕ) → i < n → b i ≡ d i) → wrapped n a b k ≡ wrapped n c d k
wrapped_same n a b c d k h e e' =
    wrapped_is n a b k
    ∙ total_same n (λ i. a i *ℤ shifted n i b k) (λ i. c i *ℤ shifted n i d k) (λ i l. ap (λ (z : ℤ). z *ℤ shifted n i b k) (e i l) ∙ ap (λ (z : ℤ). c i *ℤ z) (shifted_same n i b d k (omega arith) h e'))
    ∙ sym (wrapped_is n c d k)

-- coefficient k in two sums: a_i * b_(k-i) over i up to k, less a_i * b_(k+n-i) over i = k + 1 + j
pub two_sums : (n : ℕ) (a b : ℕ → ℤ) (k : ℕ) → k < n → wrapped n a b k ≡ total (k + 1) (λ i. a i *ℤ b (k - i)) -ℤ total (n - 1 - k) (λ j. a (k + 1 + j) *ℤ b (n - 1 - j))
unfolding wrapped
two_sums n a b k h =
    let e : n ≡ (k + 1) + (n - 1 - k) = omega arith in
    let low : total (k + 1) (term n a b k) ≡ total (k + 1) (λ i. a i *ℤ b (k - i)) =
    total_same (k + 1) (term n a b k) (λ i. a i *ℤ b (k - i))
    (λ i l. cond-true (nat_le i k) (a i *ℤ b (k - i)) (neg_ℤ (a i *ℤ b (k + n - i))) (le-leb i k (omega arith))) in
    let high : total (n - 1 - k) (λ j. term n a b k (k + 1 + j)) ≡ total (n - 1 - k) (λ j. neg_ℤ (a (k + 1 + j) *ℤ b (n - 1 - j))) =
    total_same (n - 1 - k) (λ j. term n a b k (k + 1 + j)) (λ j. neg_ℤ (a (k + 1 + j) *ℤ b (n - 1 - j)))
    (λ j l. cond-false (nat_le (k + 1 + j) k) (a (k + 1 + j) *ℤ b (k - (k + 1 + j))) (neg_ℤ (a (k + 1 + j) *ℤ b (k + n - (k + 1 + j)))) (lt-leb (k + 1 + j) k (omega arith))
    ∙ ap (λ (x : ℕ). neg_ℤ (a (k + 1 + j) *ℤ b x)) (omega arith)) in
    ap (λ (m : ℕ). total m (term n a b k)) e ∙ total_split (k + 1) (n - 1 - k) (term n a b k)
    ∙ ap (λ (z : ℤ). z +ℤ total (n - 1 - k) (λ j. term n a b k (k + 1 + j))) low
    ∙ ap (λ (z : ℤ). total (k + 1) (λ i. a i *ℤ b (k - i)) +ℤ z) (high ∙ total_negative (n - 1 - k) (λ j. a (k + 1 + j) *ℤ b (n - 1 - j)))

-- a product is commutative
pub wrapped_commutes : (n : ℕ) (a b : ℕ → ℤ) (k : ℕ) → k < n → wrapped n a b k ≡ wrapped n b a k
wrapped_commutes n a b k h =
    let low : total (k + 1) (λ i. a i *ℤ b (k - i)) ≡ total (k + 1) (λ i. b i *ℤ a (k - i)) =
    total_reverse (k + 1) (λ i. a i *ℤ b (k - i))
    ∙ total_same (k + 1) (λ i. a (k + 1 - 1 - i) *ℤ b (k - (k + 1 - 1 - i))) (λ i. b i *ℤ a (k - i))
    (λ i l. times_commutes (a (k + 1 - 1 - i)) (b (k - (k + 1 - 1 - i))) ∙ ap (λ (x : ℕ). b x *ℤ a (k + 1 - 1 - i)) (omega arith) ∙ ap (λ (x : ℕ). b i *ℤ a x) (omega arith)) in
    let high : total (n - 1 - k) (λ j. a (k + 1 + j) *ℤ b (n - 1 - j)) ≡ total (n - 1 - k) (λ j. b (k + 1 + j) *ℤ a (n - 1 - j)) =
    total_reverse (n - 1 - k) (λ j. a (k + 1 + j) *ℤ b (n - 1 - j))
    ∙ total_same (n - 1 - k) (λ j. a (k + 1 + (n - 1 - k - 1 - j)) *ℤ b (n - 1 - (n - 1 - k - 1 - j))) (λ j. b (k + 1 + j) *ℤ a (n - 1 - j))
    (λ j l. times_commutes (a (k + 1 + (n - 1 - k - 1 - j))) (b (n - 1 - (n - 1 - k - 1 - j))) ∙ ap (λ (x : ℕ). b x *ℤ a (k + 1 + (n - 1 - k - 1 - j))) (omega arith) ∙ ap (λ (x : ℕ). b (k + 1 + j) *ℤ a x) (omega arith)) in
    two_sums n a b k h ∙ ap (λ (z : ℤ). z -ℤ total (n - 1 - k) (λ j. a (k + 1 + j) *ℤ b (n - 1 - j))) low
    ∙ ap (λ (z : ℤ). total (k + 1) (λ i. b i *ℤ a (k - i)) -ℤ z) high ∙ sym (two_sums n b a k h)

-- a product distributes over a sum on the left
pub wrapped_sum_left : (n : ℕ) (a b c : ℕ → ℤ) (k : ℕ) → wrapped n (plus a b) c k ≡ wrapped n a c k +ℤ wrapped n b c k
wrapped_sum_left n a b c k =
    wrapped_is n (plus a b) c k
    ∙ total_same n (λ i. plus a b i *ℤ shifted n i c k) (λ i. a i *ℤ shifted n i c k +ℤ b i *ℤ shifted n i c k) (λ i l. sum_times (a i) (b i) (shifted n i c k))
    ∙ total_sum n (λ i. a i *ℤ shifted n i c k) (λ i. b i *ℤ shifted n i c k)
    ∙ ap (λ (z : ℤ). z +ℤ total n (λ i. b i *ℤ shifted n i c k)) (sym (wrapped_is n a c k)) ∙ ap (λ (z : ℤ). wrapped n a c k +ℤ z) (sym (wrapped_is n b c k))

-- the same on the right
pub wrapped_sum_right : (n : ℕ) (a b c : ℕ → ℤ) (k : ℕ) → k < n → wrapped n a (plus b c) k ≡ wrapped n a b k +ℤ wrapped n a c k
wrapped_sum_right n a b c k h =
    wrapped_commutes n a (plus b c) k h ∙ wrapped_sum_left n b c a k ∙ ap (λ (z : ℤ). z +ℤ wrapped n c a k) (wrapped_commutes n b a k h)
    ∙ ap (λ (z : ℤ). wrapped n a b k +ℤ z) (wrapped_commutes n c a k h)

-- a whole number passes out of a product on the left
pub wrapped_times_left : (n : ℕ) (z : ℤ) (a b : ℕ → ℤ) (k : ℕ) → wrapped n (times z a) b k ≡ z *ℤ wrapped n a b k
wrapped_times_left n z a b k =
    wrapped_is n (times z a) b k
    ∙ total_same n (λ i. times z a i *ℤ shifted n i b k) (λ i. z *ℤ (a i *ℤ shifted n i b k)) (λ i l. times_times z (a i) (shifted n i b k))
    ∙ total_times n z (λ i. a i *ℤ shifted n i b k) ∙ ap (λ (x : ℤ). z *ℤ x) (sym (wrapped_is n a b k))

-- the same on the right
pub wrapped_times_right : (n : ℕ) (z : ℤ) (a b : ℕ → ℤ) (k : ℕ) → k < n → wrapped n a (times z b) k ≡ z *ℤ wrapped n a b k
wrapped_times_right n z a b k h =
    wrapped_commutes n a (times z b) k h ∙ wrapped_times_left n z b a k ∙ ap (λ (x : ℤ). z *ℤ x) (wrapped_commutes n b a k h)

-- a sign passes out of a product on the left
pub wrapped_negative_left : (n : ℕ) (a b : ℕ → ℤ) (k : ℕ) → wrapped n (negated a) b k ≡ neg_ℤ (wrapped n a b k)
wrapped_negative_left n a b k =
    wrapped_is n (negated a) b k
    ∙ total_same n (λ i. negated a i *ℤ shifted n i b k) (λ i. neg_ℤ (a i *ℤ shifted n i b k)) (λ i l. negative_times (a i) (shifted n i b k))
    ∙ total_negative n (λ i. a i *ℤ shifted n i b k) ∙ ap neg_ℤ (sym (wrapped_is n a b k))

-- the same on the right
pub wrapped_negative_right : (n : ℕ) (a b : ℕ → ℤ) (k : ℕ) → k < n → wrapped n a (negated b) k ≡ neg_ℤ (wrapped n a b k)
wrapped_negative_right n a b k h =
    wrapped_commutes n a (negated b) k h ∙ wrapped_negative_left n b a k ∙ ap neg_ℤ (wrapped_commutes n b a k h)

-- a product distributes over a difference on the left
pub wrapped_difference_left : (n : ℕ) (a b c : ℕ → ℤ) (k : ℕ) → wrapped n (minus a b) c k ≡ wrapped n a c k -ℤ wrapped n b c k
wrapped_difference_left n a b c k = wrapped_sum_left n a (negated b) c k ∙ ap (λ (z : ℤ). wrapped n a c k +ℤ z) (wrapped_negative_left n b c k)

-- the same on the right
pub wrapped_difference_right : (n : ℕ) (a b c : ℕ → ℤ) (k : ℕ) → k < n → wrapped n a (minus b c) k ≡ wrapped n a b k -ℤ wrapped n a c k
wrapped_difference_right n a b c k h = wrapped_sum_right n a b (negated c) k h ∙ ap (λ (z : ℤ). wrapped n a b k +ℤ z) (wrapped_negative_right n a c k h)

-- nothing times b is nothing
pub wrapped_zero_left : (n : ℕ) (b : ℕ → ℤ) (k : ℕ) → wrapped n (λ i. pos 0) b k ≡ pos 0
wrapped_zero_left n b k =
    wrapped_is n (λ i. pos 0) b k ∙ total_same n (λ i. pos 0 *ℤ shifted n i b k) (λ i. pos 0) (λ i l. zero_times (shifted n i b k)) ∙ total_zero n

-- the same on the right
pub wrapped_zero_right : (n : ℕ) (a : ℕ → ℤ) (k : ℕ) → k < n → wrapped n a (λ i. pos 0) k ≡ pos 0
wrapped_zero_right n a k h = wrapped_commutes n a (λ i. pos 0) k h ∙ wrapped_zero_left n a k
