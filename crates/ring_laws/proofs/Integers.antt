-- The laws of + and * on whole numbers that the others are built from.
use Rattle.std.proofs.Common.{◌≡◌, ℕ, ◌+◌, ◌*◌, ◌≤◌, ap, ◌∙◌, arith}
use Rattle.std.specs.Prelude.{ℤ, pos, ◌+ℤ◌, ◌*ℤ◌, neg_ℤ, unsigned_abs}
use borrow.Author.Differences.{up, down, same_out, same_in, sum_is_lem, neg_is, product_is, abs_is, ints}
use lib.IntN.{*ℤ_comm, zero-*ℤ}

-- what `omega` needs to prove an equation between sums of whole numbers and of their products
pub ruleset sums = (same_out, same_in, sum_is_lem, neg_is)

-- a product distributes over a sum
pub times_sum : (a b c : ℤ) → a *ℤ (b +ℤ c) ≡ a *ℤ b +ℤ a *ℤ c
times_sum a b c =
    omega (arith, sums, product_is, ap (λ (n : ℕ). up a * n) (sum_is_lem b c), ap (λ (n : ℕ). down a * n) (sum_is_lem b c))

-- the same on the other side
pub sum_times : (a b c : ℤ) → (a +ℤ b) *ℤ c ≡ a *ℤ c +ℤ b *ℤ c
sum_times a b c =
    omega (arith, sums, product_is, ap (λ (n : ℕ). n * up c) (sum_is_lem a b), ap (λ (n : ℕ). n * down c) (sum_is_lem a b))

-- a product is associative
pub times_times : (a b c : ℤ) → (a *ℤ b) *ℤ c ≡ a *ℤ (b *ℤ c)
times_times a b c =
    omega (
      arith,
      sums,
      product_is,
      ap (λ (n : ℕ). n * up c) (product_is a b).0,
      ap (λ (n : ℕ). n * up c) (product_is a b).1,
      ap (λ (n : ℕ). n * down c) (product_is a b).0,
      ap (λ (n : ℕ). n * down c) (product_is a b).1,
      ap (λ (n : ℕ). up a * n) (product_is b c).0,
      ap (λ (n : ℕ). up a * n) (product_is b c).1,
      ap (λ (n : ℕ). down a * n) (product_is b c).0,
      ap (λ (n : ℕ). down a * n) (product_is b c).1,
    )

-- a product is commutative
pub times_commutes : (a b : ℤ) → a *ℤ b ≡ b *ℤ a
times_commutes a b = *ℤ_comm a b

-- a sign passes out of a product on either side
pub negative_times : (a b : ℤ) → neg_ℤ a *ℤ b ≡ neg_ℤ (a *ℤ b)
negative_times a b =
    omega (
      arith,
      sums,
      product_is,
      ap (λ (n : ℕ). n * up b) (neg_is a).0,
      ap (λ (n : ℕ). n * up b) (neg_is a).1,
      ap (λ (n : ℕ). n * down b) (neg_is a).0,
      ap (λ (n : ℕ). n * down b) (neg_is a).1,
    )

-- the same on the other side
pub times_negative : (a b : ℤ) → a *ℤ neg_ℤ b ≡ neg_ℤ (a *ℤ b)
times_negative a b = times_commutes a (neg_ℤ b) ∙ negative_times b a ∙ ap neg_ℤ (times_commutes b a)

-- nothing as a factor
pub times_zero : (a : ℤ) → a *ℤ pos 0 ≡ pos 0
times_zero a = times_commutes a (pos 0) ∙ zero-*ℤ a

-- the same on the other side
pub zero_times : (a : ℤ) → pos 0 *ℤ a ≡ pos 0
zero_times a = zero-*ℤ a

-- one as a factor
pub one_times : (a : ℤ) → pos 1 *ℤ a ≡ a
one_times a = omega (arith, sums, product_is)

-- the absolute value of a sum is at most the sum of the absolute values
pub abs_sum : (a b : ℤ) → unsigned_abs (a +ℤ b) ≤ unsigned_abs a + unsigned_abs b
abs_sum a b = omega (arith, ints)

-- a sign changes no absolute value
pub abs_negative : (a : ℤ) → unsigned_abs (neg_ℤ a) ≡ unsigned_abs a
abs_negative a = omega (arith, ints)
