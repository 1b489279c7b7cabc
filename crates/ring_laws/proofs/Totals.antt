-- Sums f 0 + .. + f (n - 1) of whole numbers.
use Rattle.std.proofs.Common.{◌≡◌, ℕ, zero, suc, ◌+◌, ◌-◌, ◌*◌, ◌≤◌, ◌<◌, refl, sym, ap, ◌∙◌, arith}
use Rattle.std.specs.Prelude.{ℤ, pos, ◌+ℤ◌, ◌*ℤ◌, neg_ℤ, unsigned_abs}
use Rattle.ring_spec.specs.Ring.{total}
use Rattle.ring_laws.proofs.Integers.{sums, times_sum, times_zero, abs_sum}

-- terms that are equal below n give equal sums
pub total_same : (n : ℕ) (f g : ℕ → ℤ) → ((i : ℕ) → i < n → f i ≡ g i) → total n f ≡ total n g
unfolding total
total_same zero f g h = refl
total_same (suc n) f g h =
    let e : total n f ≡ total n g = total_same n f g (λ i l. h i (omega arith)) in
    let e' : f n ≡ g n = h n (omega arith) in
    cc

-- the sum of sums
pub total_sum : (n : ℕ) (f g : ℕ → ℤ) → total n (λ i. f i +ℤ g i) ≡ total n f +ℤ total n g
unfolding total
total_sum zero f g = refl
total_sum (suc n) f g = rw (total_sum n f g) (omega (arith, sums))

-- a factor passes out
pub total_times : (n : ℕ) (k : ℤ) (f : ℕ → ℤ) → total n (λ i. k *ℤ f i) ≡ k *ℤ total n f
unfolding total
total_times zero k f = sym (times_zero k)
total_times (suc n) k f = rw (total_times n k f, times_sum) refl

-- a sign passes out
pub total_negative : (n : ℕ) (f : ℕ → ℤ) → total n (λ i. neg_ℤ (f i)) ≡ neg_ℤ (total n f)
unfolding total
total_negative zero f = refl
total_negative (suc n) f = rw (total_negative n f) (omega (arith, sums))

-- nothing sums to nothing
pub total_zero : (n : ℕ) → total n (λ i. pos 0) ≡ pos 0
unfolding total
total_zero zero = refl
total_zero (suc n) = rw (total_zero n) refl

-- two sums change places
pub total_swap : (m n : ℕ) (f : ℕ → ℕ → ℤ) → total m (λ i. total n (λ j. f i j)) ≡ total n (λ j. total m (λ i. f i j))
unfolding total
total_swap zero n f = sym (total_zero n)
total_swap (suc m) n f = rw (total_swap m n f) (sym (total_sum n (λ j. total m (λ i. f i j)) (f m)))

-- a sum in two parts
pub total_split : (m n : ℕ) (f : ℕ → ℤ) → total (m + n) f ≡ total m f +ℤ total n (λ i. f (m + i))
unfolding total
total_split m zero f = let e : m + 0 ≡ m = omega arith in rw e (omega (arith, sums))
total_split m (suc n) f = let e : m + suc n ≡ suc (m + n) = omega arith in rw (e, total_split m n f) (omega (arith, sums))

-- the first term apart
pub total_first : (n : ℕ) (f : ℕ → ℤ) → total (suc n) f ≡ f 0 +ℤ total n (λ i. f (suc i))
unfolding total
total_first zero f = omega (arith, sums)
total_first (suc n) f = ap (λ (z : ℤ). z +ℤ f (suc n)) (total_first n f) ∙ omega (arith, sums)

-- the terms in reverse
pub total_reverse : (n : ℕ) (f : ℕ → ℤ) → total n f ≡ total n (λ i. f (n - 1 - i))
unfolding total
total_reverse zero f = refl
total_reverse (suc n) f =
    let e : total n (λ i. f (suc n - 1 - suc i)) ≡ total n (λ i. f (n - 1 - i)) =
    total_same n (λ i. f (suc n - 1 - suc i)) (λ i. f (n - 1 - i)) (λ i l. ap f (omega arith)) in
    let e' : f (suc n - 1 - 0) ≡ f n = ap f (omega arith) in
    let e'' : total (suc n) (λ i. f (suc n - 1 - i)) ≡ f (suc n - 1 - 0) +ℤ total n (λ i. f (suc n - 1 - suc i)) = total_first n (λ i. f (suc n - 1 - i)) in
    rw (total_reverse n f) (sym (e'' ∙ ap (λ (z : ℤ). z +ℤ total n (λ i. f (suc n - 1 - suc i))) e' ∙ ap (λ (z : ℤ). f n +ℤ z) e ∙ omega (arith, sums)))

-- n terms of absolute value at most v sum to at most n * v
pub total_within : (n v : ℕ) (f : ℕ → ℤ) → ((i : ℕ) → i < n → unsigned_abs (f i) ≤ v) → unsigned_abs (total n f) ≤ n * v
unfolding total
total_within zero v f h = omega arith
total_within (suc n) v f h =
    let e : unsigned_abs (total n f) ≤ n * v = total_within n v f (λ i l. h i (omega arith)) in
    omega (arith, e, h n (omega arith), abs_sum (total n f) (f n))
