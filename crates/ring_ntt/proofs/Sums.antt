-- Laws of finite sums, and of values of polynomials.
use Rattle.std.proofs.Common.{◌≡◌, ℕ, zero, suc, ◌+◌, ◌*◌, ◌%◌, ◌^◌, ◌<◌, refl, sym, ◌∙◌, ap, arith, add-suc, add-zero}
use Rattle.std.proofs.lemmas.Nat.{pow-add}
use Rattle.ring_ntt.specs.Transform.{sum_of, value, monomial}
use Rattle.ring_ntt.specs.Nodes.{folded}
use Rattle.ring_ntt.proofs.Congruence.{add_same, mul_same}

pub sum_same : (q n : ℕ) (f g : ℕ → ℕ) → ((i : ℕ) → i < n → f i % q ≡ g i % q) → sum_of n f % q ≡ sum_of n g % q
unfolding sum_of
sum_same q zero f g h = refl
sum_same q (suc n) f g h =
    add_same q (sum_of n f) (sum_of n g) (f n) (g n) (sum_same q n f g (λ i l. h i (omega arith))) (h n (omega arith))

pub sum_equal : (n : ℕ) (f g : ℕ → ℕ) → ((i : ℕ) → i < n → f i ≡ g i) → sum_of n f ≡ sum_of n g
unfolding sum_of
sum_equal zero f g h = refl
sum_equal (suc n) f g h =
    let a = sum_equal n f g (λ i l. h i (omega arith)) in
    let b = h n (omega arith) in
    omega (arith, a, b)

pub sum-add : (n : ℕ) (f g : ℕ → ℕ) → sum_of n (λ i. f i + g i) ≡ sum_of n f + sum_of n g
unfolding sum_of
sum-add zero f g = refl
sum-add (suc n) f g = let a = sum-add n f g in omega (arith, a)

pub sum-scale : (n c : ℕ) (f : ℕ → ℕ) → sum_of n (λ i. c * f i) ≡ c * sum_of n f
unfolding sum_of
sum-scale zero c f = omega arith
sum-scale (suc n) c f = let a = sum-scale n c f in omega (arith, a)

pub sum-zero : (n : ℕ) → sum_of n (λ i. 0) ≡ 0
unfolding sum_of
sum-zero zero = refl
sum-zero (suc n) = let a = sum-zero n in omega (arith, a)

pub sum-split : (m n : ℕ) (f : ℕ → ℕ) → sum_of (m + n) f ≡ sum_of m f + sum_of n (λ i. f (m + i))
unfolding sum_of
sum-split m zero f = simp add-zero refl
sum-split m (suc n) f = rw add-suc (let a = sum-split m n f in omega (arith, a))

pub sum-swap : (m n : ℕ) (f : ℕ → ℕ → ℕ) → sum_of m (λ i. sum_of n (λ j. f i j)) ≡ sum_of n (λ j. sum_of m (λ i. f i j))
unfolding sum_of
sum-swap zero n f = sym (sum-zero n)
sum-swap (suc m) n f =
    ap (λ z. z + sum_of n (λ j. f m j)) (sum-swap m n f) ∙ sym (sum-add n (λ j. sum_of m (λ i. f i j)) (λ j. f m j))

-- folding by w keeps the value at each x with x^m = w
pub value-folded : (q m w x : ℕ) (f : ℕ → ℕ) → x ^ m % q ≡ w % q → value m (folded m w f) x % q ≡ value (m + m) f x % q
value-folded q m w x f e =
    sum_same q m (monomial (folded m w f) x) (λ i. monomial f x i + monomial f x (m + i))
    (λ i l.
    let p : x ^ (m + i) ≡ x ^ m * x ^ i = pow-add x m i in
    let a : (w * (f (m + i) * x ^ i)) % q ≡ (x ^ m * (f (m + i) * x ^ i)) % q = mul_same q w (x ^ m) (f (m + i) * x ^ i) (f (m + i) * x ^ i) (sym e) refl in
    let b : (f i * x ^ i + w * (f (m + i) * x ^ i)) % q ≡ (f i * x ^ i + x ^ m * (f (m + i) * x ^ i)) % q = add_same q (f i * x ^ i) (f i * x ^ i) (w * (f (m + i) * x ^ i)) (x ^ m * (f (m + i) * x ^ i)) refl a in
    let left : (f i + w * f (m + i)) * x ^ i ≡ f i * x ^ i + w * (f (m + i) * x ^ i) = omega arith in
    let right : f (m + i) * (x ^ m * x ^ i) ≡ x ^ m * (f (m + i) * x ^ i) = omega arith in
    ap (λ z. z % q) left ∙ b ∙ ap (λ z. (f i * x ^ i + z) % q) (sym right) ∙ ap (λ z. (f i * x ^ i + f (m + i) * z) % q) (sym p))
    ∙ ap (λ z. z % q) (sum-add m (monomial f x) (λ i. monomial f x (m + i)) ∙ sym (sum-split m m (monomial f x)))
