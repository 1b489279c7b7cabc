-- Values of the ring's product: at each x with x^n = -1 they are the products of the values.
use Rattle.std.proofs.Common.{◌≡◌, ℕ, ◌+◌, ◌-◌, ◌*◌, ◌%◌, ◌^◌, ◌<◌, ◌≤◌, cond, leb, List, refl, sym, ◌∙◌, ap, arith}
use Rattle.std.proofs.lemmas.Nat.{pow-add}
use Rattle.std.proofs.lemmas.Bool.{le-leb, lt-leb}
use Rattle.std.proofs.lemmas.List.FromFn.{get_or-map-range_with_len}
use Rattle.std.specs.Prelude.{ℤ}
use Rattle.ring_spec.specs.Ring.{residue, term, wrapped, residues, coefficient, ring_product}
use Rattle.ring_ntt.specs.Transform.{sum_of, value, monomial, entry}
use Rattle.ring_ntt.proofs.Congruence.{add_same, mul_same}
use Rattle.ring_ntt.proofs.Sums.{sum_same, sum_equal, sum-scale, sum-split, sum-swap}
use Rattle.ring_ntt.proofs.Residues.{residue-total, residue-product}

-- what a_i gives to coefficient k of a product, as a natural number modulo q
pub natural_term : ℕ → ℕ → (ℕ → ℕ) → (ℕ → ℕ) → ℕ → ℕ → ℕ
natural_term q n a b k i = cond (leb i k) (a i * b (k - i)) ((q - 1) * (a i * b (k + n - i)))

product_entry : (q n k : ℕ) (f g : List ℕ) → 0 < q → k < n → entry (ring_product q n f g) k % q ≡ sum_of n (natural_term q n (entry f) (entry g) k) % q
unfolding ring_product residues wrapped natural_term
product_entry q n k f g l below =
    let t : ℕ → ℤ = term n (coefficient f) (coefficient g) k in
    ap (λ z. z % q) (get_or-map-range_with_len (λ i. residue q (wrapped n (coefficient f) (coefficient g) i)) 0 n k k 0 below (omega arith))
    ∙ residue-total q n t l
    ∙ sum_same q n (λ i. residue q (t i)) (natural_term q n (entry f) (entry g) k)
    (λ i m. residue-product q (leb i k) (entry f i) (entry g (k - i)) (entry g (k + n - i)) l)

later_term : (q n i j : ℕ) (a b : ℕ → ℕ) → natural_term q n a b (i + j) i ≡ a i * b j
unfolding natural_term
later_term q n i j a b =
    let e : i + j - i ≡ j = omega arith in
    ap (λ c. cond c (a i * b (i + j - i)) ((q - 1) * (a i * b (i + j + n - i)))) (le-leb i (i + j) (omega arith)) ∙ ap (λ y. a i * b y) e

earlier_term : (q n i k : ℕ) (a b : ℕ → ℕ) → k < i → i ≤ n → natural_term q n a b k i ≡ (q - 1) * (a i * b (n - i + k))
unfolding natural_term
earlier_term q n i k a b l m =
    let e : k + n - i ≡ n - i + k = omega arith in
    ap (λ c. cond c (a i * b (k - i)) ((q - 1) * (a i * b (k + n - i)))) (lt-leb i k l) ∙ ap (λ y. (q - 1) * (a i * b y)) e

-- all that a_i gives, at x
row : (q n x i : ℕ) (a b : ℕ → ℕ) → x ^ n % q ≡ (q - 1) % q → i < n →
    sum_of n (λ k. natural_term q n a b k i * x ^ k) % q ≡ (a i * x ^ i * value n b x) % q
row q n x i a b e l =
    let r : ℕ = n - i in
    let parts : n ≡ i + r = omega arith in
    let turned : n ≡ r + i = omega arith in
    let h : ℕ → ℕ = λ k. natural_term q n a b k i * x ^ k in
    let c : ℕ = a i * x ^ i in
    let early : sum_of i h % q ≡ sum_of i (λ k. c * monomial b x (r + k)) % q =
    sum_same q i h (λ k. c * monomial b x (r + k)) (λ k m.
    let p1 : x ^ i * x ^ (r + k) ≡ x ^ n * x ^ k =
    sym (pow-add x i (r + k)) ∙ ap (λ y. x ^ y) (let g : i + (r + k) ≡ n + k = omega arith in g) ∙ pow-add x n k in
    let p2 = ap (λ y. a i * b (r + k) * y) p1 in
    ap (λ y. y * x ^ k % q) (earlier_term q n i k a b m (omega arith))
    ∙ ap (λ y. y % q) (let g : (q - 1) * (a i * b (r + k)) * x ^ k ≡ (q - 1) * (a i * b (r + k) * x ^ k) = omega arith in g)
    ∙ mul_same q (q - 1) (x ^ n) (a i * b (r + k) * x ^ k) (a i * b (r + k) * x ^ k) (sym e) refl
    ∙ ap (λ y. y % q) (let g : x ^ n * (a i * b (r + k) * x ^ k) ≡ c * (b (r + k) * x ^ (r + k)) = omega (arith, p2) in g)) in
    let late : sum_of r (λ j. h (i + j)) ≡ sum_of r (λ j. c * monomial b x j) =
    sum_equal r (λ j. h (i + j)) (λ j. c * monomial b x j) (λ j m.
    let p1 = ap (λ y. a i * b j * y) (pow-add x i j) in
    ap (λ y. y * x ^ (i + j)) (later_term q n i j a b) ∙ (let g : a i * b j * x ^ (i + j) ≡ c * (b j * x ^ j) = omega (arith, p1) in g)) in
    ap (λ y. sum_of y h % q) parts
    ∙ ap (λ y. y % q) (sum-split i r h)
    ∙ add_same q (sum_of i h) (sum_of i (λ k. c * monomial b x (r + k))) (sum_of r (λ j. h (i + j))) (sum_of r (λ j. c * monomial b x j)) early (ap (λ y. y % q) late)
    ∙ ap (λ y. y % q)
    (ap (λ y. y + sum_of r (λ j. c * monomial b x j)) (sum-scale i c (λ k. monomial b x (r + k)))
    ∙ ap (λ y. c * sum_of i (λ k. monomial b x (r + k)) + y) (sum-scale r c (monomial b x))
    ∙ (let g : c * sum_of i (λ k. monomial b x (r + k)) + c * sum_of r (monomial b x) ≡ c * (sum_of r (monomial b x) + sum_of i (λ k. monomial b x (r + k))) = omega arith in g)
    ∙ ap (λ y. c * y) (sym (sum-split r i (monomial b x)))
    ∙ ap (λ y. c * sum_of y (monomial b x)) (sym turned))

pub value-product : (q n x : ℕ) (f g : List ℕ) → 0 < q → x ^ n % q ≡ (q - 1) % q →
    value n (entry (ring_product q n f g)) x % q ≡ (value n (entry f) x * value n (entry g) x) % q
value-product q n x f g l e =
    let a : ℕ → ℕ = entry f in
    let b : ℕ → ℕ = entry g in
    let v : ℕ = value n b x in
    sum_same q n (monomial (entry (ring_product q n f g)) x) (λ k. sum_of n (λ i. natural_term q n a b k i * x ^ k))
    (λ k m.
    mul_same q (entry (ring_product q n f g) k) (sum_of n (natural_term q n a b k)) (x ^ k) (x ^ k) (product_entry q n k f g l m) refl
    ∙ ap (λ y. y % q)
    ((let h : sum_of n (natural_term q n a b k) * x ^ k ≡ x ^ k * sum_of n (natural_term q n a b k) = omega arith in h)
    ∙ sym (sum-scale n (x ^ k) (natural_term q n a b k))
    ∙ sum_equal n (λ i. x ^ k * natural_term q n a b k i) (λ i. natural_term q n a b k i * x ^ k)
    (λ i _. (let h : x ^ k * natural_term q n a b k i ≡ natural_term q n a b k i * x ^ k = omega arith in h))))
    ∙ ap (λ y. y % q) (sum-swap n n (λ k i. natural_term q n a b k i * x ^ k))
    ∙ sum_same q n (λ i. sum_of n (λ k. natural_term q n a b k i * x ^ k)) (λ i. v * monomial a x i)
    (λ i m. row q n x i a b e m ∙ ap (λ y. y % q) (let h : a i * x ^ i * v ≡ v * (a i * x ^ i) = omega arith in h))
    ∙ ap (λ y. y % q) (sum-scale n v (monomial a x) ∙ (let h : v * sum_of n (monomial a x) ≡ sum_of n (monomial a x) * v = omega arith in h))
