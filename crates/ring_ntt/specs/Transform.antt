-- The transform of a polynomial: its values at the odd powers of a root psi with psi^n = -1 modulo q; and
-- the polynomial that has given values.
use Rattle.std.specs.Prelude.{ℕ, zero, suc, ◌+◌, ◌-◌, ◌*◌, ◌/◌, ◌%◌, ◌^◌, List, [], ◌∷◌, ◌++◌, map, get_or}
use Rattle.std.specs.List.{range_with_len}

-- the sum f 0 + f 1 + .. + f (n - 1)
unfoldable pub sum_of : ℕ → (ℕ → ℕ) → ℕ
sum_of zero f = 0
sum_of (suc n) f = sum_of n f + f n

-- the coefficient at a place, 0 past the end
abbrev pub entry : List ℕ → ℕ → ℕ
entry f i = get_or f i 0

-- one coefficient times its power of x
abbrev pub monomial : (ℕ → ℕ) → ℕ → ℕ → ℕ
monomial f x i = f i * x ^ i

-- the value at x of the polynomial whose n coefficients f gives
abbrev pub value : ℕ → (ℕ → ℕ) → ℕ → ℕ
value n f x = sum_of n (monomial f x)

-- the numbers 0 to 2^d - 1, in the order of their d binary digits read backwards
unfoldable pub bit_reversed : ℕ → List ℕ
bit_reversed zero = 0 ∷ []
bit_reversed (suc d) = map (λ r. 2 * r) (bit_reversed d) ++ map (λ r. 2 * r + 1) (bit_reversed d)

-- the value at psi^(2r+1), modulo q
unfoldable pub value_at : ℕ → ℕ → ℕ → (ℕ → ℕ) → ℕ → ℕ
value_at q n psi f r = value n f (psi ^ (2 * r + 1)) % q

-- the transform of a polynomial with n = 2^d coefficients: its values at psi, psi^3, .., psi^(2n-1),
-- in bit-reversed order
unfoldable pub transform : ℕ → ℕ → ℕ → List ℕ → List ℕ
transform q psi d f = map (value_at q (2 ^ d) psi (entry f)) (bit_reversed d)

-- the inverse of psi, whose power 2n is 1, for n = 2^d; and the inverse of n, for q odd
abbrev pub inverse_root : ℕ → ℕ → ℕ → ℕ
inverse_root q psi d = psi ^ (2 * 2 ^ d - 1) % q

abbrev pub inverse_length : ℕ → ℕ → ℕ
inverse_length q d = (q / 2 + 1) ^ d % q

-- the value at place r of a list over the i-th power of its point, phi being the inverse of psi
abbrev pub divided : ℕ → ℕ → List ℕ → ℕ → ℕ → ℕ
divided d phi y i r = entry y r * phi ^ ((2 * entry (bit_reversed d) r + 1) * i)

-- coefficient i of the polynomial with given values: the sum of the values, each over the i-th power of
-- its point, over n
unfoldable pub interpolated_at : ℕ → ℕ → ℕ → List ℕ → ℕ → ℕ
interpolated_at q psi d y i = inverse_length q d * sum_of (2 ^ d) (divided d (inverse_root q psi d) y i) % q

-- the polynomial with n = 2^d coefficients whose transform is a given list
unfoldable pub inverse_transform : ℕ → ℕ → ℕ → List ℕ → List ℕ
inverse_transform q psi d y = map (interpolated_at q psi d y) (range_with_len 0 (2 ^ d))

-- the product of two transforms, entry by entry
abbrev pub product_at : ℕ → List ℕ → List ℕ → ℕ → ℕ
product_at q a b i = entry a i * entry b i % q

unfoldable pub entrywise : ℕ → ℕ → List ℕ → List ℕ → List ℕ
entrywise q n a b = map (product_at q a b) (range_with_len 0 n)
