-- The ring Z_q[X]/(X^n+1). A polynomial over the whole numbers is the function from a place to its
-- coefficient, of which the places below n count; one over the residues is a list.
use Rattle.std.specs.Prelude.{◌≡◌, ℕ, zero, suc, ◌+◌, ◌-◌, ◌*◌, ◌%◌, ◌<◌, ◌≤◌, max, cond, nat_eq, nat_le, nat_lt, List, [], ◌∷◌, map, length, All, get_or, ℤ, pos, negsuc, ◌+ℤ◌, ◌-ℤ◌, ◌*ℤ◌, neg_ℤ, unsigned_abs}
use Rattle.std.specs.List.{range_with_len}

-- ---- what lists of numbers stand for

-- the coefficients of a polynomial: residues, lowest degree first
abbrev pub Coefficients : Type 0
Coefficients = List ℕ

-- ---- whole numbers

-- the sum f 0 + f 1 + .. + f (n - 1)
unfoldable pub total : ℕ → (ℕ → ℤ) → ℤ
total zero f = pos 0
total (suc n) f = total n f +ℤ f n

-- the residue of a whole number modulo q, from 0 to q - 1
unfoldable pub residue : ℕ → ℤ → ℕ
residue q (pos a) = a % q
residue q (negsuc a) = q - 1 - a % q

-- the residue of x modulo q that is least in absolute value, for x from 0 to q - 1 and q odd
unfoldable pub centre : ℕ → ℕ → ℤ
centre q x = cond (nat_lt (2 * x) q) (pos x) (pos x -ℤ pos q)

-- ---- polynomials over the whole numbers

-- entry by entry: sum, difference, negative, and k times
abbrev pub plus : (ℕ → ℤ) → (ℕ → ℤ) → ℕ → ℤ
plus a b i = a i +ℤ b i

abbrev pub minus : (ℕ → ℤ) → (ℕ → ℤ) → ℕ → ℤ
minus a b i = a i -ℤ b i

abbrev pub negated : (ℕ → ℤ) → ℕ → ℤ
negated a i = neg_ℤ (a i)

abbrev pub times : ℤ → (ℕ → ℤ) → ℕ → ℤ
times k a i = k *ℤ a i

-- what a_i gives to coefficient k of a product: a_i * b_j for the j with i + j = k,
-- or its negative for the j with i + j = k + n, since X^n is -1
abbrev pub term : ℕ → (ℕ → ℤ) → (ℕ → ℤ) → ℕ → ℕ → ℤ
term n a b k i = cond (nat_le i k) (a i *ℤ b (k - i)) (neg_ℤ (a i *ℤ b (k + n - i)))

-- the product: its coefficient k is the sum of a_i * b_j over i + j = k, less that over i + j = k + n
unfoldable pub wrapped : ℕ → (ℕ → ℤ) → (ℕ → ℤ) → ℕ → ℤ
wrapped n a b k = total n (term n a b k)

-- what coefficient i gives to coefficient k when X becomes X^g: i goes to place i * g modulo 2n,
-- and a place p of n or more is place p - n with the sign changed
abbrev pub moved : ℕ → ℕ → (ℕ → ℤ) → ℕ → ℕ → ℤ
moved n g a k i =
    cond (nat_eq (i * g % (2 * n)) k) (a i) (cond (nat_eq (i * g % (2 * n)) (k + n)) (neg_ℤ (a i)) (pos 0))

-- the automorphism that takes X to X^g, for g odd
unfoldable pub turned : ℕ → ℕ → (ℕ → ℤ) → ℕ → ℤ
turned n g a k = total n (moved n g a k)

-- each of the n coefficients is at most v in absolute value
abbrev pub IsWithin : ℕ → ℕ → (ℕ → ℤ) → Type 0
IsWithin n v a = (i : ℕ) → i < n → unsigned_abs (a i) ≤ v

-- ---- lists

-- the coefficient at a place of a list of residues, 0 past its end
abbrev pub coefficient : Coefficients → ℕ → ℤ
coefficient f i = pos (get_or f i 0)

-- the same of a list of whole numbers
abbrev pub signed : List ℤ → ℕ → ℤ
signed f i = get_or f i (pos 0)

-- the list of the residues of n coefficients
unfoldable pub residues : ℕ → ℕ → (ℕ → ℤ) → Coefficients
residues q n a = map (λ i. residue q (a i)) (range_with_len 0 n)

-- a list is a polynomial of the ring where it has n entries, each below q
pub record IsPoly (q n : ℕ) (f : Coefficients) : Type 0 where
  pub entries : length f ≡ n
  pub below : All (λ x. x < q) f

-- ---- the operations of the ring, on lists of residues

unfoldable pub ring_sum : ℕ → ℕ → Coefficients → Coefficients → Coefficients
ring_sum q n f g = residues q n (plus (coefficient f) (coefficient g))

unfoldable pub ring_difference : ℕ → ℕ → Coefficients → Coefficients → Coefficients
ring_difference q n f g = residues q n (minus (coefficient f) (coefficient g))

unfoldable pub ring_negative : ℕ → ℕ → Coefficients → Coefficients
ring_negative q n f = residues q n (negated (coefficient f))

-- k times f
unfoldable pub ring_multiple : ℕ → ℕ → ℕ → Coefficients → Coefficients
ring_multiple q n k f = residues q n (times (pos k) (coefficient f))

unfoldable pub ring_product : ℕ → ℕ → Coefficients → Coefficients → Coefficients
ring_product q n f g = residues q n (wrapped n (coefficient f) (coefficient g))

-- X becomes X^g
unfoldable pub ring_turned : ℕ → ℕ → ℕ → Coefficients → Coefficients
ring_turned q n g f = residues q n (turned n g (coefficient f))

-- ---- size

-- the greatest absolute value in a list of whole numbers
abbrev pub greatest : List ℤ → ℕ
greatest [] = 0
greatest (x ∷ xs) = max (unsigned_abs x) (greatest xs)

-- the centres of a list of residues, and the greatest absolute value among them
abbrev pub centres : ℕ → Coefficients → List ℤ
centres q f = map (centre q) f

abbrev pub size : ℕ → Coefficients → ℕ
size q f = greatest (centres q f)

-- the centres as a polynomial over the whole numbers
abbrev pub centred : ℕ → Coefficients → ℕ → ℤ
centred q f i = centre q (get_or f i 0)
