-- The gadget: the digits of a residue, and the weights by which they make it up again. After Fan and
-- Vercauteren 2012, section 4; balanced digits are this project's own choice of them.
use Rattle.std.specs.Prelude.{ℕ, zero, suc, ◌+◌, ◌-◌, ◌*◌, ◌/◌, ◌%◌, ◌^◌, ◌<◌, ◌≤◌, Bool, cond, nat_eq, List, map, get_or, ℤ, pos, negsuc, ◌+ℤ◌, ◌-ℤ◌}
use Rattle.std.specs.List.{range_with_len}
use Rattle.ring_spec.specs.Ring.{Coefficients, residue, residues, centre}

-- how many bits a digit has, how many rows there are, one for each digit of a residue, and whether digits
-- are balanced
pub record Gadget : Type 0 where
  pub bits : ℕ
  pub rows : ℕ
  pub balanced : Bool

-- a gadget serves a modulus where its rows are enough for every residue
pub record Serves (q : ℕ) (g : Gadget) : Type 0 where
  pub bits : 0 < g.bits
  pub rows : q ≤ 2 ^ (g.bits * g.rows)

-- the weight of row i: 2^(b*i)
unfoldable pub weight : Gadget → ℕ → ℕ
weight g i = 2 ^ (g.bits * i)

-- W, which no digit passes in absolute value: 2^b - 1, and 2^(b-1) where digits are balanced
unfoldable pub widest : Gadget → ℕ
widest g = cond g.balanced (2 ^ (g.bits - 1)) (2 ^ g.bits - 1)

-- ---- digits from 0 to 2^b - 1

-- digit i of a number in base 2^b
unfoldable pub base_digit : ℕ → ℕ → ℕ → ℕ
base_digit b i x = x / 2 ^ (b * i) % 2 ^ b

-- ---- balanced digits

-- the number from -2^(b-1) to 2^(b-1) - 1 that is equal to z modulo 2^b
unfoldable pub lowest : ℕ → ℤ → ℤ
lowest b z = pos (residue (2 ^ b) (z +ℤ pos (2 ^ (b - 1)))) -ℤ pos (2 ^ (b - 1))

-- a whole number divided by m, rounded down
unfoldable pub divided : ℕ → ℤ → ℤ
divided m (pos a) = pos (a / m)
divided m (negsuc a) = negsuc (a / m)

-- what is left of z before row i: z itself, then each time what was left less its lowest digit, divided by 2^b
unfoldable pub rest : ℕ → ℕ → ℤ → ℤ
rest b zero z = z
rest b (suc i) z = divided (2 ^ b) (rest b i z -ℤ lowest b (rest b i z))

-- digit i of a whole number, of l: the lowest of what is left, and all of it in the last row
unfoldable pub balanced_digit : ℕ → ℕ → ℕ → ℤ → ℤ
balanced_digit b l i z = cond (nat_eq (i + 1) l) (rest b i z) (lowest b (rest b i z))

-- ---- polynomials

-- digit i of a residue modulo q: its digit in base 2^b, or the balanced digit of its centre
unfoldable pub digit : ℕ → Gadget → ℕ → ℕ → ℤ
digit q g i x = cond g.balanced (balanced_digit g.bits g.rows i (centre q x)) (pos (base_digit g.bits i x))

-- digit i of the coefficient at place k of a polynomial
abbrev pub digit_at : ℕ → Gadget → ℕ → Coefficients → ℕ → ℤ
digit_at q g i f k = digit q g i (get_or f k 0)

-- the polynomial of the digits i of all coefficients, by their residues, and the polynomials of all rows
unfoldable pub digit_poly : ℕ → ℕ → Gadget → Coefficients → ℕ → Coefficients
digit_poly q n g f i = residues q n (digit_at q g i f)

unfoldable pub digit_polys : ℕ → ℕ → Gadget → Coefficients → List Coefficients
digit_polys q n g f = map (digit_poly q n g f) (range_with_len 0 g.rows)
