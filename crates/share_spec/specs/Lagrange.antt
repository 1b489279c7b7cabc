-- Division modulo q, and the Lagrange coefficients at 0 for the points of a set.
use Rattle.std.specs.Prelude.{ℕ, ◌*◌, ◌%◌, Bool, not, cond, nat_eq, List, [], ◌∷◌, filter, unwrap_or, pos, ◌-ℤ◌}
use Rattle.std.specs.List.{range_with_len, find}
use Rattle.ring_spec.specs.Ring.{residue}
use Rattle.share_spec.specs.Sets.{has, members}

-- whether y is a/b modulo q: y * b and a leave the same rest
unfoldable pub is_quotient : ℕ → ℕ → ℕ → ℕ → Bool
is_quotient q a b y = nat_eq (y * b % q) (a % q)

-- a/b modulo q: the first number from 0 to q - 1 that is it. Where b has no common divisor with q
-- there is exactly one
unfoldable pub quotient : ℕ → ℕ → ℕ → ℕ
quotient q a b = unwrap_or (find (is_quotient q a b) (range_with_len 0 q)) 0

-- i/(i - j) modulo q
unfoldable pub ratio : ℕ → ℕ → ℕ → ℕ
ratio q j i = quotient q i (residue q (pos i -ℤ pos j))

-- the product of f i over the i of a list
unfoldable pub product_over : (ℕ → ℕ) → List ℕ → ℕ
product_over f [] = 1
product_over f (i ∷ rest) = f i * product_over f rest

-- whether a number is another than j
abbrev pub other_than : ℕ → ℕ → Bool
other_than j i = not (nat_eq i j)

-- lambda_j(P), the Lagrange coefficient of member j of a set P at 0: the product of i/(i - j) modulo
-- q over the members i other than j. It is 0 where j is no member
unfoldable pub lagrange : ℕ → ℕ → ℕ → ℕ
lagrange q set j = cond (has set j) (product_over (ratio q j) (filter (other_than j) (members set)) % q) 0
