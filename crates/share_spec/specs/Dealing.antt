-- What the parties deal, the shares, the secret, and the parts of those who act together.
use Rattle.std.specs.Prelude.{ℕ, zero, suc, ◌+◌, ◌*◌, ◌^◌, List, [], map, length, get_or, ℤ, pos, ◌*ℤ◌}
use Rattle.std.specs.List.{range_with_len}
use Rattle.ring_spec.specs.Ring.{total, residues, coefficient, ring_multiple}
use Rattle.ring_spec.specs.Aggregate.{ring_total}
use Rattle.draw_spec.specs.Streams.{part_stream}
use Rattle.bfv_spec.specs.Drawn.{ternary_poly, uniform_poly}
use Rattle.share_spec.specs.Sets.{members}
use Rattle.share_spec.specs.Lagrange.{lagrange}

-- ---- one party

-- a party's part of the secret: n ternary draws
unfoldable pub own_part : ℕ → ℕ → List ℕ → List ℕ
own_part q n seed = ternary_poly q n seed part_stream 0

-- coefficient d of what it deals: its part, and behind the part's n words one uniform polynomial
-- after the other, of 4n words each
unfoldable pub dealing_at : ℕ → ℕ → List ℕ → ℕ → List ℕ
dealing_at q n seed zero = own_part q n seed
dealing_at q n seed (suc d) = uniform_poly q n seed part_stream (n + 4 * n * d)

-- its dealing for the threshold t: the coefficients 0 to t - 1
unfoldable pub dealing : ℕ → ℕ → ℕ → List ℕ → List (List ℕ)
dealing q n t seed = map (dealing_at q n seed) (range_with_len 0 t)

-- coefficient i of f_d * p^d
abbrev pub power : List (List ℕ) → ℕ → ℕ → ℕ → ℤ
power fs p i d = coefficient (get_or fs d []) i *ℤ pos (p ^ d)

-- the value at point p of the polynomials f_0, f_1, ..: f_0 + f_1 * p + f_2 * p^2 + .., modulo q
unfoldable pub value_at : ℕ → ℕ → List (List ℕ) → ℕ → List ℕ
value_at q n fs p = residues q n (λ i. total (length fs) (power fs p i))

-- what a party deals to point p
unfoldable pub dealt : ℕ → ℕ → ℕ → ℕ → List ℕ → List ℕ
dealt q n t p seed = value_at q n (dealing q n t seed) p

-- ---- all dealers, where `seed` tells the seed of a party by its number

-- what party j deals to point p
unfoldable pub dealt_by : ℕ → ℕ → ℕ → (ℕ → List ℕ) → ℕ → ℕ → List ℕ
dealt_by q n t seed p j = dealt q n t p (seed j)

-- the part of party j
unfoldable pub own_by : ℕ → ℕ → (ℕ → List ℕ) → ℕ → List ℕ
own_by q n seed j = own_part q n (seed j)

-- the share at point p: the sum of what all dealers deal to it for the threshold t
unfoldable pub share : ℕ → ℕ → ℕ → (ℕ → List ℕ) → List ℕ → ℕ → List ℕ
share q n t seed dealers p = ring_total q n (map (dealt_by q n t seed p) dealers)

-- the secret: the sum of the dealers' own parts
unfoldable pub secret : ℕ → ℕ → (ℕ → List ℕ) → List ℕ → List ℕ
secret q n seed dealers = ring_total q n (map (own_by q n seed) dealers)

-- ---- the parties of a set

-- part_j(P) = lambda_j(P) * share_j: what party j takes part with when the set P acts
unfoldable pub part : ℕ → ℕ → ℕ → (ℕ → List ℕ) → List ℕ → ℕ → ℕ → List ℕ
part q n t seed dealers set j = ring_multiple q n (lagrange q set j) (share q n t seed dealers j)

-- the parts of all members, rising
unfoldable pub parts : ℕ → ℕ → ℕ → (ℕ → List ℕ) → List ℕ → ℕ → List (List ℕ)
parts q n t seed dealers set = map (part q n t seed dealers set) (members set)
