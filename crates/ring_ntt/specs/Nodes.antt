-- The tree of divisions that a fast transform walks, level by level. Node 1 stands for X^n + 1, and
-- node k, over X^2m - c, has the children 2k, over X^m - w, and 2k + 1, over X^m + w, where w^2 = c and
-- w is entry k of the table.
use Rattle.std.specs.Prelude.{ℕ, zero, suc, ◌+◌, ◌-◌, ◌*◌, ◌%◌, ◌^◌, List, [], ◌∷◌, ◌++◌, map, get_or, take, drop, cond, nat_lt}
use Rattle.ring_ntt.specs.Transform.{entry}

-- w * z modulo q
abbrev pub multiple : ℕ → ℕ → ℕ → ℕ
multiple q w z = z * w % q

-- the table of 2^d roots: the powers of psi modulo q, their exponents in bit-reversed order. The
-- table for psi is the one of half the length for psi^2, and then the same times psi
unfoldable pub powers : ℕ → ℕ → ℕ → List ℕ
powers q zero psi = 1 ∷ []
powers q (suc d) psi = powers q d (psi * psi % q) ++ map (multiple q psi) (powers q d (psi * psi % q))

-- the remainder modulo X^m - w of a polynomial with 2m coefficients: X^m counts as w
abbrev pub folded : ℕ → ℕ → (ℕ → ℕ) → ℕ → ℕ
folded m w f i = f i + w * f (m + i)

-- the values below node k, d levels above the leaves, of the remainder f there
unfoldable pub node : ℕ → List ℕ → ℕ → ℕ → (ℕ → ℕ) → List ℕ
node q zs zero k f = f 0 % q ∷ []
node q zs (suc d) k f = node q zs d (2 * k) (folded (2 ^ d) (get_or zs k 0) f) ++ node q zs d (2 * k + 1) (folded (2 ^ d) (q - get_or zs k 0) f)

-- two remainders joined to twice the remainder above them: z is the inverse of w
abbrev pub joined : ℕ → ℕ → ℕ → (ℕ → ℕ) → (ℕ → ℕ) → ℕ → ℕ
joined q m z u v i = cond (nat_lt i m) (u i + v i) (z * (u (i - m) + (q - 1) * v (i - m)))

-- 2^d times the remainder at node k, from its values
unfoldable pub undone : ℕ → List ℕ → ℕ → ℕ → List ℕ → ℕ → ℕ
undone q zs zero k y = entry y
undone q zs (suc d) k y = joined q (2 ^ d) (get_or zs k 0) (undone q zs d (2 * k) (take (2 ^ d) y)) (undone q zs d (2 * k + 1) (drop (2 ^ d) y))
