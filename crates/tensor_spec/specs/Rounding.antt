-- Whole numbers: the negacyclic product as a list, and the rounding of a scaled number. After Fan and Vercauteren
-- 2012, section 4, where fractions are rounded.
use Rattle.std.specs.Prelude.{ℕ, suc, ◌+◌, ◌*◌, ◌/◌, List, map, ℤ, pos, negsuc, neg_ℤ}
use Rattle.std.specs.List.{range_with_len}
use Rattle.ring_spec.specs.Ring.{wrapped, signed}

-- the product of two polynomials with n coefficients over the whole numbers, where X^n is -1
unfoldable pub int_product : ℕ → List ℤ → List ℤ → List ℤ
int_product n f g = map (wrapped n (signed f) (signed g)) (range_with_len 0 n)

-- the whole number that is nearest to t*x/q: that of the absolute value, with the sign of x; there is no tie where q
-- is odd
unfoldable pub nearest : ℕ → ℕ → ℤ → ℤ
nearest t q (pos a) = pos ((2 * t * a + q) / (2 * q))
nearest t q (negsuc a) = neg_ℤ (pos ((2 * t * suc a + q) / (2 * q)))
