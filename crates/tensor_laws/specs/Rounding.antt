-- What the rounding of a scaled number is.
use Rattle.std.specs.Prelude.{◌≡◌, ℕ, ◌*◌, ◌%◌, ◌<◌, ◌≤◌, List, pos, ℤ, ◌-ℤ◌, ◌*ℤ◌, unsigned_abs}
use Rattle.ring_spec.specs.Ring.{wrapped, signed}
use Rattle.tensor_spec.specs.Rounding.{int_product, nearest}

-- how far q*y is from t*x
abbrev pub off : ℕ → ℕ → ℤ → ℤ → ℕ
off t q x y = unsigned_abs (pos q *ℤ y -ℤ pos t *ℤ x)

-- q times the nearest number is at most q/2 from t*x
abbrev pub NearestIsNear : Type 0
NearestIsNear = (t q : ℕ) (x : ℤ) → 0 < q → 2 * off t q x (nearest t q x) ≤ q

-- and less than q/2 for q odd
abbrev pub NearestIsNearer : Type 0
NearestIsNearer = (t q : ℕ) (x : ℤ) → q % 2 ≡ 1 → 2 * off t q x (nearest t q x) < q

-- then no other number is as near
abbrev pub NearestIsTheOnly : Type 0
NearestIsTheOnly = (t q : ℕ) (x y : ℤ) → q % 2 ≡ 1 → 2 * off t q x y ≤ q → nearest t q x ≡ y

-- entry i of a product of whole numbers is its coefficient i
abbrev pub ProductsAreWrapped : Type 0
ProductsAreWrapped = (n : ℕ) (f g : List ℤ) (i : ℕ) → i < n → signed (int_product n f g) i ≡ wrapped n (signed f) (signed g) i
