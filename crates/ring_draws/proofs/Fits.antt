-- What is drawn is a polynomial of the ring.
use Rattle.std.proofs.Common.{◌≡◌, ℕ, ◌<◌, List, subst, sym}
use Rattle.ring_spec.specs.Ring.{IsPoly}
use Rattle.bfv_spec.specs.Drawn.{uniform_poly, small_poly, wide_poly, ternary_poly}
use Rattle.bfv_laws.proofs.Draws.{uniform_poly_is, small_poly_is, wide_poly_is, ternary_poly_is}

pub uniform-fits : (q n : ℕ) (seed : List ℕ) (stream k : ℕ) (h : List ℕ) → h ≡ uniform_poly q n seed stream k → 0 < q → IsPoly q n h
uniform-fits q n seed stream k h e l = subst (IsPoly q n) (sym e) (uniform_poly_is q n seed stream k l)

pub small-fits : (q n b : ℕ) (seed : List ℕ) (stream k : ℕ) (h : List ℕ) → h ≡ small_poly q n b seed stream k → 0 < q → IsPoly q n h
small-fits q n b seed stream k h e l = subst (IsPoly q n) (sym e) (small_poly_is q n b seed stream k l)

pub wide-fits : (q n d : ℕ) (seed : List ℕ) (stream k : ℕ) (h : List ℕ) → h ≡ wide_poly q n d seed stream k → 0 < q → IsPoly q n h
wide-fits q n d seed stream k h e l = subst (IsPoly q n) (sym e) (wide_poly_is q n d seed stream k l)

pub ternary-fits : (q n : ℕ) (seed : List ℕ) (stream k : ℕ) (h : List ℕ) → h ≡ ternary_poly q n seed stream k → 0 < q → IsPoly q n h
ternary-fits q n seed stream k h e l = subst (IsPoly q n) (sym e) (ternary_poly_is q n seed stream k l)
