-- How large the draws are, and the polynomials of R_q that are made of them.
use Rattle.std.proofs.Common.{ℕ, ◌+◌, ◌*◌, ◌≤◌, ◌<◌, List, map, arith}
use Rattle.std.specs.Prelude.{unsigned_abs}
use Rattle.std.specs.List.{range_with_len}
use Rattle.std.proofs.lemmas.List.FromFn.{length-map-range_with_len, get_or-map-range_with_len}
use Rattle.std.proofs.lemmas.List.Elements.{All-from_get_or}
use Rattle.ring_spec.specs.Ring.{IsPoly, size}
use Rattle.draw_spec.specs.Draws.{uniform, small, wide, ternary, uniform_from, small_from, wide_from, ternary_from}
use Rattle.bfv_spec.specs.Drawn.{uniform_poly, small_poly, wide_poly, ternary_poly}
use Rattle.ring_laws.proofs.Residues.{residues_poly}
use Rattle.ring_laws.proofs.Sizes.{size_residues}
use borrow.Author.Differences.{ints}

-- ---- numbers

-- a small draw is from -b to b
pub small_within : (seed : List ℕ) (stream b k : ℕ) → unsigned_abs (small seed stream b k) ≤ b
unfolding small
small_within seed stream b k = omega (arith, ints)

-- a wide draw is from -d to d
pub wide_within : (seed : List ℕ) (stream d k : ℕ) → unsigned_abs (wide seed stream d k) ≤ d
unfolding wide
wide_within seed stream d k = omega (arith, ints)

-- a ternary draw is from -1 to 1
pub ternary_within : (seed : List ℕ) (stream k : ℕ) → unsigned_abs (ternary seed stream k) ≤ 1
unfolding ternary
ternary_within seed stream k = omega (arith, ints)

-- a uniform draw is below q
pub uniform_below : (seed : List ℕ) (stream q k : ℕ) → 0 < q → uniform seed stream q k < q
unfolding uniform
uniform_below seed stream q k h = omega arith

-- ---- polynomials

-- a uniform polynomial is one of the ring
pub uniform_poly_is : (q n : ℕ) (seed : List ℕ) (stream k : ℕ) → 0 < q → IsPoly q n (uniform_poly q n seed stream k)
unfolding uniform_poly
uniform_poly_is q n seed stream k h = record {
  entries = length-map-range_with_len (uniform_from seed stream q k) 0 n;
  below = All-from_get_or (λ x. x < q) (map (uniform_from seed stream q k) (range_with_len 0 n)) 0
      (λ i l. let l' : i < n = omega (arith, length-map-range_with_len (uniform_from seed stream q k) 0 n) in
      rw (get_or-map-range_with_len (uniform_from seed stream q k) 0 n i i 0 l' (omega arith)) (uniform_below seed stream q (k + 4 * i) h));
}

-- so is a small one
pub small_poly_is : (q n b : ℕ) (seed : List ℕ) (stream k : ℕ) → 0 < q → IsPoly q n (small_poly q n b seed stream k)
unfolding small_poly
small_poly_is q n b seed stream k h = residues_poly q n (small_from seed stream b k) h

-- so is a wide one
pub wide_poly_is : (q n d : ℕ) (seed : List ℕ) (stream k : ℕ) → 0 < q → IsPoly q n (wide_poly q n d seed stream k)
unfolding wide_poly
wide_poly_is q n d seed stream k h = residues_poly q n (wide_from seed stream d k) h

-- so is a ternary one
pub ternary_poly_is : (q n : ℕ) (seed : List ℕ) (stream k : ℕ) → 0 < q → IsPoly q n (ternary_poly q n seed stream k)
unfolding ternary_poly
ternary_poly_is q n seed stream k h = residues_poly q n (ternary_from seed stream k) h

-- ---- their sizes

-- a small polynomial has size at most b
pub size_small_poly : (q n b : ℕ) (seed : List ℕ) (stream k : ℕ) → 0 < q → size q (small_poly q n b seed stream k) ≤ b
unfolding small_poly
size_small_poly q n b seed stream k h = size_residues q n b (small_from seed stream b k) h (λ i l. small_within seed stream b (k + i))

-- a wide one has size at most d
pub size_wide_poly : (q n d : ℕ) (seed : List ℕ) (stream k : ℕ) → 0 < q → size q (wide_poly q n d seed stream k) ≤ d
unfolding wide_poly
size_wide_poly q n d seed stream k h = size_residues q n d (wide_from seed stream d k) h (λ i l. wide_within seed stream d (k + 2 * i))

-- a ternary one has size at most 1
pub size_ternary_poly : (q n : ℕ) (seed : List ℕ) (stream k : ℕ) → 0 < q → size q (ternary_poly q n seed stream k) ≤ 1
unfolding ternary_poly
size_ternary_poly q n seed stream k h = size_residues q n 1 (ternary_from seed stream k) h (λ i l. ternary_within seed stream (k + i))
