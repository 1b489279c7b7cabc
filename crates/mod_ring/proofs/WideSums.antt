-- Sums of products that are not yet reduced: how large they are, and what their remainders stand for.
use Rattle.std.proofs.Common.{◌≡◌, ℕ, ◌+◌, ◌*◌, ◌%◌, ◌^◌, ◌<◌, ◌≤◌, List, All, length, get_or, replicate, sym, ◌∙◌, ap, arith}
use Rattle.std.proofs.Math.Nat.{add-mod, zero-mod}
use Rattle.std.proofs.lemmas.Nat.{mul-le, mod_below}
use Rattle.std.proofs.lemmas.List.{get_or-map, length-map, get_or-replicate, length-replicate}
use Rattle.std.proofs.lemmas.List.Elements.{All-from_get_or}
use Rattle.std.proofs.lemmas.List.FromFn.{get_or-map-range_with_len, length-map-range_with_len, fill_by_all}
use Rattle.ring_spec.specs.Ring.{IsPoly, ring_sum, ring_product}
use Rattle.ring_ntt.specs.Transform.{sum_of, divided, inverse_root, inverse_length, bit_reversed, interpolated_at, entry, entrywise, inverse_transform}
use Rattle.ring_ntt.proofs.Sums.{sum_equal, sum-zero}
use Rattle.ring_ntt.proofs.Interpolation.{HasRoot}
use Rattle.ring_ntt.proofs.Laws.{entrywise-poly}
use Rattle.ring_ntt.proofs.Sides.{ring_sum-is, inverse-sum, inverse-product}
use Rattle.mod_ring.specs.WideSums.{remainders, raised, raised_sums, AreWithin}

-- ---- how large

pub product_within : (x y : ℕ) → x < 2 ^ 55 → y < 2 ^ 55 → x * y ≤ 2 ^ 110
product_within x y l l' = let e = mul-le x y (2 ^ 55) (2 ^ 55) (omega arith) (omega arith) in omega (arith, e)

length-raised : (sums f g : List ℕ) → length (raised_sums sums f g) ≡ length sums
unfolding raised_sums
length-raised sums f g = length-map-range_with_len (raised sums f g) 0 (length sums)

raised_at : (sums f g : List ℕ) (k : ℕ) → k < length sums → get_or (raised_sums sums f g) k 0 ≡ raised sums f g k
unfolding raised_sums
raised_at sums f g k l = get_or-map-range_with_len (raised sums f g) 0 (length sums) k k 0 l (omega arith)

pub raised_within : (terms : ℕ) (sums f g : List ℕ) → AreWithin terms sums → length f ≡ length sums → length g ≡ length sums → All (λ x. x < 2 ^ 55) f → All (λ x. x < 2 ^ 55) g → AreWithin (terms + 1) (raised_sums sums f g)
raised_within terms sums f g h lf lg bf bg = All-from_get_or (λ x. x ≤ (terms + 1) * 2 ^ 110) (raised_sums sums f g) 0
    (λ k l.
    let here : k < length sums = omega (arith, l, length-raised sums f g) in
    let a = h k 0 here in
    let b = product_within (get_or f k 0) (get_or g k 0) (bf k 0 (omega (arith, lf, here))) (bg k 0 (omega (arith, lg, here))) in
    rw (raised_at sums f g k here) (omega (arith, a, b)))

-- ---- what their remainders stand for

length-remainders : (q : ℕ) (sums : List ℕ) → length (remainders q sums) ≡ length sums
unfolding remainders
length-remainders q sums = length-map sums (λ x. x % q)

remainders_at : (q : ℕ) (sums : List ℕ) (k : ℕ) → k < length sums → get_or (remainders q sums) k 0 ≡ get_or sums k 0 % q
unfolding remainders
remainders_at q sums k l = get_or-map (λ x. x % q) sums k 0 0 l

pub remainders_poly : (q n : ℕ) (sums : List ℕ) → 0 < q → length sums ≡ n → IsPoly q n (remainders q sums)
remainders_poly q n sums h len = record {
  entries = length-remainders q sums ∙ len;
  below = All-from_get_or (λ x. x < q) (remainders q sums) 0
      (λ k l. let here : k < length sums = omega (arith, l, length-remainders q sums) in
      rw (remainders_at q sums k here) (mod_below (get_or sums k 0) q h));
}

-- the remainders of sums that were raised are the sums of the remainders and the products of entries
raised_remainders : (q n : ℕ) (sums f g : List ℕ) → length sums ≡ n → remainders q (raised_sums sums f g) ≡ ring_sum q n (remainders q sums) (entrywise q n f g)
unfolding entrywise
raised_remainders q n sums f g len =
    ring_sum-is q n (remainders q sums) (entrywise q n f g) (remainders q (raised_sums sums f g))
    (length-remainders q (raised_sums sums f g) ∙ length-raised sums f g ∙ len)
    (λ k l.
    let here : k < length sums = omega (arith, l, len) in
    remainders_at q (raised_sums sums f g) k (omega (arith, here, length-raised sums f g))
    ∙ ap (λ (x : ℕ). x % q) (raised_at sums f g k here)
    ∙ add-mod (get_or sums k 0) (get_or f k 0 * get_or g k 0) q
    ∙ ap (λ (x : ℕ). (x + get_or f k 0 * get_or g k 0 % q) % q) (sym (remainders_at q sums k here))
    ∙ ap (λ (x : ℕ). (get_or (remainders q sums) k 0 + x) % q) (sym (get_or-map-range_with_len (λ i. entry f i * entry g i % q) 0 n k k 0 l (omega arith))))

-- so they stand for the sum with the product added
pub raised_stands : (q t psi : ℕ) (sums f g : List ℕ) → HasRoot q t psi → length sums ≡ 2 ^ t → IsPoly q (2 ^ t) f → IsPoly q (2 ^ t) g →
    inverse_transform q psi t (remainders q (raised_sums sums f g))
    ≡ ring_sum q (2 ^ t) (inverse_transform q psi t (remainders q sums)) (ring_product q (2 ^ t) (inverse_transform q psi t f) (inverse_transform q psi t g))
raised_stands q t psi sums f g h len pf pg =
    let n : ℕ = 2 ^ t in
    let positive : 0 < q = omega (arith, h.above_one) in
    ap (inverse_transform q psi t) (raised_remainders q n sums f g len)
    ∙ inverse-sum q t psi (remainders q sums) (entrywise q n f g) h (remainders_poly q n sums positive len) (entrywise-poly q n f g positive)
    ∙ ap (ring_sum q n (inverse_transform q psi t (remainders q sums))) (inverse-product q t psi f g h pf pg)

-- zeros stand for the zero polynomial
pub zeros_stand : (q t psi n : ℕ) → 2 ^ t ≡ n → inverse_transform q psi t (remainders q (replicate n 0)) ≡ replicate n 0
unfolding inverse_transform interpolated_at
zeros_stand q t psi n e =
    sym (fill_by_all (interpolated_at q psi t (remainders q (replicate n 0))) (replicate n 0) (2 ^ t) 0 (length-replicate {A = ℕ} n 0 ∙ sym e)
    (λ k l. get_or-replicate n k 0 0 (omega (arith, l, e)) ∙ sym (ap (λ (x : ℕ). inverse_length q t * x % q) (nothing k) ∙ (let z : inverse_length q t * 0 ≡ 0 = omega arith in ap (λ (x : ℕ). x % q) z ∙ zero-mod q))))
  where
    nothing : (k : ℕ) → sum_of (2 ^ t) (divided t (inverse_root q psi t) (remainders q (replicate n 0)) k) ≡ 0
    nothing k =
        sum_equal (2 ^ t) (divided t (inverse_root q psi t) (remainders q (replicate n 0)) k) (λ i. 0)
        (λ i l.
        let here : i < n = omega (arith, l, e) in
        let zero_entry : entry (remainders q (replicate n 0)) i ≡ 0 =
        remainders_at q (replicate n 0) i (omega (arith, here, length-replicate {A = ℕ} n 0)) ∙ ap (λ (x : ℕ). x % q) (get_or-replicate n i 0 0 here) ∙ zero-mod q in
        ap (λ (x : ℕ). x * inverse_root q psi t ^ ((2 * entry (bit_reversed t) i + 1) * k)) zero_entry ∙ (omega arith))
        ∙ sum-zero (2 ^ t)
