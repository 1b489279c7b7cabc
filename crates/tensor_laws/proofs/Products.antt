-- The noise of a product of two ciphertexts.
use Rattle.std.proofs.Common.{◌≡◌, ℕ, ◌+◌, ◌-◌, ◌*◌, ◌/◌, ◌≤◌, ◌<◌, List, get_or, ap, ◌∙◌, arith}
use Rattle.std.specs.Prelude.{ℤ, pos, ◌+ℤ◌, ◌-ℤ◌, ◌*ℤ◌}
use Rattle.std.proofs.lemmas.Nat.{mul-le}
use Rattle.ring_spec.specs.Ring.{wrapped, plus, minus, times, coefficient, size, IsWithin, IsPoly, ring_difference, ring_multiple, ring_product, centred}
use Rattle.ring_spec.specs.Pairs.{Cipher}
use Rattle.bfv_spec.specs.Scheme.{delta, remainder, phase}
use Rattle.ring_laws.specs.Congruence.{Agree}
use Rattle.gadget_laws.specs.Switching.{switch_noise}
use Rattle.tensor_spec.specs.Rounding.{nearest}
use Rattle.tensor_spec.specs.Tensors.{scaled, rescaled, tensor, triple_phase, relinearisation}
use Rattle.tensor_laws.specs.Rounding.{off}
use Rattle.tensor_laws.specs.Products.{wraps, crossed, tensor_noise, IsFactor, TensorsCarry, ProductsCarry}
use Rattle.ring_laws.proofs.Integers.{sums}
use Rattle.ring_laws.proofs.Congruences.{agree_equal, agree_self, agree_chain, agree_back, agree_sum, agree_difference, agree_product}
use Rattle.ring_laws.proofs.Residues.{coefficients_agree, entry_below, product_poly, difference_poly}
use Rattle.ring_laws.proofs.Rings.{difference_agrees, multiple_agrees, product_agrees}
use Rattle.ring_laws.proofs.Sizes.{size_within, within_sum, within_more, within_product, centred_agrees, centred_within}
use Rattle.tensor_laws.proofs.Rounding.{nearest_is_near}
use Rattle.tensor_laws.proofs.Relinearising.{tensors_fit, triple_phase_agrees, relinearised}
use Rattle.tensor_laws.proofs.Numbers.{product_is, product_within}
use Rattle.tensor_laws.proofs.Factors.{factor_of, centred_phase, multiple_of}
use Rattle.tensor_laws.proofs.Expansions.{of_three, three_is, gap, rounded_is, squared_is}

-- what rounding is off by is at most a half of q
gap_within : (q n t : ℕ) (x : ℕ → ℤ) → 0 < q → IsWithin n (q / 2) (gap q t (scaled q t x) x)
gap_within q n t x h i l = let near : 2 * off t q (x i) (nearest t q (x i)) ≤ q = nearest_is_near t q (x i) h in omega (arith, near)

-- the phase of the tensor over the whole numbers, less D * m, and less a multiple of q
record Carried (q n t : ℕ) (s : List ℕ) (v : ℕ) (f m : List ℕ) : Type 0 where
  noise : ℕ → ℤ
  agrees : Agree q n (minus (coefficient f) (times (pos (delta q t)) (coefficient m))) noise
  within : IsWithin n v noise

tensor_carried : (q n t w v1 v2 : ℕ) (s : List ℕ) (c d : Cipher) (m l : List ℕ) → 0 < q → 0 < t → IsPoly q n s → size q s ≤ w → IsFactor q n t s v1 c m → IsFactor q n t s v2 d l →
    Carried q n t s (tensor_noise q n t w v1 v2) (triple_phase q n s (tensor q n t c d)) (ring_product t n m l)
unfolding tensor rescaled
tensor_carried q n t w v1 v2 s c d m l h ht ps ls one two =
    let D = delta q t in let r = remainder q t in let half = q / 2 in
    let S = centred q s in let SS = wrapped n S S in
    let left = factor_of q n t w v1 s c m h ht ps ls one in let right = factor_of q n t w v2 s d l h ht ps ls two in
    let C0 = centred q c.c0 in let C1 = centred q c.c1 in let B0 = centred q d.c0 in let B1 = centred q d.c1 in
    let X0 = wrapped n C0 B0 in let X1 = plus (wrapped n C0 B1) (wrapped n C1 B0) in let X2 = wrapped n C1 B1 in
    let O0 = scaled q t X0 in let O1 = scaled q t X1 in let O2 = scaled q t X2 in
    let x = tensor q n t c d in let f = triple_phase q n s x in
    let ml = ring_product t n m l in let M = coefficient ml in
    let T = of_three n S O0 O1 O2 in
    let at_s : Agree q n (coefficient s) S = centred_agrees q n s in
    let at_f : Agree q n (coefficient f) T =
    agree_chain (triple_phase_agrees x s h (coefficients_agree q n O0 h) (coefficients_agree q n O1 h) (coefficients_agree q n O2 h))
    (agree_sum (agree_sum (agree_self q n O0) (agree_product (agree_self q n O1) at_s)) (agree_product (agree_self q n O2) (agree_product at_s at_s))) in
    let whole = multiple_of t n (wrapped n left.whole right.whole) M (agree_back (product_agrees m l ht (agree_back left.agrees) (agree_back right.agrees))) in
    let G0 = gap q t O0 X0 in let G1 = gap q t O1 X1 in let G2 = gap q t O2 X2 in
    let d_all = of_three n S G0 G1 G2 in
    let X = plus (wrapped n left.whole right.rest) (wrapped n left.rest right.whole) in let Y = wrapped n left.rest right.rest in
    let Z = λ (i : ℕ). (T i -ℤ pos (D * get_or ml i 0)) -ℤ pos q *ℤ whole.by i in
    let k = wraps n w + 1 in let a = t * k - 1 in
    let y1 = t * v1 + r * (t - 1) in let y2 = t * v2 + r * (t - 1) in
    let z = n * w in
    let s_within : IsWithin n w S = within_more n (size q s) w S ls (centred_within q n s ps) in
    let d_within : IsWithin n (half + n * half * w + n * half * (n * w * w)) d_all =
    within_sum n (half + n * half * w) (n * half * (n * w * w)) (plus G0 (wrapped n G1 S)) (wrapped n G2 SS)
    (within_sum n half (n * half * w) G0 (wrapped n G1 S) (gap_within q n t X0 h) (within_product n half w G1 S (gap_within q n t X1 h) s_within))
    (within_product n half (n * w * w) G2 SS (gap_within q n t X2 h) (within_product n w w S S s_within s_within)) in
    let d_most : 2 * (half + n * half * w + n * half * (n * w * w)) ≤ q * (1 + z + z * z) =
    (let e : 2 * half * (1 + z + z * z) ≤ q * (1 + z + z * z) = mul-le (2 * half) (1 + z + z * z) q (1 + z + z * z) (omega arith) (omega arith) in omega (arith, e)) in
    let x_within : IsWithin n (n * a * y2 + n * y1 * a) X =
    within_sum n (n * a * y2) (n * y1 * a) (wrapped n left.whole right.rest) (wrapped n left.rest right.whole)
    (within_product n a y2 left.whole right.rest left.whole_within right.rest_within) (within_product n y1 a left.rest right.whole left.rest_within right.whole_within) in
    let y_within : IsWithin n (n * y1 * y2) Y = within_product n y1 y2 left.rest right.rest left.rest_within right.rest_within in
    record {
      noise = Z;
      agrees = agree_chain (agree_difference at_f (agree_self q n (times (pos D) M))) (record { each = λ i p. record { k = whole.by i; is = omega (arith, sums) } });
      within = λ i p.
          let P = wrapped n (centred_phase q n s c) (centred_phase q n s d) i in
          let rounded : pos q *ℤ T i ≡ pos t *ℤ P +ℤ d_all i =
          rounded_is q t n S O0 O1 O2 X0 X1 X2 i p ∙ ap (λ (u : ℤ). pos t *ℤ u +ℤ d_all i) (three_is n S C0 C1 B0 B1 i p) in
          let is = product_is q t (get_or ml i 0) (T i) P (wrapped n left.whole right.whole i) (X i) (Y i) (d_all i) (whole.by i) ht rounded
          (squared_is q t n (centred_phase q n s c) (centred_phase q n s d) left.whole right.whole left.rest right.rest left.split right.split i p) (whole.is i p) in
          let most = product_within q t r n a k y1 y2 z (get_or ml i 0) (Z i) (X i) (Y i) (d_all i) h ht (omega arith) (entry_below t n ml i (product_poly t n m l ht) p)
          (omega arith) (omega arith) (omega (arith, two.small)) (omega arith) (x_within i p) (y_within i p) (omega (arith, d_within i p, d_most)) is in
          let same : n * k * (y1 + y2) ≡ crossed q n t w v1 v2 = ap (λ (u : ℕ). n * k * u) (omega arith) in
          omega (arith, most, same);
    }

pub tensors_carry : TensorsCarry
tensors_carry q n t w v1 v2 s c d m l h ht ps ls one two =
    let D = delta q t in let f = triple_phase q n s (tensor q n t c d) in let ml = ring_product t n m l in
    let all = tensor_carried q n t w v1 v2 s c d m l h ht ps ls one two in
    record {
      noise = size_within (tensor_noise q n t w v1 v2) (ring_difference q n f (ring_multiple q n D ml)) all.noise (difference_poly q n f (ring_multiple q n D ml) h)
          (agree_chain (difference_agrees f (ring_multiple q n D ml) h (agree_self q n (coefficient f)) (multiple_agrees D ml h (agree_self q n (coefficient ml)))) all.agrees)
          all.within;
    }

pub products_carry : ProductsCarry
products_carry q n t w v1 v2 e g s key c d m l h ht ps ls one two serves owns =
    let D = delta q t in let x = tensor q n t c d in let f = triple_phase q n s x in let ml = ring_product t n m l in
    let F = coefficient f in let DM = times (pos D) (coefficient ml) in
    let all = tensor_carried q n t w v1 v2 s c d m l h ht ps ls one two in
    let to = relinearisation q n g key x in
    let back = relinearised q n e g s key x h serves (tensors_fit q n t c d h).o2 owns in
    let parts : Agree q n (minus (plus F back.noise) DM) (plus (minus F DM) back.noise) =
    agree_equal q n (minus (plus F back.noise) DM) (plus (minus F DM) back.noise) (λ i p. omega (arith, sums)) in
    record {
      noise = size_within (tensor_noise q n t w v1 v2 + switch_noise n g e) (ring_difference q n (phase q n s to) (ring_multiple q n D ml)) (plus all.noise back.noise)
          (difference_poly q n (phase q n s to) (ring_multiple q n D ml) h)
          (agree_chain (difference_agrees (phase q n s to) (ring_multiple q n D ml) h back.agrees (multiple_agrees D ml h (agree_self q n (coefficient ml))))
          (agree_chain parts (agree_sum all.agrees (agree_self q n back.noise))))
          (within_sum n (tensor_noise q n t w v1 v2) (switch_noise n g e) all.noise back.noise all.within back.within);
    }
