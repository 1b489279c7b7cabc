-- The noise of a sum: the sum of the noises, and r more where the plaintexts' sum wraps modulo t.
use Rattle.std.proofs.Common.{◌≡◌, ℕ, ◌+◌, ◌*◌, ◌/◌, ◌%◌, ◌≤◌, ◌<◌, List, get_or, ap, ◌∙◌, arith}
use Rattle.std.specs.Prelude.{pos, neg_ℤ}
use Rattle.std.proofs.lemmas.Nat.{mul-le, div_below}
use Rattle.ring_spec.specs.Ring.{wrapped, plus, minus, times, coefficient, size, IsWithin, IsPoly, ring_sum, ring_difference, ring_multiple, ring_product, centred}
use Rattle.ring_spec.specs.Pairs.{Cipher}
use Rattle.bfv_spec.specs.Scheme.{delta, remainder, cipher_sum, phase, Carries}
use Rattle.ring_laws.specs.Congruence.{Agree}
use Rattle.ring_laws.proofs.Integers.{sums}
use Rattle.ring_laws.proofs.Products.{wrapped_sum_left}
use Rattle.ring_laws.proofs.Congruences.{agree_self, agree_chain, agree_sum, agree_back}
use Rattle.ring_laws.proofs.Aggregates.{sum_at}
use Rattle.ring_laws.proofs.Residues.{entry_below, difference_poly}
use Rattle.ring_laws.proofs.Rings.{sum_agrees, difference_agrees, multiple_agrees, product_agrees}
use Rattle.ring_laws.proofs.Sizes.{size_within, within_sum, within_more, centred_agrees, centred_within}
use borrow.Author.Differences.{ints}

-- D times a sum, against D times the sum modulo t
carry : (q t x y : ℕ) → 0 < t → delta q t * x + delta q t * y + remainder q t * ((x + y) / t) ≡ delta q t * ((x + y) % t) + q * ((x + y) / t)
carry q t x y h =
    let D = q / t in let r = q % t in let k = (x + y) / t in let m = (x + y) % t in
    let e : D * x + D * y ≡ t * D * k + D * m =
    (let e' : D * x + D * y ≡ D * (x + y) = omega arith in e') ∙ ap (λ (z : ℕ). D * z) (let e' : x + y ≡ t * k + m = omega (arith, h) in e') ∙ omega arith in
    let f : q * k ≡ t * D * k + r * k = ap (λ (z : ℕ). z * k) (let e' : q ≡ t * D + r = omega (arith, h) in e') ∙ omega arith in
    omega arith

-- a sum of two ciphertexts carries the sum of the plaintexts
pub sum_carries : (q n t v w : ℕ) (c d : Cipher) (m l s : List ℕ) → 0 < q → 0 < t → IsPoly t n m → IsPoly t n l →
    Carries q n t s v c m → Carries q n t s w d l → Carries q n t s (v + w + remainder q t) (cipher_sum q n c d) (ring_sum t n m l)
unfolding cipher_sum phase
sum_carries q n t v w c d m l s h ht pm pl cm dl =
    let D = delta q t in let r = remainder q t in
    let S = coefficient s in let M = coefficient m in let L = coefficient l in
    let Left0 = coefficient c.c0 in let Left1 = coefficient c.c1 in let Right0 = coefficient d.c0 in let Right1 = coefficient d.c1 in
    let ml = ring_sum t n m l in let ML = coefficient ml in
    let n1 = ring_difference q n (phase q n s c) (ring_multiple q n D m) in
    let n2 = ring_difference q n (phase q n s d) (ring_multiple q n D l) in
    let c0 = ring_sum q n c.c0 d.c0 in let c1 = ring_sum q n c.c1 d.c1 in
    let f = ring_sum q n c0 (ring_product q n c1 s) in
    let all = ring_difference q n f (ring_multiple q n D ml) in
    let A1 = minus (plus Left0 (wrapped n Left1 S)) (times (pos D) M) in
    let A2 = minus (plus Right0 (wrapped n Right1 S)) (times (pos D) L) in
    let R = λ (i : ℕ). neg_ℤ (pos (r * ((get_or m i 0 + get_or l i 0) / t))) in
    let X = minus (plus (plus Left0 Right0) (wrapped n (plus Left1 Right1) S)) (times (pos D) ML) in
    let Z1 = centred q n1 in let Z2 = centred q n2 in
    let at_n1 : Agree q n A1 Z1 =
    agree_chain (agree_back (difference_agrees (phase q n s c) (ring_multiple q n D m) h
    (sum_agrees c.c0 (ring_product q n c.c1 s) h (agree_self q n Left0) (product_agrees c.c1 s h (agree_self q n Left1) (agree_self q n S)))
    (multiple_agrees D m h (agree_self q n M)))) (centred_agrees q n n1) in
    let at_n2 : Agree q n A2 Z2 =
    agree_chain (agree_back (difference_agrees (phase q n s d) (ring_multiple q n D l) h
    (sum_agrees d.c0 (ring_product q n d.c1 s) h (agree_self q n Right0) (product_agrees d.c1 s h (agree_self q n Right1) (agree_self q n S)))
    (multiple_agrees D l h (agree_self q n L)))) (centred_agrees q n n2) in
    let at_all : Agree q n (coefficient all) X =
    difference_agrees f (ring_multiple q n D ml) h
    (sum_agrees c0 (ring_product q n c1 s) h (sum_agrees c.c0 d.c0 h (agree_self q n Left0) (agree_self q n Right0))
    (product_agrees c1 s h (sum_agrees c.c1 d.c1 h (agree_self q n Left1) (agree_self q n Right1)) (agree_self q n S)))
    (multiple_agrees D ml h (agree_self q n ML)) in
    let parts : Agree q n X (plus (plus A1 A2) R) = record {
      each = λ i p. record {
        k = pos ((get_or m i 0 + get_or l i 0) / t);
        is = omega (arith, sums, wrapped_sum_left n Left1 Right1 S i, ap (λ (z : ℕ). D * z) (sum_at t n m l i p), carry q t (get_or m i 0) (get_or l i 0) ht);
      };
    } in
    let within_r : IsWithin n r R =
    λ i p.
    let few : (get_or m i 0 + get_or l i 0) / t < 2 =
    div_below (get_or m i 0 + get_or l i 0) t 2 ht (omega (arith, entry_below t n m i pm p, entry_below t n l i pl p)) in
    let most : r * ((get_or m i 0 + get_or l i 0) / t) ≤ r * 1 = mul-le r ((get_or m i 0 + get_or l i 0) / t) r 1 (omega arith) (omega arith) in
    omega (arith, ints) in
    let p1 = difference_poly q n (phase q n s c) (ring_multiple q n D m) h in
    let p2 = difference_poly q n (phase q n s d) (ring_multiple q n D l) h in
    record {
      noise =
          size_within (v + w + r) all (plus (plus Z1 Z2) R) (difference_poly q n f (ring_multiple q n D ml) h)
          (agree_chain at_all (agree_chain parts (agree_sum (agree_sum at_n1 at_n2) (agree_self q n R))))
          (within_sum n (v + w) r (plus Z1 Z2) R
          (within_sum n v w Z1 Z2 (within_more n (size q n1) v Z1 cm.noise (centred_within q n n1 p1)) (within_more n (size q n2) w Z2 dl.noise (centred_within q n n2 p2)))
          within_r);
    }
