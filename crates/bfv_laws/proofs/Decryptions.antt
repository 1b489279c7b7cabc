-- Decryption gives the plaintext that is carried, where the noise is at most the limit.
use Rattle.std.proofs.Common.{◌≡◌, ℕ, ◌+◌, ◌-◌, ◌*◌, ◌/◌, ◌%◌, ◌^◌, ◌≤◌, ◌<◌, List, map, get_or, ◌∙◌, arith}
use Rattle.std.specs.Prelude.{pos}
use Rattle.std.proofs.lemmas.Nat.{mul-le, le-div}
use Rattle.std.proofs.lemmas.List.{get_or-map, length-map, ext_get_or}
use Rattle.ring_spec.specs.Ring.{minus, times, coefficient, size, IsPoly, ring_difference, ring_multiple, ring_product, centred}
use Rattle.ring_spec.specs.Pairs.{Cipher}
use Rattle.bfv_spec.specs.Scheme.{delta, remainder, limit, rounded, decryption, phase, Carries}
use Rattle.ring_laws.specs.Congruence.{Agree}
use Rattle.ring_laws.proofs.Integers.{sums}
use Rattle.ring_laws.proofs.Congruences.{agree_self, agree_chain, agree_back}
use Rattle.ring_laws.proofs.Residues.{entry_below, sum_poly, difference_poly}
use Rattle.ring_laws.proofs.Rings.{difference_agrees, multiple_agrees}
use Rattle.ring_laws.proofs.Sizes.{centred_agrees, size_at}
use Rattle.bfv_laws.proofs.Rounding.{rounded_is}

-- a phase that is D*m but for v is decrypted to m, where 2tv + 2r(t-1) is below q
pub phase_decrypts : (q n t v : ℕ) (f m : List ℕ) → 0 < q → 0 < t → IsPoly q n f → IsPoly t n m → size q (ring_difference q n f (ring_multiple q n (delta q t) m)) ≤ v →
    2 * t * v + 2 * remainder q t * (t - 1) < q → decryption q t f ≡ m
unfolding decryption
phase_decrypts q n t v f m h ht pf pm l c =
    let D = delta q t in
    let F = coefficient f in let M = coefficient m in
    let e = ring_difference q n f (ring_multiple q n D m) in
    let pe = difference_poly q n f (ring_multiple q n D m) h in
    let at_e : Agree q n (minus F (times (pos D) M)) (centred q e) =
    agree_chain (agree_back (difference_agrees f (ring_multiple q n D m) h (agree_self q n F) (multiple_agrees D m h (agree_self q n M)))) (centred_agrees q n e) in
    ext_get_or 0 (map (rounded q t) f) m (omega (arith, length-map f (rounded q t), pf.entries, pm.entries))
    (λ i p.
    let p' : i < n = omega (arith, length-map f (rounded q t), pf.entries) in
    get_or-map (rounded q t) f i 0 0 (omega (arith, pf.entries))
    ∙ rounded_is q t (get_or f i 0) (get_or m i 0) v (centred q e i) (at_e.each i p').k ht (entry_below t n m i pm p')
    (omega (arith, l, size_at q e i (omega (arith, pe.entries)))) c (omega (arith, sums, (at_e.each i p').is)))

-- what a ciphertext carries within v is what decryption gives, where 2tv + 2r(t-1) is below q
pub carries_decrypts : (q n t v : ℕ) (c : Cipher) (m s : List ℕ) → 0 < q → 0 < t → IsPoly t n m → Carries q n t s v c m →
    2 * t * v + 2 * remainder q t * (t - 1) < q → decryption q t (phase q n s c) ≡ m
unfolding phase
carries_decrypts q n t v c m s h ht pm cm l =
    phase_decrypts q n t v (phase q n s c) m h ht (sum_poly q n c.c0 (ring_product q n c.c1 s) h) pm cm.noise l

-- noise at most the limit is small enough, where noise 0 is
pub limit_is : (q t v : ℕ) → 0 < t → 2 * remainder q t * (t - 1) < q → v ≤ limit q t → 2 * t * v + 2 * remainder q t * (t - 1) < q
limit_is q t v h l p =
    let z = q - 1 - 2 * remainder q t * (t - 1) in
    let a : 2 * t * v ≤ 2 * t * (z / (2 * t)) = mul-le (2 * t) v (2 * t) (z / (2 * t)) (omega arith) p in
    let b : 2 * t * (z / (2 * t)) ≤ z = omega arith in
    omega arith

-- no greater noise is small enough
pub limit_greatest : (q t v : ℕ) → 0 < t → 2 * t * v + 2 * remainder q t * (t - 1) < q → v ≤ limit q t
limit_greatest q t v h l = le-div v (q - 1 - 2 * remainder q t * (t - 1)) (2 * t) (omega arith) (omega arith)

-- what a ciphertext carries within the limit is what decryption gives
pub limit_decrypts : (q n t v : ℕ) (c : Cipher) (m s : List ℕ) → 0 < t → 2 * remainder q t * (t - 1) < q → IsPoly t n m → Carries q n t s v c m →
    v ≤ limit q t → decryption q t (phase q n s c) ≡ m
limit_decrypts q n t v c m s ht l pm cm p = carries_decrypts q n t v c m s (omega arith) ht pm cm (limit_is q t v ht l p)

-- moduli q of at least 2^40 and t of at most 65537 are far enough apart
pub parameters_fit : (q t : ℕ) → 0 < t → t ≤ 65537 → 2 ^ 40 ≤ q → 2 * remainder q t * (t - 1) < q
parameters_fit q t h l p =
    let a : q % t * (t - 1) ≤ 65536 * 65536 = mul-le (q % t) (t - 1) 65536 65536 (omega arith) (omega arith) in
    omega arith
