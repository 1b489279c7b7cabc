-- What the phase of a key's row is: the weight times what it is a key for, and noise.
use Rattle.std.proofs.Common.{◌≡◌, ℕ, ◌+◌, ◌*◌, ◌≤◌, ◌<◌, List, arith}
use Rattle.std.specs.Prelude.{ℤ, pos}
use Rattle.ring_spec.specs.Ring.{wrapped, plus, minus, negated, times, coefficient, size, IsWithin, IsPoly, ring_sum, ring_difference, ring_multiple, ring_product, centred}
use Rattle.ring_laws.specs.Congruence.{Agree}
use Rattle.gadget_spec.specs.Switching.{row_phase}
use Rattle.key_spec.specs.Rounds.{switch_share}
use Rattle.ring_laws.proofs.Integers.{sums}
use Rattle.ring_laws.proofs.Products.{wrapped_sum_right, wrapped_difference_left, wrapped_negative_right, wrapped_times_right, wrapped_commutes}
use Rattle.ring_laws.proofs.Associates.{wrapped_associates}
use Rattle.ring_laws.proofs.Congruences.{agree_equal, agree_self, agree_chain, agree_sum, agree_product}
use Rattle.ring_laws.proofs.Residues.{difference_poly}
use Rattle.ring_laws.proofs.Rings.{by_coefficients, sum_agrees, difference_agrees, multiple_agrees, product_agrees}
use Rattle.ring_laws.proofs.Sizes.{size_within, within_sum, within_more, within_product, centred_agrees, centred_within}
use Rattle.key_laws.proofs.Totals.{share_agrees}

-- the phase of b + a * s, for parts of any kind
row_agrees : {q n : ℕ} {B A S : ℕ → ℤ} (b a s : List ℕ) → 0 < q → Agree q n (coefficient b) B → Agree q n (coefficient a) A → Agree q n (coefficient s) S →
    Agree q n (coefficient (row_phase q n s (record { b = b; a = a }))) (plus B (wrapped n A S))
unfolding row_phase
row_agrees {q} {n} b a s h at_b at_a at_s = sum_agrees b (ring_product q n a s) h at_b (product_agrees a s h at_a at_s)

-- a share of a row of a switch key is itself such a row, with the share's noise
pub share_noise : (q n w : ℕ) (a s z e : List ℕ) → 0 < q → IsPoly q n e →
    ring_difference q n (row_phase q n s (record { b = switch_share q n w a s z e; a = a })) (ring_multiple q n w z) ≡ e
share_noise q n w a s z e h p =
    let A = coefficient a in let S = coefficient s in let Z = coefficient z in let E = coefficient e in
    let b = switch_share q n w a s z e in
    let f = row_phase q n s (record { b = b; a = a }) in
    by_coefficients (minus (plus (plus (plus (negated (wrapped n A S)) (times (pos w) Z)) E) (wrapped n A S)) (times (pos w) Z)) E
    (ring_difference q n f (ring_multiple q n w z)) e h (difference_poly q n f (ring_multiple q n w z) h) p
    (difference_agrees f (ring_multiple q n w z) h
    (row_agrees b a s h (share_agrees w a s z e h (agree_self q n A) (agree_self q n S) (agree_self q n Z) (agree_self q n E)) (agree_self q n A) (agree_self q n S))
    (multiple_agrees w z h (agree_self q n Z)))
    (agree_self q n E) (λ i l. omega (arith, sums))

-- s * h0 + e2 + (u - s) * h1 + e3 + h1 * s - w * s^2, with h0 and h1 written out
relin_parts : (n w : ℕ) (A V S Z0 Z1 Z2 Z3 : ℕ → ℤ) (i : ℕ) → i < n →
    minus (plus (plus (plus (wrapped n S (plus (plus (negated (wrapped n A V)) (times (pos w) S)) Z0)) Z2) (plus (wrapped n (minus V S) (plus (wrapped n S A) Z1)) Z3))
    (wrapped n (plus (wrapped n S A) Z1) S)) (times (pos w) (wrapped n S S)) i
    ≡ plus (plus (plus (wrapped n S Z0) (wrapped n V Z1)) Z2) Z3 i
relin_parts n w A V S Z0 Z1 Z2 Z3 i l =
    let H1 = plus (wrapped n S A) Z1 in
    omega (
      arith,
      sums,
      wrapped_sum_right n S (plus (negated (wrapped n A V)) (times (pos w) S)) Z0 i l,
      wrapped_sum_right n S (negated (wrapped n A V)) (times (pos w) S) i l,
      wrapped_negative_right n S (wrapped n A V) i l,
      wrapped_times_right n (pos w) S S i l,
      wrapped_difference_left n V S H1 i,
      wrapped_sum_right n V (wrapped n S A) Z1 i l,
      wrapped_commutes n H1 S i l,
      wrapped_commutes n V (wrapped n S A) i l,
      wrapped_associates n S A V i l,
    )

-- the noise of a row of the relinearisation key: s * e0 + u * e1 + e2 + e3
pub relin_noise : (q n w : ℕ) (a u s e0 e1 e2 e3 : List ℕ) (U E N : ℕ) → 0 < q → IsPoly q n u → IsPoly q n s → IsPoly q n e0 → IsPoly q n e1 → IsPoly q n e2 → IsPoly q n e3 →
    size q u ≤ U → size q s ≤ N → size q e0 ≤ E → size q e1 ≤ E → size q e2 ≤ E → size q e3 ≤ E → (h0 h1 k0 k1 : List ℕ) →
    h0 ≡ switch_share q n w a u s e0 → h1 ≡ ring_sum q n (ring_product q n s a) e1 →
    k0 ≡ ring_sum q n (ring_product q n s h0) e2 → k1 ≡ ring_sum q n (ring_product q n (ring_difference q n u s) h1) e3 →
    size q (ring_difference q n (row_phase q n s (record { b = ring_sum q n k0 k1; a = h1 })) (ring_multiple q n w (ring_product q n s s))) ≤ E * (n * (N + U) + 2)
relin_noise q n w a u s e0 e1 e2 e3 U E N h pu ps p0 p1 p2 p3 lu ls l0 l1 l2 l3 h0 h1 k0 k1 is_h0 is_h1 is_k0 is_k1 =
    let A = coefficient a in let V = coefficient u in let S = coefficient s in
    let Z0 = centred q e0 in let Z1 = centred q e1 in let Z2 = centred q e2 in let Z3 = centred q e3 in
    let VC = centred q u in let SC = centred q s in
    let H0 = plus (plus (negated (wrapped n A V)) (times (pos w) S)) Z0 in
    let H1 = plus (wrapped n S A) Z1 in
    let at_h0 : Agree q n (coefficient h0) H0 =
    rw is_h0 (share_agrees w a u s e0 h (agree_self q n A) (agree_self q n V) (agree_self q n S) (centred_agrees q n e0)) in
    let at_h1 : Agree q n (coefficient h1) H1 =
    rw is_h1 (sum_agrees (ring_product q n s a) e1 h (product_agrees s a h (agree_self q n S) (agree_self q n A)) (centred_agrees q n e1)) in
    let at_k0 : Agree q n (coefficient k0) (plus (wrapped n S H0) Z2) =
    rw is_k0 (sum_agrees (ring_product q n s h0) e2 h (product_agrees s h0 h (agree_self q n S) at_h0) (centred_agrees q n e2)) in
    let us = ring_difference q n u s in
    let at_k1 : Agree q n (coefficient k1) (plus (wrapped n (minus V S) H1) Z3) =
    rw is_k1 (sum_agrees (ring_product q n us h1) e3 h (product_agrees us h1 h (difference_agrees u s h (agree_self q n V) (agree_self q n S)) at_h1) (centred_agrees q n e3)) in
    let k = ring_sum q n k0 k1 in let ss = ring_product q n s s in
    let f = row_phase q n s (record { b = k; a = h1 }) in
    let W = times (pos w) (wrapped n S S) in
    let P = minus (plus (plus (plus (wrapped n S H0) Z2) (plus (wrapped n (minus V S) H1) Z3)) (wrapped n H1 S)) W in
    let at_all : Agree q n (coefficient (ring_difference q n f (ring_multiple q n w ss))) P =
    difference_agrees f (ring_multiple q n w ss) h (row_agrees k h1 s h (sum_agrees k0 k1 h at_k0 at_k1) at_h1 (agree_self q n S))
    (multiple_agrees w ss h (product_agrees s s h (agree_self q n S) (agree_self q n S))) in
    let R = plus (plus (plus (wrapped n S Z0) (wrapped n V Z1)) Z2) Z3 in
    let parts : Agree q n P R = agree_equal q n P R (relin_parts n w A V S Z0 Z1 Z2 Z3) in
    let rest : Agree q n R (plus (plus (plus (wrapped n SC Z0) (wrapped n VC Z1)) Z2) Z3) =
    agree_sum (agree_sum (agree_sum (agree_product (centred_agrees q n s) (agree_self q n Z0)) (agree_product (centred_agrees q n u) (agree_self q n Z1))) (agree_self q n Z2)) (agree_self q n Z3) in
    let small : (e : List ℕ) → IsPoly q n e → size q e ≤ E → IsWithin n E (centred q e) = λ e p l. within_more n (size q e) E (centred q e) l (centred_within q n e p) in
    let within : IsWithin n (n * N * E + n * U * E + E + E) (plus (plus (plus (wrapped n SC Z0) (wrapped n VC Z1)) Z2) Z3) =
    within_sum n (n * N * E + n * U * E + E) E (plus (plus (wrapped n SC Z0) (wrapped n VC Z1)) Z2) Z3
    (within_sum n (n * N * E + n * U * E) E (plus (wrapped n SC Z0) (wrapped n VC Z1)) Z2
    (within_sum n (n * N * E) (n * U * E) (wrapped n SC Z0) (wrapped n VC Z1)
    (within_product n N E SC Z0 (within_more n (size q s) N SC ls (centred_within q n s ps)) (small e0 p0 l0))
    (within_product n U E VC Z1 (within_more n (size q u) U VC lu (centred_within q n u pu)) (small e1 p1 l1)))
    (small e2 p2 l2)) (small e3 p3 l3) in
    let bound : n * N * E + n * U * E + E + E ≡ E * (n * (N + U) + 2) = omega arith in
    rw (← bound) (size_within (n * N * E + n * U * E + E + E) (ring_difference q n f (ring_multiple q n w ss)) (plus (plus (plus (wrapped n SC Z0) (wrapped n VC Z1)) Z2) Z3)
    (difference_poly q n f (ring_multiple q n w ss) h) (agree_chain at_all (agree_chain parts rest)) within)
