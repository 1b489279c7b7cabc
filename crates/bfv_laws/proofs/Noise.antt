-- The noise of a public key, of a fresh encryption and of a sum.
use Rattle.std.proofs.Common.{◌≡◌, ℕ, ◌+◌, ◌*◌, ◌≤◌, ◌<◌, List, subst, arith}
use Rattle.std.specs.Prelude.{pos}
use Rattle.std.proofs.lemmas.Nat.{mul-le}
use Rattle.ring_spec.specs.Ring.{wrapped, plus, minus, negated, times, coefficient, size, IsPoly, ring_sum, ring_difference, ring_negative, ring_multiple, ring_product}
use Rattle.ring_spec.specs.Pairs.{Key}
use Rattle.bfv_spec.specs.Scheme.{delta, encryption, phase, Carries, pk_share, IsPublicKey}
use Rattle.bfv_spec.specs.Drawn.{drawn_encryption, ternary_poly, small_poly}
use Rattle.ring_laws.specs.Congruence.{Agree}
use Rattle.ring_laws.proofs.Integers.{sums}
use Rattle.ring_laws.proofs.Products.{wrapped_sum_left, wrapped_sum_right}
use Rattle.ring_laws.proofs.Associates.{wrapped_associates}
use Rattle.ring_laws.proofs.Congruences.{agree_self}
use Rattle.ring_laws.proofs.Residues.{sum_poly, difference_poly, product_poly}
use Rattle.ring_laws.proofs.Rings.{sum_agrees, difference_agrees, negative_agrees, multiple_agrees, product_agrees, by_coefficients}
use Rattle.ring_laws.proofs.Sizes.{size_sum, size_product}
use Rattle.bfv_laws.proofs.Draws.{small_poly_is, ternary_poly_is, size_small_poly, size_ternary_poly}

-- ---- the public key

-- what p0 + p1 * s is for a share: the share's noise
pub share_noise : (q n : ℕ) (a s e : List ℕ) → 0 < q → IsPoly q n e → ring_sum q n (pk_share q n a s e) (ring_product q n a s) ≡ e
unfolding pk_share
share_noise q n a s e h p =
    let A = coefficient a in let S = coefficient s in let E = coefficient e in
    let share = ring_sum q n (ring_negative q n (ring_product q n a s)) e in
    by_coefficients (plus (plus (negated (wrapped n A S)) E) (wrapped n A S)) E (ring_sum q n share (ring_product q n a s)) e h
    (sum_poly q n share (ring_product q n a s) h) p
    (sum_agrees share (ring_product q n a s) h
    (sum_agrees (ring_negative q n (ring_product q n a s)) e h
    (negative_agrees (ring_product q n a s) h (product_agrees a s h (agree_self q n A) (agree_self q n S))) (agree_self q n E))
    (product_agrees a s h (agree_self q n A) (agree_self q n S)))
    (agree_self q n E) (λ i l. omega (arith, sums))

-- the share of a party with the part s is a public key of s within the size of its noise
pub share_is_key : (q n v : ℕ) (a s e : List ℕ) → 0 < q → IsPoly q n e → size q e ≤ v → IsPublicKey q n s v (record { p0 = pk_share q n a s e; p1 = a })
share_is_key q n v a s e h p l = record { noise = rw (share_noise q n a s e h p) l }

-- ---- a fresh encryption

-- the noise of an encryption: u * (p0 + p1 * s) + e0 + e1 * s
pub encryption_noise : (q n t : ℕ) (key : Key) (m u e0 e1 s : List ℕ) → 0 < q →
    ring_difference q n (phase q n s (encryption q n t key m u e0 e1)) (ring_multiple q n (delta q t) m)
    ≡ ring_sum q n (ring_sum q n (ring_product q n u (ring_sum q n key.p0 (ring_product q n key.p1 s))) e0) (ring_product q n e1 s)
unfolding phase encryption
encryption_noise q n t key m u e0 e1 s h =
    let P0 = coefficient key.p0 in let P1 = coefficient key.p1 in let M = coefficient m in let U = coefficient u in
    let E0 = coefficient e0 in let E1 = coefficient e1 in let S = coefficient s in
    let D = delta q t in
    let up0 = ring_product q n u key.p0 in let up1 = ring_product q n u key.p1 in
    let dm = ring_multiple q n D m in
    let c0 = ring_sum q n (ring_sum q n up0 e0) dm in
    let c1 = ring_sum q n up1 e1 in
    let w = ring_sum q n key.p0 (ring_product q n key.p1 s) in
    let left = ring_sum q n c0 (ring_product q n c1 s) in
    let uw = ring_product q n u w in
    let e1s = ring_product q n e1 s in
    let at_dm : Agree q n (coefficient dm) (times (pos D) M) = multiple_agrees D m h (agree_self q n M) in
    let at_c0 : Agree q n (coefficient c0) (plus (plus (wrapped n U P0) E0) (times (pos D) M)) =
    sum_agrees (ring_sum q n up0 e0) dm h (sum_agrees up0 e0 h (product_agrees u key.p0 h (agree_self q n U) (agree_self q n P0)) (agree_self q n E0)) at_dm in
    let at_c1 : Agree q n (coefficient c1) (plus (wrapped n U P1) E1) =
    sum_agrees up1 e1 h (product_agrees u key.p1 h (agree_self q n U) (agree_self q n P1)) (agree_self q n E1) in
    let at_w : Agree q n (coefficient w) (plus P0 (wrapped n P1 S)) =
    sum_agrees key.p0 (ring_product q n key.p1 s) h (agree_self q n P0) (product_agrees key.p1 s h (agree_self q n P1) (agree_self q n S)) in
    by_coefficients
    (minus (plus (plus (plus (wrapped n U P0) E0) (times (pos D) M)) (wrapped n (plus (wrapped n U P1) E1) S)) (times (pos D) M))
    (plus (plus (wrapped n U (plus P0 (wrapped n P1 S))) E0) (wrapped n E1 S))
    (ring_difference q n left dm) (ring_sum q n (ring_sum q n uw e0) e1s) h
    (difference_poly q n left dm h) (sum_poly q n (ring_sum q n uw e0) e1s h)
    (difference_agrees left dm h (sum_agrees c0 (ring_product q n c1 s) h at_c0 (product_agrees c1 s h at_c1 (agree_self q n S))) at_dm)
    (sum_agrees (ring_sum q n uw e0) e1s h (sum_agrees uw e0 h (product_agrees u w h (agree_self q n U) at_w) (agree_self q n E0))
    (product_agrees e1 s h (agree_self q n E1) (agree_self q n S)))
    (λ i l. omega (arith, sums, wrapped_sum_left n (wrapped n U P1) E1 S i, wrapped_associates n U P1 S i l, wrapped_sum_right n U P0 (wrapped n P1 S) i l))

-- a fresh encryption carries its plaintext within n * |u| * |key's noise| + |e0| + n * |e1| * |s|
pub encryption_carries : (q n t v w b k : ℕ) (key : Key) (m u e0 e1 s : List ℕ) → 0 < q → IsPoly q n u → IsPoly q n e0 → IsPoly q n e1 → IsPoly q n s →
    IsPublicKey q n s v key → size q u ≤ w → size q e0 ≤ b → size q e1 ≤ b → size q s ≤ k → Carries q n t s (n * w * v + b + n * b * k) (encryption q n t key m u e0 e1) m
encryption_carries q n t v w b k key m u e0 e1 s h pu pe0 pe1 ps owns su se0 se1 ss =
    let x = ring_sum q n key.p0 (ring_product q n key.p1 s) in
    let px = sum_poly q n key.p0 (ring_product q n key.p1 s) h in
    let ux = ring_product q n u x in let e1s = ring_product q n e1 s in
    let pux = product_poly q n u x h in
    let a : size q ux ≤ n * size q u * size q x = size_product q n u x h pu px in
    let a' : n * size q u * size q x ≤ n * w * v = mul-le (n * size q u) (size q x) (n * w) v (mul-le n (size q u) n w (omega arith) su) owns.noise in
    let c : size q e1s ≤ n * size q e1 * size q s = size_product q n e1 s h pe1 ps in
    let c' : n * size q e1 * size q s ≤ n * b * k = mul-le (n * size q e1) (size q s) (n * b) k (mul-le n (size q e1) n b (omega arith) se1) ss in
    let d : size q (ring_sum q n ux e0) ≤ size q ux + size q e0 = size_sum q n ux e0 h pux pe0 in
    let f : size q (ring_sum q n (ring_sum q n ux e0) e1s) ≤ size q (ring_sum q n ux e0) + size q e1s =
    size_sum q n (ring_sum q n ux e0) e1s h (sum_poly q n ux e0 h) (product_poly q n e1 s h) in
    record { noise = rw (encryption_noise q n t key m u e0 e1 s h) (omega arith) }

-- with u ternary, noise of size b, a key of T shares and a secret of N parts: b * (1 + n * (T + N))
pub fresh_carries : (q n t T b N : ℕ) (key : Key) (m u e0 e1 s : List ℕ) → 0 < q → IsPoly q n u → IsPoly q n e0 → IsPoly q n e1 → IsPoly q n s →
    IsPublicKey q n s (T * b) key → size q u ≤ 1 → size q e0 ≤ b → size q e1 ≤ b → size q s ≤ N → Carries q n t s (b * (1 + n * (T + N))) (encryption q n t key m u e0 e1) m
fresh_carries q n t T b N key m u e0 e1 s h pu pe0 pe1 ps owns su se0 se1 ss =
    let e : n * 1 * (T * b) + b + n * b * N ≡ b * (1 + n * (T + N)) = omega arith in
    subst (λ (v : ℕ). Carries q n t s v (encryption q n t key m u e0 e1) m) e
    (encryption_carries q n t (T * b) 1 b N key m u e0 e1 s h pu pe0 pe1 ps owns su se0 se1 ss)

-- the same for an encryption with drawn u, e0 and e1
pub drawn_carries : (q n t T b N : ℕ) (key : Key) (m s seed : List ℕ) (stream k : ℕ) → 0 < q → IsPoly q n s →
    IsPublicKey q n s (T * b) key → size q s ≤ N → Carries q n t s (b * (1 + n * (T + N))) (drawn_encryption q n t b key m seed stream k) m
unfolding drawn_encryption
drawn_carries q n t T b N key m s seed stream k h ps owns ss =
    fresh_carries q n t T b N key m (ternary_poly q n seed stream k) (small_poly q n b seed stream (k + n)) (small_poly q n b seed stream (k + 2 * n)) s h
    (ternary_poly_is q n seed stream k h) (small_poly_is q n b seed stream (k + n) h) (small_poly_is q n b seed stream (k + 2 * n) h) ps owns
    (size_ternary_poly q n seed stream k h) (size_small_poly q n b seed stream (k + n) h) (size_small_poly q n b seed stream (k + 2 * n) h) ss
