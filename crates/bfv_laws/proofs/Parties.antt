-- What several parties' shares add up to: a public key of the sum of their parts, and a phase.
use Rattle.std.proofs.Common.{◌≡◌, ℕ, ◌+◌, ◌-◌, ◌*◌, ◌≤◌, ◌<◌, List, [], ◌∷◌, length, ap, ◌∙◌, arith}
use Rattle.std.specs.Prelude.{pos, All}
use Rattle.ring_spec.specs.Ring.{wrapped, residues, plus, minus, negated, coefficient, size, IsPoly, ring_sum, ring_difference, ring_negative, ring_multiple, ring_product}
use Rattle.ring_spec.specs.Pairs.{Cipher}
use Rattle.bfv_spec.specs.Scheme.{delta, remainder, limit, phase, decryption, Carries, pk_share, IsPublicKey}
use Rattle.ring_spec.specs.Aggregate.{ring_total}
use Rattle.bfv_spec.specs.Members.{Member, parts, noises, key_shares, decryption_shares}
use Rattle.ring_laws.specs.Congruence.{Agree}
use Rattle.ring_laws.proofs.Integers.{sums}
use Rattle.ring_laws.proofs.Products.{wrapped_sum_right, wrapped_zero_right}
use Rattle.ring_laws.proofs.Congruences.{agree_self}
use Rattle.ring_laws.proofs.Residues.{residues_poly, coefficients_agree, sum_poly, difference_poly}
use Rattle.ring_laws.proofs.Rings.{by_coefficients, sum_agrees, difference_agrees, negative_agrees, product_agrees}
use Rattle.ring_laws.proofs.Sizes.{size_sum}
use Rattle.ring_laws.proofs.Aggregates.{total_poly, size_total}
use Rattle.bfv_laws.proofs.Noise.{share_is_key}
use Rattle.bfv_laws.proofs.Decryptions.{phase_decrypts, limit_is}

-- two shares of the public key add up to the share of both parts
pub shares_add : (q n : ℕ) (a s e z d : List ℕ) → 0 < q → ring_sum q n (pk_share q n a s e) (pk_share q n a z d) ≡ pk_share q n a (ring_sum q n s z) (ring_sum q n e d)
unfolding pk_share
shares_add q n a s e z d h =
    let A = coefficient a in let S = coefficient s in let E = coefficient e in let Z = coefficient z in let D = coefficient d in
    let one = ring_sum q n (ring_negative q n (ring_product q n a s)) e in
    let two = ring_sum q n (ring_negative q n (ring_product q n a z)) d in
    let sz = ring_sum q n s z in let ed = ring_sum q n e d in
    by_coefficients (plus (plus (negated (wrapped n A S)) E) (plus (negated (wrapped n A Z)) D)) (plus (negated (wrapped n A (plus S Z))) (plus E D))
    (ring_sum q n one two) (ring_sum q n (ring_negative q n (ring_product q n a sz)) ed) h
    (sum_poly q n one two h) (sum_poly q n (ring_negative q n (ring_product q n a sz)) ed h)
    (sum_agrees one two h
    (sum_agrees (ring_negative q n (ring_product q n a s)) e h (negative_agrees (ring_product q n a s) h (product_agrees a s h (agree_self q n A) (agree_self q n S))) (agree_self q n E))
    (sum_agrees (ring_negative q n (ring_product q n a z)) d h (negative_agrees (ring_product q n a z) h (product_agrees a z h (agree_self q n A) (agree_self q n Z))) (agree_self q n D)))
    (sum_agrees (ring_negative q n (ring_product q n a sz)) ed h
    (negative_agrees (ring_product q n a sz) h (product_agrees a sz h (agree_self q n A) (sum_agrees s z h (agree_self q n S) (agree_self q n Z))))
    (sum_agrees e d h (agree_self q n E) (agree_self q n D)))
    (λ i l. omega (arith, sums, wrapped_sum_right n A S Z i l))

-- the share of no part with no noise is nothing
pub share_of_nothing : (q n : ℕ) (a : List ℕ) → 0 < q → residues q n (λ i. pos 0) ≡ pk_share q n a (residues q n (λ i. pos 0)) (residues q n (λ i. pos 0))
unfolding pk_share
share_of_nothing q n a h =
    let A = coefficient a in
    let o = residues q n (λ i. pos 0) in
    let at_o : Agree q n (coefficient o) (λ i. pos 0) = coefficients_agree q n (λ i. pos 0) h in
    by_coefficients (λ i. pos 0) (plus (negated (wrapped n A (λ i. pos 0))) (λ i. pos 0)) o (ring_sum q n (ring_negative q n (ring_product q n a o)) o) h
    (residues_poly q n (λ i. pos 0) h) (sum_poly q n (ring_negative q n (ring_product q n a o)) o h)
    at_o (sum_agrees (ring_negative q n (ring_product q n a o)) o h (negative_agrees (ring_product q n a o) h (product_agrees a o h (agree_self q n A) at_o)) at_o)
    (λ i l. omega (arith, sums, wrapped_zero_right n A i l))

-- the shares of the public key add up to the share of the sum of the parts, with the sum of the noises
pub key_shares_total : (q n : ℕ) (a : List ℕ) (ps : List Member) → 0 < q →
    ring_total q n (key_shares q n a ps) ≡ pk_share q n a (ring_total q n (parts ps)) (ring_total q n (noises ps))
unfolding ring_total
key_shares_total q n a [] h = share_of_nothing q n a h
key_shares_total q n a (p ∷ ps) h =
    ap (ring_sum q n (pk_share q n a p.part p.noise)) (key_shares_total q n a ps h)
    ∙ shares_add q n a p.part p.noise (ring_total q n (parts ps)) (ring_total q n (noises ps)) h

-- so they are a public key of the sum of the parts, within b for each party
pub joint_key : (q n b : ℕ) (a : List ℕ) (ps : List Member) → 0 < q → All (IsPoly q n) (noises ps) → All (λ f. size q f ≤ b) (noises ps) →
    IsPublicKey q n (ring_total q n (parts ps)) (length (noises ps) * b) (record { p0 = ring_total q n (key_shares q n a ps); p1 = a })
joint_key q n b a ps h p l =
    let k = share_is_key q n (length (noises ps) * b) a (ring_total q n (parts ps)) (ring_total q n (noises ps)) h (total_poly q n (noises ps) h) (size_total q n b (noises ps) h p l) in
    record { noise = rw (key_shares_total q n a ps h) k.noise }

-- two shares of a decryption add up to the share of both parts
dec_shares_add : (q n : ℕ) (c s f z g : List ℕ) → 0 < q →
    ring_sum q n (ring_sum q n (ring_product q n c s) f) (ring_sum q n (ring_product q n c z) g) ≡ ring_sum q n (ring_product q n c (ring_sum q n s z)) (ring_sum q n f g)
dec_shares_add q n c s f z g h =
    let C = coefficient c in let S = coefficient s in let F = coefficient f in let Z = coefficient z in let G = coefficient g in
    let one = ring_sum q n (ring_product q n c s) f in
    let two = ring_sum q n (ring_product q n c z) g in
    let sz = ring_sum q n s z in let fg = ring_sum q n f g in
    by_coefficients (plus (plus (wrapped n C S) F) (plus (wrapped n C Z) G)) (plus (wrapped n C (plus S Z)) (plus F G))
    (ring_sum q n one two) (ring_sum q n (ring_product q n c sz) fg) h
    (sum_poly q n one two h) (sum_poly q n (ring_product q n c sz) fg h)
    (sum_agrees one two h
    (sum_agrees (ring_product q n c s) f h (product_agrees c s h (agree_self q n C) (agree_self q n S)) (agree_self q n F))
    (sum_agrees (ring_product q n c z) g h (product_agrees c z h (agree_self q n C) (agree_self q n Z)) (agree_self q n G)))
    (sum_agrees (ring_product q n c sz) fg h
    (product_agrees c sz h (agree_self q n C) (sum_agrees s z h (agree_self q n S) (agree_self q n Z)))
    (sum_agrees f g h (agree_self q n F) (agree_self q n G)))
    (λ i l. omega (arith, sums, wrapped_sum_right n C S Z i l))

dec_share_of_nothing : (q n : ℕ) (c : List ℕ) → 0 < q → residues q n (λ i. pos 0) ≡ ring_sum q n (ring_product q n c (residues q n (λ i. pos 0))) (residues q n (λ i. pos 0))
dec_share_of_nothing q n c h =
    let C = coefficient c in
    let o = residues q n (λ i. pos 0) in
    let at_o : Agree q n (coefficient o) (λ i. pos 0) = coefficients_agree q n (λ i. pos 0) h in
    by_coefficients (λ i. pos 0) (plus (wrapped n C (λ i. pos 0)) (λ i. pos 0)) o (ring_sum q n (ring_product q n c o) o) h
    (residues_poly q n (λ i. pos 0) h) (sum_poly q n (ring_product q n c o) o h)
    at_o (sum_agrees (ring_product q n c o) o h (product_agrees c o h (agree_self q n C) at_o) at_o)
    (λ i l. omega (arith, sums, wrapped_zero_right n C i l))

-- the shares of a decryption add up to c1 times the sum of the parts, and the sum of the noises
pub decryption_shares_total : (q n : ℕ) (c : List ℕ) (ps : List Member) → 0 < q →
    ring_total q n (decryption_shares q n c ps) ≡ ring_sum q n (ring_product q n c (ring_total q n (parts ps))) (ring_total q n (noises ps))
unfolding ring_total
decryption_shares_total q n c [] h = dec_share_of_nothing q n c h
decryption_shares_total q n c (p ∷ ps) h =
    ap (ring_sum q n (ring_sum q n (ring_product q n c p.part) p.noise)) (decryption_shares_total q n c ps h)
    ∙ dec_shares_add q n c p.part p.noise (ring_total q n (parts ps)) (ring_total q n (noises ps)) h

-- with the first part of the ciphertext they give its phase and the sum of the noises, of which what
-- is off D*m is at most what the phase's is and the noises' sum
pub joint_noise : (q n t v w : ℕ) (c : Cipher) (m : List ℕ) (ps : List Member) → 0 < q → Carries q n t (ring_total q n (parts ps)) v c m →
    All (IsPoly q n) (noises ps) → All (λ f. size q f ≤ w) (noises ps) →
    size q (ring_difference q n (ring_sum q n c.c0 (ring_total q n (decryption_shares q n c.c1 ps))) (ring_multiple q n (delta q t) m)) ≤ v + length (noises ps) * w
unfolding phase
joint_noise q n t v w c m ps h cm p l =
    let s = ring_total q n (parts ps) in let f = ring_total q n (noises ps) in
    let dm = ring_multiple q n (delta q t) m in
    let C0 = coefficient c.c0 in let C1 = coefficient c.c1 in let S = coefficient s in let F = coefficient f in let DM = coefficient dm in
    let share = ring_sum q n (ring_product q n c.c1 s) f in
    let ph = ring_sum q n c.c0 (ring_product q n c.c1 s) in
    let off = ring_difference q n ph dm in
    let at_cs : Agree q n (coefficient (ring_product q n c.c1 s)) (wrapped n C1 S) = product_agrees c.c1 s h (agree_self q n C1) (agree_self q n S) in
    let e : ring_difference q n (ring_sum q n c.c0 share) dm ≡ ring_sum q n off f =
    by_coefficients (minus (plus C0 (plus (wrapped n C1 S) F)) DM) (plus (minus (plus C0 (wrapped n C1 S)) DM) F)
    (ring_difference q n (ring_sum q n c.c0 share) dm) (ring_sum q n off f) h
    (difference_poly q n (ring_sum q n c.c0 share) dm h) (sum_poly q n off f h)
    (difference_agrees (ring_sum q n c.c0 share) dm h (sum_agrees c.c0 share h (agree_self q n C0) (sum_agrees (ring_product q n c.c1 s) f h at_cs (agree_self q n F))) (agree_self q n DM))
    (sum_agrees off f h (difference_agrees ph dm h (sum_agrees c.c0 (ring_product q n c.c1 s) h (agree_self q n C0) at_cs) (agree_self q n DM)) (agree_self q n F))
    (λ i r. omega (arith, sums)) in
    let a : size q (ring_sum q n off f) ≤ size q off + size q f = size_sum q n off f h (difference_poly q n ph dm h) (total_poly q n (noises ps) h) in
    let b : size q f ≤ length (noises ps) * w = size_total q n w (noises ps) h p l in
    rw (decryption_shares_total q n c.c1 ps h, e) (omega (arith, cm.noise))

-- so their decryption is the plaintext, where v and the noises together are small enough
pub joint_decrypts : (q n t v w : ℕ) (c : Cipher) (m : List ℕ) (ps : List Member) → 0 < q → 0 < t → IsPoly t n m → Carries q n t (ring_total q n (parts ps)) v c m →
    All (IsPoly q n) (noises ps) → All (λ f. size q f ≤ w) (noises ps) → 2 * t * (v + length (noises ps) * w) + 2 * remainder q t * (t - 1) < q →
    decryption q t (ring_sum q n c.c0 (ring_total q n (decryption_shares q n c.c1 ps))) ≡ m
joint_decrypts q n t v w c m ps h ht pm cm p l r =
    phase_decrypts q n t (v + length (noises ps) * w) (ring_sum q n c.c0 (ring_total q n (decryption_shares q n c.c1 ps))) m h ht
    (sum_poly q n c.c0 (ring_total q n (decryption_shares q n c.c1 ps)) h) pm (joint_noise q n t v w c m ps h cm p l) r

-- the same, where v and w for each party are together at most the limit
pub joint_limit_decrypts : (q n t v w : ℕ) (c : Cipher) (m : List ℕ) (ps : List Member) → 0 < t → 2 * remainder q t * (t - 1) < q → IsPoly t n m → Carries q n t (ring_total q n (parts ps)) v c m →
    All (IsPoly q n) (noises ps) → All (λ f. size q f ≤ w) (noises ps) → v + length (noises ps) * w ≤ limit q t →
    decryption q t (ring_sum q n c.c0 (ring_total q n (decryption_shares q n c.c1 ps))) ≡ m
joint_limit_decrypts q n t v w c m ps ht r pm cm p l b =
    joint_decrypts q n t v w c m ps (omega arith) ht pm cm p l (limit_is q t (v + length (noises ps) * w) ht r b)
