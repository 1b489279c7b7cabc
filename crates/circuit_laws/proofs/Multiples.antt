-- The noise of a difference, of a negative, of a product with a plaintext, and of a plaintext alone.
use Rattle.std.proofs.Common.{◌≡◌, ℕ, ◌+◌, ◌-◌, ◌*◌, ◌<◌, List, replicate, refl, ap, ◌∙◌, sym, subst, arith}
use Rattle.std.specs.Prelude.{ℤ, pos, neg_ℤ}
use Rattle.std.proofs.lemmas.Nat.{mul-le}
use Rattle.std.proofs.lemmas.List.{get_or-replicate}
use Rattle.ring_spec.specs.Ring.{wrapped, plus, minus, negated, times, coefficient, size, IsWithin, IsPoly, residues, ring_difference, ring_negative, ring_multiple, ring_product, centred}
use Rattle.ring_spec.specs.Pairs.{Cipher}
use Rattle.bfv_spec.specs.Scheme.{delta, remainder, cipher_difference, cipher_negative, cipher_multiple, trivial, phase, Carries}
use Rattle.ring_laws.specs.Congruence.{Agree}
use Rattle.ring_laws.proofs.Integers.{sums, times_sum, times_negative}
use Rattle.ring_laws.proofs.Products.{wrapped_sum_left, wrapped_difference_left, wrapped_negative_left, wrapped_times_left, wrapped_zero_left, wrapped_commutes, wrapped_same}
use Rattle.ring_laws.proofs.Associates.{wrapped_associates}
use Rattle.ring_laws.proofs.Congruences.{agree_equal, agree_self, agree_chain, agree_back, agree_difference, agree_negative, agree_product}
use Rattle.ring_laws.proofs.Residues.{entry_below, difference_poly}
use Rattle.ring_laws.proofs.Rings.{sum_agrees, difference_agrees, negative_agrees, multiple_agrees, product_agrees}
use Rattle.ring_laws.proofs.Sizes.{size_within, within_difference, within_negative, within_product, within_more, centred_agrees, centred_within}
use Rattle.circuit_laws.proofs.Reduced.{reduced_carries}
use borrow.Author.Differences.{ints}

-- the phase of a ciphertext as a polynomial over the whole numbers
abbrev opened : ℕ → List ℕ → Cipher → ℕ → ℤ
opened n s c = plus (coefficient c.c0) (wrapped n (coefficient c.c1) (coefficient s))

phase_agrees : {q n : ℕ} {a b : ℕ → ℤ} (c : Cipher) (s : List ℕ) → 0 < q → Agree q n (coefficient c.c0) a → Agree q n (coefficient c.c1) b →
    Agree q n (coefficient (phase q n s c)) (plus a (wrapped n b (coefficient s)))
unfolding phase
phase_agrees {q} {n} c s h at0 at1 =
    sum_agrees c.c0 (ring_product q n c.c1 s) h at0 (product_agrees c.c1 s h at1 (agree_self q n (coefficient s)))

-- the noise that is carried, as the centres of a polynomial of size at most v
record Noise (q n t v : ℕ) (s : List ℕ) (c : Cipher) (m : List ℕ) : Type 0 where
  part : ℕ → ℤ
  agrees : Agree q n (minus (opened n s c) (times (pos (delta q t)) (coefficient m))) part
  within : IsWithin n v part

noise_of : (q n t v : ℕ) (s : List ℕ) (c : Cipher) (m : List ℕ) → 0 < q → Carries q n t s v c m → Noise q n t v s c m
noise_of q n t v s c m h carried =
    let D = delta q t in let f = phase q n s c in let dm = ring_multiple q n D m in
    let e = ring_difference q n f dm in
    record {
      part = centred q e;
      agrees = agree_chain (agree_back (difference_agrees f dm h
          (phase_agrees c s h (agree_self q n (coefficient c.c0)) (agree_self q n (coefficient c.c1))) (multiple_agrees D m h (agree_self q n (coefficient m)))))
          (centred_agrees q n e);
      within = within_more n (size q e) v (centred q e) carried.noise (centred_within q n e (difference_poly q n f dm h));
    }

-- a plaintext's coefficients are at most t - 1
plain_within : (n t : ℕ) (m : List ℕ) → IsPoly t n m → IsWithin n (t - 1) (coefficient m)
plain_within n t m p i l = omega (arith, entry_below t n m i p l)

-- the difference of two ciphertexts carries the difference of the plaintexts
pub difference_carries : (q n t v w : ℕ) (c d : Cipher) (m l s : List ℕ) → 0 < q → 0 < t → IsPoly t n m → IsPoly t n l →
    Carries q n t s v c m → Carries q n t s w d l → Carries q n t s (v + w + remainder q t) (cipher_difference q n c d) (ring_difference t n m l)
unfolding cipher_difference ring_difference
difference_carries q n t v w c d m l s h ht pm pl cm dl =
    let D = delta q t in let S = coefficient s in let M = coefficient m in let L = coefficient l in
    let one = noise_of q n t v s c m h cm in let two = noise_of q n t w s d l h dl in
    let both = cipher_difference q n c d in
    let at : Agree q n (coefficient (phase q n s both)) (plus (minus (coefficient c.c0) (coefficient d.c0)) (wrapped n (minus (coefficient c.c1) (coefficient d.c1)) S)) =
    phase_agrees both s h
    (difference_agrees c.c0 d.c0 h (agree_self q n (coefficient c.c0)) (agree_self q n (coefficient d.c0)))
    (difference_agrees c.c1 d.c1 h (agree_self q n (coefficient c.c1)) (agree_self q n (coefficient d.c1))) in
    let parts : Agree q n (minus (plus (minus (coefficient c.c0) (coefficient d.c0)) (wrapped n (minus (coefficient c.c1) (coefficient d.c1)) S)) (times (pos D) (minus M L)))
    (minus (minus (opened n s c) (times (pos D) M)) (minus (opened n s d) (times (pos D) L))) =
    agree_equal q n (minus (plus (minus (coefficient c.c0) (coefficient d.c0)) (wrapped n (minus (coefficient c.c1) (coefficient d.c1)) S)) (times (pos D) (minus M L)))
    (minus (minus (opened n s c) (times (pos D) M)) (minus (opened n s d) (times (pos D) L)))
    (λ i p. omega (arith, sums, wrapped_difference_left n (coefficient c.c1) (coefficient d.c1) S i, times_sum (pos D) (M i) (neg_ℤ (L i)), times_negative (pos D) (L i))) in
    let few : IsWithin n (1 * t) (minus M L) = λ i p. omega (arith, ints, entry_below t n m i pm p, entry_below t n l i pl p) in
    let all = reduced_carries q n t (v + w) 1 both s (minus M L) (minus one.part two.part) h ht
    (agree_chain (agree_difference at (agree_self q n (times (pos D) (minus M L)))) (agree_chain parts (agree_difference one.agrees two.agrees)))
    (within_difference n v w one.part two.part one.within two.within) few in
    let bound : v + w + remainder q t * 1 ≡ v + w + remainder q t = omega arith in
    subst (λ (x : ℕ). Carries q n t s x both (residues t n (minus M L))) bound all

-- the negative of a ciphertext carries the negative of the plaintext
pub negative_carries : (q n t v : ℕ) (c : Cipher) (m s : List ℕ) → 0 < q → 0 < t → IsPoly t n m →
    Carries q n t s v c m → Carries q n t s (v + remainder q t) (cipher_negative q n c) (ring_negative t n m)
unfolding cipher_negative ring_negative
negative_carries q n t v c m s h ht pm cm =
    let D = delta q t in let S = coefficient s in let M = coefficient m in
    let C0 = coefficient c.c0 in let C1 = coefficient c.c1 in
    let one = noise_of q n t v s c m h cm in
    let turned = cipher_negative q n c in
    let at : Agree q n (coefficient (phase q n s turned)) (plus (negated C0) (wrapped n (negated C1) S)) =
    phase_agrees turned s h (negative_agrees c.c0 h (agree_self q n C0)) (negative_agrees c.c1 h (agree_self q n C1)) in
    let parts : Agree q n (minus (plus (negated C0) (wrapped n (negated C1) S)) (times (pos D) (negated M))) (negated (minus (opened n s c) (times (pos D) M))) =
    agree_equal q n (minus (plus (negated C0) (wrapped n (negated C1) S)) (times (pos D) (negated M))) (negated (minus (opened n s c) (times (pos D) M)))
    (λ i p. omega (arith, sums, wrapped_negative_left n C1 S i, times_negative (pos D) (M i))) in
    let few : IsWithin n (1 * t) (negated M) = λ i p. omega (arith, ints, entry_below t n m i pm p) in
    let all = reduced_carries q n t v 1 turned s (negated M) (negated one.part) h ht
    (agree_chain (agree_difference at (agree_self q n (times (pos D) (negated M)))) (agree_chain parts (agree_negative one.agrees)))
    (within_negative n v one.part one.within) few in
    let bound : v + remainder q t * 1 ≡ v + remainder q t = omega arith in
    subst (λ (x : ℕ). Carries q n t s x turned (residues t n (negated M))) bound all

-- a ciphertext times a plaintext carries the product of the plaintexts
pub multiple_carries : (q n t v : ℕ) (c : Cipher) (m l s : List ℕ) → 0 < q → 0 < t → IsPoly t n m → IsPoly t n l →
    Carries q n t s v c m → Carries q n t s (n * (t - 1) * (v + remainder q t)) (cipher_multiple q n c l) (ring_product t n m l)
unfolding cipher_multiple ring_product
multiple_carries q n t v c m l s h ht pm pl cm =
    let D = delta q t in let r = remainder q t in let S = coefficient s in let M = coefficient m in let L = coefficient l in
    let C0 = coefficient c.c0 in let C1 = coefficient c.c1 in
    let one = noise_of q n t v s c m h cm in
    let by = cipher_multiple q n c l in
    let P = wrapped n M L in
    let A = minus (opened n s c) (times (pos D) M) in
    let at : Agree q n (coefficient (phase q n s by)) (plus (wrapped n C0 L) (wrapped n (wrapped n C1 L) S)) =
    phase_agrees by s h (product_agrees c.c0 l h (agree_self q n C0) (agree_self q n L)) (product_agrees c.c1 l h (agree_self q n C1) (agree_self q n L)) in
    let turn : (i : ℕ) → i < n → wrapped n (wrapped n C1 L) S i ≡ wrapped n (wrapped n C1 S) L i =
    λ i p. wrapped_associates n C1 L S i p ∙ product_by n C1 L S i p ∙ sym (wrapped_associates n C1 S L i p) in
    let parts : Agree q n (minus (plus (wrapped n C0 L) (wrapped n (wrapped n C1 L) S)) (times (pos D) P)) (wrapped n A L) =
    agree_equal q n (minus (plus (wrapped n C0 L) (wrapped n (wrapped n C1 L) S)) (times (pos D) P)) (wrapped n A L)
    (λ i p. omega (arith, sums, turn i p, wrapped_difference_left n (opened n s c) (times (pos D) M) L i, wrapped_sum_left n C0 (wrapped n C1 S) L i, wrapped_times_left n (pos D) M L i)) in
    let few : IsWithin n (n * (t - 1) * t) P =
    within_more n (n * (t - 1) * (t - 1)) (n * (t - 1) * t) P (mul-le (n * (t - 1)) (t - 1) (n * (t - 1)) t (omega arith) (omega arith))
    (within_product n (t - 1) (t - 1) M L (plain_within n t m pm) (plain_within n t l pl)) in
    let all = reduced_carries q n t (n * v * (t - 1)) (n * (t - 1)) by s P (wrapped n one.part L) h ht
    (agree_chain (agree_difference at (agree_self q n (times (pos D) P))) (agree_chain parts (agree_product one.agrees (agree_self q n L))))
    (within_product n v (t - 1) one.part L one.within (plain_within n t l pl)) few in
    let bound : n * v * (t - 1) + r * (n * (t - 1)) ≡ n * (t - 1) * (v + r) = omega arith in
    subst (λ (x : ℕ). Carries q n t s x by (residues t n P)) bound all
  where
    product_by : (n : ℕ) (a b c : ℕ → ℤ) (k : ℕ) → k < n → wrapped n a (wrapped n b c) k ≡ wrapped n a (wrapped n c b) k
    product_by n a b c k h = wrapped_same n a (wrapped n b c) a (wrapped n c b) k h (λ i l. refl) (λ i l. wrapped_commutes n b c i l)

-- a plaintext alone carries itself without noise
pub trivial_carries : (q n t : ℕ) (m s : List ℕ) → 0 < q → Carries q n t s 0 (trivial q n t m) m
unfolding trivial
trivial_carries q n t m s h =
    let D = delta q t in let S = coefficient s in let M = coefficient m in
    let c = trivial q n t m in
    let f = phase q n s c in let dm = ring_multiple q n D m in
    let none = coefficient (replicate n 0) in
    let at_f : Agree q n (coefficient f) (plus (times (pos D) M) (wrapped n (λ i. pos 0) S)) =
    phase_agrees c s h (multiple_agrees D m h (agree_self q n M))
    (agree_equal q n none (λ i. pos 0) (λ i p. ap pos (get_or-replicate n i 0 0 p))) in
    let at : Agree q n (coefficient (ring_difference q n f dm)) (minus (plus (times (pos D) M) (wrapped n (λ i. pos 0) S)) (times (pos D) M)) =
    difference_agrees f dm h at_f (multiple_agrees D m h (agree_self q n M)) in
    let parts : Agree q n (minus (plus (times (pos D) M) (wrapped n (λ i. pos 0) S)) (times (pos D) M)) (λ i. pos 0) =
    agree_equal q n (minus (plus (times (pos D) M) (wrapped n (λ i. pos 0) S)) (times (pos D) M)) (λ i. pos 0)
    (λ i p. omega (arith, sums, wrapped_zero_left n S i)) in
    record { noise = size_within 0 (ring_difference q n f dm) (λ i. pos 0) (difference_poly q n f dm h) (agree_chain at parts) (λ i p. omega arith) }
