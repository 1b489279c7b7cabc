-- A factor of a product over the whole numbers: t times its phase is q times a whole part, and a small rest.
use Rattle.std.proofs.Common.{◌≡◌, ℕ, ◌+◌, ◌-◌, ◌*◌, ◌/◌, ◌≤◌, ◌<◌, List, get_or, refl, ap, sym, ◌⊎◌, inl, inr, arith}
use Rattle.std.specs.Prelude.{ℤ, pos, ◌+ℤ◌, ◌-ℤ◌, ◌*ℤ◌, neg_ℤ, unsigned_abs}
use Rattle.std.proofs.lemmas.Bool.{cases_lt}
use Rattle.std.proofs.lemmas.Int.{unsigned_abs-mul}
use Rattle.std.proofs.lemmas.Nat.{mul-le}
use Rattle.std.proofs.lemmas.List.{get_or-map}
use Rattle.ring_spec.specs.Ring.{wrapped, centre, plus, minus, times, coefficient, size, IsWithin, IsPoly, ring_difference, ring_multiple, centred}
use Rattle.ring_spec.specs.Pairs.{Cipher}
use Rattle.bfv_spec.specs.Scheme.{delta, remainder, phase}
use Rattle.ring_laws.specs.Congruence.{Agree}
use Rattle.tensor_laws.specs.Products.{wraps, IsFactor}
use Rattle.ring_laws.proofs.Integers.{sums, abs_sum, abs_negative}
use Rattle.ring_laws.proofs.Congruences.{agree_equal, agree_self, agree_chain, agree_back, agree_sum, agree_product}
use Rattle.ring_laws.proofs.Residues.{entry_below, difference_poly}
use Rattle.ring_laws.proofs.Rings.{difference_agrees, multiple_agrees}
use Rattle.ring_laws.proofs.Sizes.{within_sum, within_more, within_product, centred_agrees, centred_within}
use Rattle.gadget_laws.proofs.Digits.{centre_half}
use Rattle.gadget_laws.proofs.Phases.{phase_agrees}
use Rattle.tensor_laws.proofs.Numbers.{factor_is, wraps_within}

-- ---- centres

-- a centre is at most half of the modulus
pub centre_within : (q n : ℕ) (f : List ℕ) → IsPoly q n f → IsWithin n (q / 2) (centred q f)
centre_within q n f p i l = omega (arith, centre_half q (get_or f i 0) (entry_below q n f i p l))

-- ---- factors

-- the phase of a ciphertext over the whole numbers
abbrev pub centred_phase : ℕ → ℕ → List ℕ → Cipher → ℕ → ℤ
centred_phase q n s c = plus (centred q c.c0) (wrapped n (centred q c.c1) (centred q s))

pub record Factor (q n t a y : ℕ) (p : ℕ → ℤ) (m : List ℕ) : Type 0 where
  pub whole : ℕ → ℤ
  pub rest : ℕ → ℤ
  pub split : (i : ℕ) → i < n → pos t *ℤ p i ≡ pos q *ℤ whole i +ℤ rest i
  pub agrees : Agree t n whole (coefficient m)
  pub whole_within : IsWithin n a whole
  pub rest_within : IsWithin n y rest

-- the multiple by which two polynomials differ, as a polynomial
pub record Multiple (q n : ℕ) (a b : ℕ → ℤ) : Type 0 where
  pub by : ℕ → ℤ
  pub is : (i : ℕ) → i < n → a i ≡ b i +ℤ pos q *ℤ by i

pub multiple_of : (q n : ℕ) (a b : ℕ → ℤ) → Agree q n a b → Multiple q n a b
multiple_of q n a b c = record { by = λ i. choice i (cases_lt i n); is = λ i l. chosen i l (cases_lt i n) }
  where
    choice : (i : ℕ) → (i < n) ⊎ (n ≤ i) → ℤ
    choice i (inl l) = (c.each i l).k
    choice i (inr l) = pos 0

    chosen : (i : ℕ) → i < n → (o : (i < n) ⊎ (n ≤ i)) → a i ≡ b i +ℤ pos q *ℤ choice i o
    chosen i l (inl l') = (c.each i l').is
    chosen i l (inr l') = absurd (omega arith)

pub factor_of : (q n t w v : ℕ) (s : List ℕ) (c : Cipher) (m : List ℕ) → 0 < q → 0 < t → IsPoly q n s → size q s ≤ w → IsFactor q n t s v c m →
    Factor q n t (t * (wraps n w + 1) - 1) (t * v + remainder q t * (t - 1)) (centred_phase q n s c) m
factor_of q n t w v s c m h ht ps ls it =
    let D = delta q t in let r = remainder q t in
    let C0 = centred q c.c0 in let C1 = centred q c.c1 in let S = centred q s in
    let M = coefficient m in let F = coefficient (phase q n s c) in
    let P = centred_phase q n s c in
    let noise = ring_difference q n (phase q n s c) (ring_multiple q n D m) in
    let E = centred q noise in
    let at_phase : Agree q n F P =
    agree_chain (phase_agrees c s h (centred_agrees q n c.c0) (centred_agrees q n c.c1))
    (agree_sum (agree_self q n C0) (agree_product (agree_self q n C1) (centred_agrees q n s))) in
    let at_noise : Agree q n (minus F (times (pos D) M)) E =
    agree_chain (agree_back (difference_agrees (phase q n s c) (ring_multiple q n D m) h (agree_self q n F) (multiple_agrees D m h (agree_self q n M)))) (centred_agrees q n noise) in
    let parts : Agree q n F (plus (times (pos D) M) (minus F (times (pos D) M))) = agree_equal q n F (plus (times (pos D) M) (minus F (times (pos D) M))) (λ i l. omega (arith, sums)) in
    let off = multiple_of q n P (plus (times (pos D) M) E) (agree_chain (agree_back at_phase) (agree_chain parts (agree_sum (agree_self q n (times (pos D) M)) at_noise))) in
    let half = q / 2 in
    let little : IsWithin n v E = within_more n (size q noise) v E it.carries.noise (centred_within q n noise (difference_poly q n (phase q n s c) (ring_multiple q n D m) h)) in
    let few : IsWithin n (half + n * half * w) P =
    within_sum n half (n * half * w) C0 (wrapped n C1 S) (centre_within q n c.c0 it.fits.c0)
    (within_product n half w C1 S (centre_within q n c.c1 it.fits.c1) (within_more n (size q s) w S ls (centred_within q n s ps))) in
    let bound : 2 * (half + n * half * w) ≤ q * (1 + n * w) =
    (let e : 2 * half * (1 + n * w) ≤ q * (1 + n * w) = mul-le (2 * half) (1 + n * w) q (1 + n * w) (omega arith) (omega arith) in omega (arith, e)) in
    let wrapped_few : IsWithin n (wraps n w) off.by =
    λ i l. wraps_within q t (get_or m i 0) v (n * w) (P i) (E i) (off.by i) ht (entry_below t n m i it.plain l) (little i l) (omega (arith, it.small)) (omega (arith, few i l, bound)) (off.is i l) in
    record {
      whole = λ i. pos (get_or m i 0) +ℤ pos t *ℤ off.by i;
      rest = λ i. pos t *ℤ E i -ℤ pos (r * get_or m i 0);
      split = λ i l. factor_is q t (get_or m i 0) (P i) (E i) (off.by i) ht (off.is i l);
      agrees = record { each = λ i l. record { k = off.by i; is = refl } };
      whole_within = λ i l.
          let a : t * unsigned_abs (off.by i) ≤ t * wraps n w = mul-le t (unsigned_abs (off.by i)) t (wraps n w) (omega arith) (wrapped_few i l) in
          omega (arith, a, abs_sum (pos (get_or m i 0)) (pos t *ℤ off.by i), unsigned_abs-mul (pos t) (off.by i), entry_below t n m i it.plain l);
      rest_within = λ i l.
          let a : t * unsigned_abs (E i) ≤ t * v = mul-le t (unsigned_abs (E i)) t v (omega arith) (little i l) in
          let b : r * get_or m i 0 ≤ r * (t - 1) = mul-le r (get_or m i 0) r (t - 1) (omega arith) (omega (arith, entry_below t n m i it.plain l)) in
          omega (arith, a, b, abs_sum (pos t *ℤ E i) (neg_ℤ (pos (r * get_or m i 0))), abs_negative (pos (r * get_or m i 0)), unsigned_abs-mul (pos t) (E i));
    }
