-- The phase of small polynomials times the rows of a key: the polynomials times the weights, times z, and a
-- little noise for each row.
use Rattle.std.proofs.Common.{◌≡◌, ℕ, suc, ◌+◌, ◌*◌, ◌≤◌, ◌<◌, List, [], ◌∷◌, length, replicate, ap, arith}
use Rattle.std.specs.Prelude.{ℤ, pos, All}
use Rattle.std.proofs.lemmas.List.{get_or-replicate}
use Rattle.std.proofs.lemmas.List.Elements.{All-head, All-tail}
use Rattle.ring_spec.specs.Ring.{wrapped, plus, minus, times, coefficient, size, IsWithin, IsPoly, ring_sum, ring_difference, ring_multiple, ring_product, centred}
use Rattle.ring_spec.specs.Pairs.{Cipher}
use Rattle.bfv_spec.specs.Scheme.{cipher_sum, phase}
use Rattle.gadget_spec.specs.Switching.{KeyRow, row_at, row_phase, combined}
use Rattle.ring_laws.specs.Congruence.{Agree}
use Rattle.ring_laws.proofs.Integers.{sums}
use Rattle.ring_laws.proofs.Products.{wrapped_sum_left, wrapped_sum_right, wrapped_difference_right, wrapped_times_left, wrapped_times_right, wrapped_zero_left}
use Rattle.ring_laws.proofs.Associates.{wrapped_associates}
use Rattle.ring_laws.proofs.Congruences.{agree_equal, agree_self, agree_chain, agree_back, agree_sum, agree_product}
use Rattle.ring_laws.proofs.Residues.{difference_poly}
use Rattle.ring_laws.proofs.Rings.{sum_agrees, difference_agrees, multiple_agrees, product_agrees}
use Rattle.ring_laws.proofs.Sizes.{within_sum, within_more, within_product, centred_agrees, centred_within}
use Rattle.gadget_laws.proofs.Polynomials.{made}
use Rattle.gadget_laws.proofs.Phases.{opened, phase_agrees, row_phase_agrees}

-- a phase is a polynomial times z, but for noise within v
pub record IsMultiple (q n : ℕ) (s z : List ℕ) (v : ℕ) (c : Cipher) (m : ℕ → ℤ) : Type 0 where
  pub noise : ℕ → ℤ
  pub agrees : Agree q n (coefficient (phase q n s c)) (plus (wrapped n m (coefficient z)) noise)
  pub within : IsWithin n v noise

zeros_agree : (q n : ℕ) → Agree q n (coefficient (replicate n 0)) (λ i. pos 0)
zeros_agree q n = agree_equal q n (coefficient (replicate n 0)) (λ i. pos 0) (λ i p. ap pos (get_or-replicate n i 0 0 p))

-- no rows
none_is : (q n v : ℕ) (s z : List ℕ) → 0 < q → IsMultiple q n s z v (record { c0 = replicate n 0; c1 = replicate n 0 }) (λ i. pos 0)
none_is q n v s z h = record {
  noise = λ i. pos 0;
  agrees = agree_chain (phase_agrees (record { c0 = replicate n 0; c1 = replicate n 0 }) s h (zeros_agree q n) (zeros_agree q n))
      (agree_equal q n (opened n s (λ i. pos 0) (λ i. pos 0)) (plus (wrapped n (λ i. pos 0) (coefficient z)) (λ i. pos 0))
      (λ i p. omega (arith, sums, wrapped_zero_left n (coefficient s) i, wrapped_zero_left n (coefficient z) i)));
  within = λ i p. omega arith;
}

-- one more row
more_is : (q n most u v : ℕ) (w : ℕ) (s z d : List ℕ) (row : KeyRow) (c : Cipher) (m : ℕ → ℤ) → 0 < q → IsPoly q n d → size q d ≤ most →
    size q (ring_difference q n (row_phase q n s row) (ring_multiple q n w z)) ≤ u → IsMultiple q n s z v c m →
    IsMultiple q n s z (n * most * u + v) (cipher_sum q n (record { c0 = ring_product q n d row.b; c1 = ring_product q n d row.a }) c) (plus (times (pos w) (coefficient d)) m)
unfolding cipher_sum
more_is q n most u v w s z d row c m h pd few noise rest =
    let D = coefficient d in let B = coefficient row.b in let A = coefficient row.a in let S = coefficient s in let Z = coefficient z in
    let C0 = coefficient c.c0 in let C1 = coefficient c.c1 in
    let off = ring_difference q n (row_phase q n s row) (ring_multiple q n w z) in
    let O = minus (opened n s B A) (times (pos w) Z) in
    let E = centred q off in let F = centred q d in
    let db = ring_product q n d row.b in let da = ring_product q n d row.a in
    let both : Cipher = record { c0 = ring_sum q n db c.c0; c1 = ring_sum q n da c.c1 } in
    let at_off : Agree q n O E =
    agree_chain (agree_back (difference_agrees (row_phase q n s row) (ring_multiple q n w z) h (row_phase_agrees q n s row h) (multiple_agrees w z h (agree_self q n Z)))) (centred_agrees q n off) in
    let at_rest : Agree q n (opened n s C0 C1) (plus (wrapped n m Z) rest.noise) =
    agree_chain (agree_back (phase_agrees c s h (agree_self q n C0) (agree_self q n C1))) rest.agrees in
    let at_both : Agree q n (coefficient (phase q n s both)) (opened n s (plus (wrapped n D B) C0) (plus (wrapped n D A) C1)) =
    phase_agrees both s h
    (sum_agrees db c.c0 h (product_agrees d row.b h (agree_self q n D) (agree_self q n B)) (agree_self q n C0))
    (sum_agrees da c.c1 h (product_agrees d row.a h (agree_self q n D) (agree_self q n A)) (agree_self q n C1)) in
    let parts : Agree q n (opened n s (plus (wrapped n D B) C0) (plus (wrapped n D A) C1)) (plus (plus (wrapped n D O) (opened n s C0 C1)) (wrapped n (times (pos w) D) Z)) =
    agree_equal q n (opened n s (plus (wrapped n D B) C0) (plus (wrapped n D A) C1)) (plus (plus (wrapped n D O) (opened n s C0 C1)) (wrapped n (times (pos w) D) Z))
    (λ i p. omega (
      arith,
      sums,
      wrapped_sum_left n (wrapped n D A) C1 S i,
      wrapped_associates n D A S i p,
      wrapped_difference_right n D (opened n s B A) (times (pos w) Z) i p,
      wrapped_sum_right n D B (wrapped n A S) i p,
      wrapped_times_left n (pos w) D Z i,
      wrapped_times_right n (pos w) D Z i p,
    )) in
    let noises : Agree q n (plus (plus (wrapped n D O) (opened n s C0 C1)) (wrapped n (times (pos w) D) Z)) (plus (plus (wrapped n F E) (plus (wrapped n m Z) rest.noise)) (wrapped n (times (pos w) D) Z)) =
    agree_sum (agree_sum (agree_product (centred_agrees q n d) at_off) at_rest) (agree_self q n (wrapped n (times (pos w) D) Z)) in
    record {
      noise = plus (wrapped n F E) rest.noise;
      agrees = agree_chain at_both (agree_chain parts (agree_chain noises
          (agree_equal q n (plus (plus (wrapped n F E) (plus (wrapped n m Z) rest.noise)) (wrapped n (times (pos w) D) Z)) (plus (wrapped n (plus (times (pos w) D) m) Z) (plus (wrapped n F E) rest.noise))
          (λ i p. omega (arith, sums, wrapped_sum_left n (times (pos w) D) m Z i)))));
      within = within_sum n (n * most * u) v (wrapped n F E) rest.noise
          (within_product n most u F E (within_more n (size q d) most F few (centred_within q n d pd))
          (within_more n (size q off) u E noise (centred_within q n off (difference_poly q n (row_phase q n s row) (ring_multiple q n w z) h))))
          rest.within;
    }

-- all rows
pub combined_is : (q n most u : ℕ) (s z : List ℕ) (w : ℕ → ℕ) (key : List KeyRow) (ds : List (List ℕ)) → 0 < q → length key ≡ length ds →
    All (IsPoly q n) ds → All (λ d. size q d ≤ most) ds →
    ((i : ℕ) → i < length key → size q (ring_difference q n (row_phase q n s (row_at key i)) (ring_multiple q n (w i) z)) ≤ u) →
    IsMultiple q n s z (length key * (n * most * u)) (combined q n key ds) (made w ds)
unfolding combined
combined_is q n most u s z w [] [] h e p few noise = none_is q n (0 * (n * most * u)) s z h
combined_is q n most u s z w [] (d ∷ ds) h e p few noise = absurd (omega (arith, e))
combined_is q n most u s z w (row ∷ key) [] h e p few noise = absurd (omega (arith, e))
combined_is q n most u s z w (row ∷ key) (d ∷ ds) h e p few noise =
    let rest = combined_is q n most u s z (λ k. w (suc k)) key ds h (omega (arith, e)) (All-tail (IsPoly q n) d ds p) (All-tail (λ d. size q d ≤ most) d ds few) (λ i l. noise (suc i) (omega arith)) in
    let all = more_is q n most u (length key * (n * most * u)) (w 0) s z d row (combined q n key ds) (made (λ k. w (suc k)) ds) h
    (All-head (IsPoly q n) d ds p) (All-head (λ d. size q d ≤ most) d ds few) (noise 0 (omega arith)) rest in
    record { noise = all.noise; agrees = all.agrees; within = within_more n (n * most * u + length key * (n * most * u)) (length (row ∷ key) * (n * most * u)) all.noise (omega arith) all.within }
