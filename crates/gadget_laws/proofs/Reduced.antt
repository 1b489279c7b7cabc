-- A ciphertext that carries a plaintext over the whole numbers carries its residues modulo t, where the
-- noise grows by r for each t that the residues leave out.
use Rattle.std.proofs.Common.{◌≡◌, ℕ, suc, ◌+◌, ◌*◌, ◌≤◌, ◌<◌, List, ap, ◌∙◌, sym, inl, inr, arith}
use Rattle.std.specs.Prelude.{ℤ, pos, negsuc, ◌+ℤ◌, ◌-ℤ◌, ◌*ℤ◌, neg_ℤ, unsigned_abs}
use Rattle.std.proofs.lemmas.Nat.{mul-le}
use Rattle.std.proofs.lemmas.Bool.{cases_lt}
use Rattle.ring_spec.specs.Ring.{residue, residues, plus, minus, negated, times, coefficient, IsWithin, ring_difference, ring_multiple}
use Rattle.ring_spec.specs.Pairs.{Cipher}
use Rattle.bfv_spec.specs.Scheme.{delta, remainder, phase, Carries}
use Rattle.ring_laws.specs.Congruence.{Agree}
use Rattle.ring_laws.proofs.Integers.{sums, times_sum, times_times, sum_times, times_negative, abs_negative}
use Rattle.ring_laws.proofs.Congruences.{residue_below, residue_congruent, agree_self, agree_chain, agree_sum}
use Rattle.ring_laws.proofs.Residues.{residues_at, difference_poly}
use Rattle.ring_laws.proofs.Rings.{difference_agrees, multiple_agrees}
use Rattle.ring_laws.proofs.Sizes.{size_within, within_sum, within_negative, within_times}
use borrow.Author.Differences.{ints}

-- a number of size at most w * t differs from its residue by at most w times t
few_turns : (t w x : ℕ) (z k : ℤ) → x < t → unsigned_abs z ≤ w * t → pos x ≡ z +ℤ pos t *ℤ k → unsigned_abs k ≤ w
few_turns t w x z (pos k) h l e =
    let small : t * k < t * (w + 1) = omega (arith, ints, e) in
    elim (cases_lt w k) [
      | inl r ↦ absurd (let most : t * (w + 1) ≤ t * k = mul-le t (w + 1) t k (omega arith) (omega arith) in omega arith)
      | inr r ↦ r
    ]
few_turns t w x z (negsuc k) h l e =
    let small : t * (suc k) ≤ t * w = omega (arith, ints, e, times_negative (pos t) (pos (suc k))) in
    elim (cases_lt w (suc k)) [
      | inl r ↦ absurd (let most : t * (w + 1) ≤ t * (suc k) = mul-le t (w + 1) t (suc k) (omega arith) (omega arith) in omega arith)
      | inr r ↦ r
    ]

-- D times a whole number, less D times its residue: -r for each t between them, modulo q
turned_back : (q t : ℕ) (f z x k : ℤ) → 0 < t → z ≡ x +ℤ pos t *ℤ k →
    f -ℤ pos (delta q t) *ℤ x ≡ (f -ℤ pos (delta q t) *ℤ z) +ℤ neg_ℤ (pos (remainder q t) *ℤ k) +ℤ pos q *ℤ k
turned_back q t f z x k h e =
    let D = delta q t in let r = remainder q t in
    let a : pos D *ℤ z ≡ pos D *ℤ x +ℤ pos D *ℤ (pos t *ℤ k) = ap (λ (y : ℤ). pos D *ℤ y) e ∙ times_sum (pos D) x (pos t *ℤ k) in
    let b : pos D *ℤ (pos t *ℤ k) ≡ pos (D * t) *ℤ k = sym (times_times (pos D) (pos t) k) in
    let c : pos q *ℤ k ≡ pos (D * t) *ℤ k +ℤ pos r *ℤ k =
    ap (λ (y : ℕ). pos y *ℤ k) (let e' : q ≡ D * t + r = omega (arith, h) in e') ∙ sum_times (pos (D * t)) (pos r) k in
    omega (arith, sums, a, b, c)

-- a ciphertext whose phase is D * P but for Z carries the residues of P
pub reduced_carries : (q n t v w : ℕ) (c : Cipher) (s : List ℕ) (P Z : ℕ → ℤ) → 0 < q → 0 < t →
    Agree q n (minus (coefficient (phase q n s c)) (times (pos (delta q t)) P)) Z → IsWithin n v Z → IsWithin n (w * t) P →
    Carries q n t s (v + remainder q t * w) c (residues t n P)
reduced_carries q n t v w c s P Z h ht at within few =
    let D = delta q t in let r = remainder q t in
    let F = coefficient (phase q n s c) in
    let m = residues t n P in let M = coefficient m in
    let all = ring_difference q n (phase q n s c) (ring_multiple q n D m) in
    let K = λ (i : ℕ). neg_ℤ (residue_congruent t (P i) ht).k in
    let R = negated (times (pos r) K) in
    let whole : (i : ℕ) → P i ≡ pos (residue t (P i)) +ℤ pos t *ℤ K i =
    λ i. omega (arith, sums, (residue_congruent t (P i) ht).is, times_negative (pos t) (residue_congruent t (P i) ht).k) in
    let at_all : Agree q n (coefficient all) (minus F (times (pos D) M)) =
    difference_agrees (phase q n s c) (ring_multiple q n D m) h (agree_self q n F) (multiple_agrees D m h (agree_self q n M)) in
    let parts : Agree q n (minus F (times (pos D) M)) (plus (minus F (times (pos D) P)) R) = record {
      each = λ i p. record {
        k = K i;
        is = ap (λ (x : ℕ). F i -ℤ pos D *ℤ pos x) (residues_at t n P i p) ∙ turned_back q t (F i) (P i) (pos (residue t (P i))) (K i) ht (whole i);
      };
    } in
    let within_k : IsWithin n w K =
    λ i p. omega (
      arith,
      abs_negative (residue_congruent t (P i) ht).k,
      few_turns t w (residue t (P i)) (P i) (residue_congruent t (P i) ht).k (residue_below t (P i) ht) (few i p) (residue_congruent t (P i) ht).is,
    ) in
    record {
      noise =
          size_within (v + r * w) all (plus Z R) (difference_poly q n (phase q n s c) (ring_multiple q n D m) h)
          (agree_chain at_all (agree_chain parts (agree_sum at (agree_self q n R))))
          (within_sum n v (r * w) Z R within (within_negative n (r * w) (times (pos r) K) (within_times n r w K within_k)));
    }
