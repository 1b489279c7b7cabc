-- Division modulo q by the differences of points, where none of 2 to 32 divides q.
use Rattle.std.proofs.Common.{◌≡◌, ◌≢◌, ℕ, zero, suc, ◌+◌, ◌-◌, ◌*◌, ◌/◌, ◌%◌, ◌≤◌, ◌<◌, true, refl, sym, ap, ◌∙◌, inl, inr, arith}
use Rattle.std.specs.Prelude.{Bool, Some, IsTrue, not, nat_eq, ℤ, pos, ◌-ℤ◌, ◌*ℤ◌, neg_ℤ}
use Rattle.std.specs.Option.{unwrap_or}
use Rattle.std.specs.List.{range_with_len, find}
use Rattle.std.proofs.lemmas.Bool.{and_parts, not-true, eqb-true, eqb-false, eq-eqb, cases_Bool, cases_lt, cases_eq, cond-true, cond-false, both_ways}
use Rattle.param_set.specs.Moduli.{indivisible}
use Rattle.ring_spec.specs.Ring.{residue}
use Rattle.ring_laws.specs.Congruence.{IsCongruent}
use Rattle.ring_laws.proofs.Integers.{sums, times_times, times_commutes, times_negative, negative_times, one_times}
use Rattle.ring_laws.proofs.Congruences.{congruent_equal, congruent_self, congruent_back, congruent_chain, congruent_times, congruent_product, residue_below, residue_congruent, residue_same, same_below}
use Rattle.share_spec.specs.Lagrange.{is_quotient, quotient, ratio}
use Rattle.share_laws.proofs.Interpolation.{Divides}

-- ---- numbers that can be divided by

-- d can be divided by modulo q
pub record IsUnit (q : ℕ) (d : ℤ) : Type 0 where
  pub u : ℤ
  pub is : IsCongruent q (u *ℤ d) (pos 1)

-- none of 2 to k + 1 divides q
rest_of : (q k d : ℕ) → IsTrue (indivisible q k) → 2 ≤ d → d ≤ k + 1 → q % d ≢ 0
unfolding indivisible
rest_of q zero d h l m = absurd (omega arith)
rest_of q (suc k) d h l m =
    let both = and_parts (indivisible q k) (not (nat_eq (q % (k + 2)) 0)) h in
    elim (cases_eq d (k + 2)) [
      | inl e ↦ rw e (eqb-false (q % (k + 2)) 0 (not-true (nat_eq (q % (k + 2)) 0) both.1))
      | inr ne ↦ rest_of q k d both.0 l (omega arith)
    ]

-- each number from 1 to 32, by the rest of q at it
small_units : (q n d : ℕ) → IsTrue (indivisible q 31) → d ≤ n → 1 ≤ d → d ≤ 32 → IsUnit q (pos d)
small_units q zero d h l m s = absurd (omega arith)
small_units q (suc n) d h l m s = elim (cases_lt d 2) [
  | inl one ↦ record { u = pos 1; is = congruent_equal q (pos 1 *ℤ pos d) (pos 1) (let e : d ≡ 1 = omega arith in rw e refl) }
  | inr more ↦
      let k = q / d in let r = q % d in
      let left : r ≢ 0 = rest_of q 31 d h more (omega arith) in
      let below : r < d = omega arith in
      let whole : k * d + r ≡ q = omega arith in
      let some : 1 ≤ r = (elim (cases_eq r 0) [ inl e ↦ absurd (left e) | inr ne ↦ omega arith ]) in
      let w = small_units q n r h (omega arith) some (omega arith) in
      let turned : IsCongruent q (neg_ℤ (pos k) *ℤ pos d) (pos r) =
      record { k = neg_ℤ (pos 1); is = omega (arith, sums, negative_times (pos k) (pos d), times_negative (pos q) (pos 1), times_commutes (pos q) (pos 1), one_times (pos q)) } in
      record {
        u = w.u *ℤ neg_ℤ (pos k);
        is = congruent_chain (congruent_equal q ((w.u *ℤ neg_ℤ (pos k)) *ℤ pos d) (w.u *ℤ (neg_ℤ (pos k) *ℤ pos d)) (times_times w.u (neg_ℤ (pos k)) (pos d)))
            (congruent_chain (congruent_times w.u turned) w.is);
      }
]

-- each difference of two points
pub difference_unit : (q i j : ℕ) → IsTrue (indivisible q 31) → i ≢ j → i ≤ 32 → j ≤ 32 → IsUnit q (pos i -ℤ pos j)
difference_unit q i j h ne li lj = elim (cases_lt i j) [
  | inl below ↦
      let d = j - i in
      let w = small_units q d d h (omega arith) (omega arith) (omega arith) in
      record {
        u = neg_ℤ w.u;
        is = congruent_chain (congruent_equal q (neg_ℤ w.u *ℤ (pos i -ℤ pos j)) (w.u *ℤ pos d)
            (ap (λ (z : ℤ). neg_ℤ w.u *ℤ z) (let e : pos i -ℤ pos j ≡ neg_ℤ (pos d) = omega (arith, sums) in e) ∙ negative_times w.u (neg_ℤ (pos d))
            ∙ ap neg_ℤ (times_negative w.u (pos d)) ∙ omega (arith, sums))) w.is;
      }
  | inr above ↦
      let other : (i ≡ j → ⊥) = ne in
      let d = i - j in
      let some : 1 ≤ d = (elim (cases_eq d 0) [ inl e ↦ absurd (other (omega arith)) | inr n ↦ omega arith ]) in
      let w = small_units q d d h (omega arith) some (omega arith) in
      record {
        u = w.u;
        is = congruent_chain (congruent_equal q (w.u *ℤ (pos i -ℤ pos j)) (w.u *ℤ pos d) (ap (λ (z : ℤ). w.u *ℤ z) (let e : pos i -ℤ pos j ≡ pos d = omega (arith, sums) in e))) w.is;
      }
]

-- ---- quotients

-- where some number of a range passes a test, the first that does is one of them
first_found : (p : ℕ → Bool) (n a k : ℕ) → a ≤ k → k < a + n → p k ≡ true → (unwrap_or (find p (range_with_len a n)) 0 < a + n) × (p (unwrap_or (find p (range_with_len a n)) 0) ≡ true)
first_found p zero a k l m h = absurd (omega arith)
first_found p (suc n) a k l m h = elim (cases_Bool (p a)) [
  | inl here ↦ rw (cond-true (p a) (Some a) (find p (range_with_len (a + 1) n)) here) ((omega arith), here)
  | inr fails ↦
      let later : a + 1 ≤ k = (elim (cases_eq a k) [ inl e ↦ absurd (both_ways (p a) fails (ap p e ∙ h)) | inr ne ↦ omega arith ]) in
      let rest = first_found p n (a + 1) k later (omega arith) h in
      rw (cond-false (p a) (Some a) (find p (range_with_len (a + 1) n)) fails) ((omega arith), rest.1)
]

-- numbers with the same rest agree, and the other way round
pub same_rest : (q x y : ℕ) → 0 < q → x % q ≡ y % q → IsCongruent q (pos x) (pos y)
unfolding residue
same_rest q x y h e =
    congruent_chain (congruent_back (residue_congruent q (pos x) h))
    (congruent_chain (congruent_equal q (pos (residue q (pos x))) (pos (residue q (pos y))) (ap pos e)) (residue_congruent q (pos y) h))

pub rest_same : (q x y : ℕ) → 0 < q → IsCongruent q (pos x) (pos y) → x % q ≡ y % q
unfolding residue
rest_same q x y h c = residue_same q (pos x) (pos y) h c

-- a/b is below q, and times b it agrees with a
pub record IsQuotient (q a b y : ℕ) : Type 0 where
  pub below : y < q
  pub is : IsCongruent q (pos y *ℤ pos b) (pos a)

pub quotient_is : (q a b : ℕ) → 0 < q → IsUnit q (pos b) → IsQuotient q a b (quotient q a b)
unfolding quotient is_quotient
quotient_is q a b h w =
    let k = residue q (w.u *ℤ pos a) in
    let passes : IsCongruent q (pos k *ℤ pos b) (pos a) =
    congruent_chain (congruent_product (residue_congruent q (w.u *ℤ pos a) h) (congruent_self q (pos b)))
    (congruent_chain (congruent_equal q ((w.u *ℤ pos a) *ℤ pos b) (pos a *ℤ (w.u *ℤ pos b))
    (ap (λ (z : ℤ). z *ℤ pos b) (times_commutes w.u (pos a)) ∙ times_times (pos a) w.u (pos b)))
    (congruent_chain (congruent_times (pos a) w.is) (congruent_equal q (pos a *ℤ pos 1) (pos a) (times_commutes (pos a) (pos 1) ∙ one_times (pos a))))) in
    let found = first_found (is_quotient q a b) q 0 k (omega arith) (omega (arith, residue_below q (w.u *ℤ pos a) h))
    (eq-eqb (k * b % q) (a % q) (rest_same q (k * b) a h passes)) in
    let y = unwrap_or (find (is_quotient q a b) (range_with_len 0 q)) 0 in
    record {
      below = omega (arith, found.0);
      is = same_rest q (y * b) a h (eqb-true (y * b % q) (a % q) found.1);
    }

swapped : (q b x : ℕ) → IsCongruent q (pos b *ℤ pos x) (pos x *ℤ pos b)
swapped q b x = congruent_equal q (pos b *ℤ pos x) (pos x *ℤ pos b) (times_commutes (pos b) (pos x))

cancelled : (q x b : ℕ) (w : IsUnit q (pos b)) → IsCongruent q (w.u *ℤ (pos b *ℤ pos x)) (pos x)
cancelled q x b w =
    congruent_chain (congruent_equal q (w.u *ℤ (pos b *ℤ pos x)) ((w.u *ℤ pos b) *ℤ pos x) (sym (times_times w.u (pos b) (pos x))))
    (congruent_chain (congruent_product w.is (congruent_self q (pos x))) (congruent_equal q (pos 1 *ℤ pos x) (pos x) (one_times (pos x))))

-- it is the only one
pub quotient_unique : (q a b x y : ℕ) → IsUnit q (pos b) → IsQuotient q a b x → IsQuotient q a b y → x ≡ y
quotient_unique q a b x y w f g =
    let same : IsCongruent q (pos x) (pos y) = congruent_chain (congruent_back (cancelled q x b w)) (congruent_chain
    (congruent_times w.u (congruent_chain (swapped q b x) (congruent_chain f.is (congruent_chain (congruent_back g.is) (congruent_back (swapped q b y))))))
    (cancelled q y b w)) in
    same_below q x y same.k f.below g.below same.is

-- ---- ratios of points

pub ratio_is : (q i j : ℕ) → 0 < q → IsTrue (indivisible q 31) → i ≢ j → i ≤ 32 → j ≤ 32 → IsCongruent q (pos (ratio q j i) *ℤ (pos i -ℤ pos j)) (pos i)
unfolding ratio
ratio_is q i j h n ne li lj =
    let w = difference_unit q i j n ne li lj in
    let b = residue q (pos i -ℤ pos j) in
    let at_b : IsCongruent q (pos b) (pos i -ℤ pos j) = residue_congruent q (pos i -ℤ pos j) h in
    let v : IsUnit q (pos b) = record { u = w.u; is = congruent_chain (congruent_times w.u at_b) w.is } in
    congruent_chain (congruent_times (pos (quotient q i b)) (congruent_back at_b)) (quotient_is q i b h v).is

-- the ratios of the points serve for interpolation
pub ratios_divide : (q : ℕ) → 0 < q → IsTrue (indivisible q 31) → Divides q (λ j i. pos (ratio q j i))
ratios_divide q h n = record {
  by = λ i j ne li lj. ratio_is q i j h n ne li lj;
  unit = λ i j ne li lj. let w = difference_unit q i j n ne li lj in (w.u, w.is);
}
