-- The members of a set as points.
use Rattle.std.proofs.Common.{◌≡◌, ℕ, zero, suc, ◌+◌, ◌%◌, ◌≤◌, ◌<◌, List, [], ◌∷◌, true, refl, sym, ap, ◌∙◌, inl, inr, arith}
use Rattle.std.specs.Prelude.{Bool, not, nat_eq, filter, All, ℤ, pos, ◌*ℤ◌}
use Rattle.std.specs.List.{range_with_len}
use Rattle.std.proofs.lemmas.Bool.{cases_Bool, cond-true, cond-false, not_from_true, not_from_false}
use Rattle.std.proofs.lemmas.List.Elements.{filter_passes}
use Rattle.ring_spec.specs.Ring.{residue}
use Rattle.ring_laws.specs.Congruence.{IsCongruent}
use Rattle.ring_laws.proofs.Integers.{one_times}
use Rattle.ring_laws.proofs.Congruences.{congruent_equal, congruent_chain, residue_congruent}
use Rattle.share_spec.specs.Sets.{has, members_to, members}
use Rattle.share_spec.specs.Lagrange.{ratio, product_over, other_than, lagrange}
use Rattle.share_laws.proofs.Interpolation.{Apart, Distinct, weight, lambda}

-- ---- they are distinct, and up to 32

apart_above : (p : ℕ → Bool) (n a x : ℕ) → x < a → a + n ≤ 33 → x ≤ 32 → Apart x (filter p (range_with_len a n))
apart_above p zero a x l m s = tt
apart_above p (suc n) a x l m s =
    let rest = apart_above p n (a + 1) x (omega arith) (omega arith) s in
    elim (cases_Bool (p a)) [
      | inl passes ↦ rw (cond-true (p a) (a ∷ filter p (range_with_len (a + 1) n)) (filter p (range_with_len (a + 1) n)) passes)
          ((λ (e : x ≡ a). omega arith), s, (omega arith), rest)
      | inr fails ↦ rw (cond-false (p a) (a ∷ filter p (range_with_len (a + 1) n)) (filter p (range_with_len (a + 1) n)) fails) rest
    ]

distinct_from : (p : ℕ → Bool) (n a : ℕ) → a + n ≤ 33 → Distinct (filter p (range_with_len a n))
distinct_from p zero a m = tt
distinct_from p (suc n) a m =
    let rest = distinct_from p n (a + 1) (omega arith) in
    elim (cases_Bool (p a)) [
      | inl passes ↦ rw (cond-true (p a) (a ∷ filter p (range_with_len (a + 1) n)) (filter p (range_with_len (a + 1) n)) passes)
          (apart_above p n (a + 1) a (omega arith) (omega arith) (omega arith), rest)
      | inr fails ↦ rw (cond-false (p a) (a ∷ filter p (range_with_len (a + 1) n)) (filter p (range_with_len (a + 1) n)) fails) rest
    ]

pub members_distinct : (set : ℕ) → Distinct (members set)
unfolding members members_to
members_distinct set = distinct_from (has set) 32 1 (omega arith)

-- each member is in the set
pub members_in : (set : ℕ) → All (λ p. has set p ≡ true) (members set)
unfolding members members_to
members_in set = filter_passes (has set) (range_with_len 1 32)

-- ---- their Lagrange coefficients

-- a product over the points other than j is one over all points, where j itself gives 1
product_is : (q j : ℕ) (is : List ℕ) → pos (product_over (ratio q j) (filter (other_than j) is)) ≡ lambda (λ x i. pos (ratio q x i)) is j
unfolding product_over lambda weight
product_is q j [] = refl
product_is q j (i ∷ is) = elim (cases_Bool (nat_eq i j)) [
  | inl passes ↦
      rw (cond-false (not (nat_eq i j)) (i ∷ filter (other_than j) is) (filter (other_than j) is) (not_from_true (nat_eq i j) passes), cond-true (nat_eq i j) (pos 1) (pos (ratio q j i)) passes)
      (product_is q j is ∙ sym (one_times (lambda (λ x i. pos (ratio q x i)) is j)))
  | inr fails ↦
      rw (cond-true (not (nat_eq i j)) (i ∷ filter (other_than j) is) (filter (other_than j) is) (not_from_false (nat_eq i j) fails), cond-false (nat_eq i j) (pos 1) (pos (ratio q j i)) fails)
      (ap (λ (z : ℤ). pos (ratio q j i) *ℤ z) (product_is q j is))
]

pub lagrange_is : (q set j : ℕ) → 0 < q → has set j ≡ true → IsCongruent q (pos (lagrange q set j)) (lambda (λ x i. pos (ratio q x i)) (members set) j)
unfolding lagrange residue
lagrange_is q set j h m =
    let x = product_over (ratio q j) (filter (other_than j) (members set)) in
    congruent_chain (congruent_equal q (pos (lagrange q set j)) (pos (residue q (pos x))) (ap pos (cond-true (has set j) (x % q) 0 m)))
    (congruent_chain (residue_congruent q (pos x) h) (congruent_equal q (pos x) (lambda (λ x i. pos (ratio q x i)) (members set) j) (product_is q j (members set))))
