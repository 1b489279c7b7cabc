-- Two primes: from a residue modulo each to a whole number, and that no other small number has both.
use Rattle.std.proofs.Common.{List, [], ◌∷◌, ◌++◌, get_or, ◌≡◌, ℕ, ◌+◌, ◌-◌, ◌*◌, ◌%◌, ◌≤◌, ◌<◌, sym, ap, ◌∙◌, inl, inr, arith}
use Rattle.std.specs.Prelude.{ℤ, pos, ◌+ℤ◌, ◌-ℤ◌, ◌*ℤ◌, neg_ℤ, unsigned_abs, nat_lt}
use Rattle.std.proofs.lemmas.Bool.{cases_lt, cond-true, cond-false, lt-ltb, le-ltb}
use Rattle.std.proofs.lemmas.Int.{unsigned_abs-mul}
use Rattle.std.proofs.lemmas.Nat.{mul-le}
use Rattle.std.proofs.lemmas.List.{length-append, get_or_append_left, get_or-append_right}
use Rattle.ring_spec.specs.Ring.{residue, centre}
use Rattle.ring_laws.specs.Congruence.{IsCongruent}
use Rattle.ring_laws.proofs.Integers.{sums, times_sum, times_times, times_commutes, times_negative, one_times}
use Rattle.ring_laws.proofs.Congruences.{residue_same}
use Rattle.ring_laws.proofs.Sizes.{centre_congruent}
use Rattle.int_tensor.specs.Moduli.{first_modulus, second_modulus, both_moduli}
use Rattle.int_tensor.specs.Joined.{IsJoined, AreJoined}
use borrow.Author.Differences.{ints}

-- ---- no two small numbers have the same residues

-- where p*k is a multiple of r, and p has the inverse u modulo r, k is a multiple of r
common_multiple : (p r u m : ℕ) (k j : ℤ) → p * u ≡ 1 + r * m → pos p *ℤ k ≡ pos r *ℤ j → k ≡ pos r *ℤ (pos u *ℤ j -ℤ pos m *ℤ k)
common_multiple p r u m k j inverse e =
    let a : pos u *ℤ (pos p *ℤ k) ≡ k +ℤ pos r *ℤ (pos m *ℤ k) =
    sym (times_times (pos u) (pos p) k) ∙ ap (λ (x : ℕ). pos x *ℤ k) (omega (arith, inverse))
    ∙ (times_commutes (pos (1 + r * m)) k ∙ times_sum k (pos 1) (pos (r * m)) ∙ ap (λ (x : ℤ). x +ℤ k *ℤ pos (r * m)) (times_commutes k (pos 1) ∙ one_times k)
    ∙ ap (λ (x : ℤ). k +ℤ x) (times_commutes k (pos (r * m)) ∙ times_times (pos r) (pos m) k)) in
    let b : pos u *ℤ (pos r *ℤ j) ≡ pos r *ℤ (pos u *ℤ j) =
    sym (times_times (pos u) (pos r) j) ∙ ap (λ (x : ℤ). x *ℤ j) (times_commutes (pos u) (pos r)) ∙ times_times (pos r) (pos u) j in
    let c : pos r *ℤ (pos u *ℤ j -ℤ pos m *ℤ k) ≡ pos r *ℤ (pos u *ℤ j) -ℤ pos r *ℤ (pos m *ℤ k) =
    times_sum (pos r) (pos u *ℤ j) (neg_ℤ (pos m *ℤ k)) ∙ ap (λ (x : ℤ). pos r *ℤ (pos u *ℤ j) +ℤ x) (times_negative (pos r) (pos m *ℤ k)) in
    omega (arith, sums, a, b, c, ap (λ (x : ℤ). pos u *ℤ x) e)

-- two small numbers that agree modulo both are equal
pub only_one : (p r u m : ℕ) (z w : ℤ) → p * u ≡ 1 + r * m → IsCongruent p z w → IsCongruent r z w → 2 * unsigned_abs z < p * r → 2 * unsigned_abs w < p * r → z ≡ w
only_one p r u m z w inverse a b small small' =
    let k = a.k in let j = b.k in
    let i = pos u *ℤ j -ℤ pos m *ℤ k in
    let e : k ≡ pos r *ℤ i = common_multiple p r u m k j inverse (omega (arith, sums, a.is, b.is)) in
    let f : z -ℤ w ≡ pos (p * r) *ℤ i = omega (arith, sums, a.is, ap (λ (x : ℤ). pos p *ℤ x) e, times_times (pos p) (pos r) i) in
    let g : p * r * unsigned_abs i < p * r = omega (arith, ints, f, unsigned_abs-mul (pos (p * r)) i, small, small') in
    let none : unsigned_abs i < 1 = elim (cases_lt (unsigned_abs i) 1) [
      | inl l ↦ l
      | inr l ↦ absurd (let more : p * r * 1 ≤ p * r * unsigned_abs i = mul-le (p * r) 1 (p * r) (unsigned_abs i) (omega arith) l in omega (arith, more, g))
    ] in
    let gone : p * r * unsigned_abs i ≡ 0 = ap (λ (x : ℕ). p * r * x) (let o : unsigned_abs i ≡ 0 = omega (arith, none) in o) ∙ omega arith in
    omega (arith, ints, f, unsigned_abs-mul (pos (p * r)) i, gone)

-- ---- the number that is joined

-- the centre modulo p*r is as a number modulo p
centre_congruent_first : (p r x : ℕ) → IsCongruent p (centre (p * r) x) (pos x)
centre_congruent_first p r x =
    let c = centre_congruent (p * r) x in
    record { k = pos r *ℤ c.k; is = c.is ∙ ap (λ (z : ℤ). pos x +ℤ z) (times_times (pos p) (pos r) c.k) }

-- so its residues are those of x
centre_residue : (p r x : ℕ) → 0 < p → residue p (centre (p * r) x) ≡ x % p
unfolding residue
centre_residue p r x h = residue_same p (centre (p * r) x) (pos x) h (centre_congruent_first p r x)

-- and it is small
centre_small : (x : ℕ) → x < both_moduli → 2 * unsigned_abs (centre both_moduli x) < both_moduli
unfolding centre
centre_small x h = elim (cases_lt (2 * x) both_moduli) [
  | inl l ↦ rw (cond-true (nat_lt (2 * x) both_moduli) (pos x) (pos x -ℤ pos both_moduli) (lt-ltb (2 * x) both_moduli l)) l
  | inr l ↦ rw (cond-false (nat_lt (2 * x) both_moduli) (pos x) (pos x -ℤ pos both_moduli) (le-ltb (2 * x) both_moduli l)) (omega (arith, ints))
]

-- the centre of a number below the product has its residues
pub is_joined : (a b x : ℕ) (z : ℤ) → x < both_moduli → x % first_modulus ≡ a → x % second_modulus ≡ b → z ≡ centre both_moduli x → IsJoined a b z
is_joined a b x z h first second is = record {
  first = ap (residue first_modulus) is ∙ centre_residue first_modulus second_modulus x (omega arith) ∙ first;
  second = ap (residue second_modulus) is ∙ centre_residue second_modulus first_modulus x (omega arith) ∙ second;
  small = rw is (centre_small x h);
}

-- ---- lists

-- one entry more
pub joined_next : (n : ℕ) (f g : List ℕ) (zs : List ℤ) (z : ℤ) → IsJoined (get_or f n 0) (get_or g n 0) z → AreJoined n f g zs → AreJoined (n + 1) f g (zs ++ z ∷ [])
joined_next n f g zs z here before = record {
  count = length-append zs (z ∷ []) ∙ (omega (arith, before.count));
  each = λ k l. elim (cases_lt k n) [
    | inl below ↦ rw (get_or_append_left zs (z ∷ []) (pos 0) k (omega (arith, before.count))) (before.each k below)
    | inr above ↦
        let e : k ≡ n = omega arith in
        rw (e, get_or-append_right zs (z ∷ []) n n (pos 0) before.count (omega arith), (let o : n - n ≡ 0 = omega arith in o)) here
  ];
}
