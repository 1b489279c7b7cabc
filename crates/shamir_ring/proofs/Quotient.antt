-- The Lagrange coefficient of a party, one member of the set after the other.
use Rattle.std.proofs.Common.{◌≡◌, ◌≢◌, ℕ, ◌+◌, ◌-◌, ◌*◌, ◌/◌, ◌%◌, ◌^◌, ◌<◌, ◌≤◌, List, [], ◌∷◌, ◌++◌, cond, true, false, refl, sym, ap, ◌∙◌, arith}
use Rattle.std.specs.Prelude.{Bool, IsTrue, nat_eq, nat_le, ◌&&◌, filter, pos, ◌-ℤ◌, ◌*ℤ◌}
use Rattle.std.specs.Int.{IsGcd}
use Rattle.std.proofs.lemmas.Bool.{and_parts, leb-true, cond-true, cond-false, eq-eqb, ne_eqb, cond_both, not_from_true, not_from_false}
use Rattle.std.proofs.lemmas.List.{append-nil}
use Rattle.std.proofs.lemmas.List.Elements.{filter-append}
use Rattle.std.proofs.lemmas.Nat.{mul-mod_first}
use Rattle.std.proofs.Math.Nat.{dvd-sub, dvd-mul_left_of_dvd, one-dvd, mod-eq_of_lt}
use Rattle.ring_spec.specs.Ring.{residue}
use Rattle.ring_laws.specs.Congruence.{IsCongruent}
use Rattle.ring_laws.proofs.Congruences.{congruent_chain, congruent_times, congruent_product, congruent_self, congruent_equal, residue_congruent}
use Rattle.param_set.specs.Moduli.{indivisible}
use Rattle.share_spec.specs.Sets.{has, members_to, members}
use Rattle.share_spec.specs.Lagrange.{ratio, quotient, product_over, other_than, lagrange}
use Rattle.share_laws.proofs.Quotients.{IsUnit, difference_unit, quotient_is, quotient_unique, same_rest, rest_same}
use Rattle.proto_names.proofs.Members.{members_more, members_none, members_all}

-- ---- one ratio

-- the difference of two points can be divided by
pub residue_unit : (q i j : ℕ) → 0 < q → IsTrue (indivisible q 31) → i ≢ j → i ≤ 32 → j ≤ 32 → IsUnit q (pos (residue q (pos i -ℤ pos j)))
residue_unit q i j h n ne li lj =
    let w = difference_unit q i j n ne li lj in
    record { u = w.u; is = congruent_chain (congruent_times w.u (residue_congruent q (pos i -ℤ pos j) h)) w.is }

-- a number that can be divided by has no common divisor with q
pub unit_apart : (q x : ℕ) → 1 < q → IsUnit q (pos x) → IsGcd x q 1
unfolding residue
unit_apart q x h w =
    let v = residue q w.u in
    let one : v * x % q ≡ 1 = rest_same q (v * x) 1 (omega arith) (congruent_chain (congruent_product (residue_congruent q w.u (omega arith)) (congruent_self q (pos x))) w.is) ∙ mod-eq_of_lt h in
    let k = v * x / q in
    let whole : v * x - k * q ≡ 1 = omega arith in
    (one-dvd x, one-dvd q, (λ d a b. rw (← whole) (dvd-sub d (dvd-mul_left_of_dvd d a v) (dvd-mul_left_of_dvd d b k))))

-- i times the inverse of i - j is i/(i - j)
pub ratio_by_inverse : (q i j b y r : ℕ) → 1 < q → IsTrue (indivisible q 31) → i ≢ j → i ≤ 32 → j ≤ 32 →
    b ≡ residue q (pos i -ℤ pos j) → b * y % q ≡ 1 → r ≡ i * y % q → r ≡ ratio q j i
unfolding ratio residue
ratio_by_inverse q i j b y r h n ne li lj eb ey er =
    let d = residue q (pos i -ℤ pos j) in
    let w = residue_unit q i j (omega arith) n ne li lj in
    let inverse : IsCongruent q (pos (d * y)) (pos 1) = same_rest q (d * y) 1 (omega arith) ((ap (λ (z : ℕ). z * y % q) (sym eb)) ∙ ey ∙ sym (mod-eq_of_lt h)) in
    let whole : IsCongruent q (pos r) (pos (i * y)) = congruent_chain (congruent_equal q (pos r) (pos (residue q (pos (i * y)))) (ap pos er)) (residue_congruent q (pos (i * y)) (omega arith)) in
    quotient_unique q i d r (quotient q i d) w
    (record {
      below = omega arith;
      is = congruent_chain (congruent_product whole (congruent_self q (pos d)))
          (congruent_chain (congruent_equal q (pos (i * y) *ℤ pos d) (pos i *ℤ pos (d * y)) (ap pos (omega arith)))
          (congruent_chain (congruent_times (pos i) inverse) (congruent_equal q (pos i *ℤ pos 1) (pos i) (ap pos (omega arith)))));
    })
    (quotient_is q i d (omega arith) w)

-- ---- the product

product_append : (f : ℕ → ℕ) (xs : List ℕ) (y : ℕ) → product_over f (xs ++ y ∷ []) ≡ product_over f xs * f y
unfolding product_over
product_append f [] y = omega arith
product_append f (x ∷ xs) y = ap (λ (z : ℕ). f x * z) (product_append f xs y) ∙ omega arith

-- the product over the members up to n other than j, modulo q
pub so_far : ℕ → ℕ → ℕ → ℕ → ℕ
so_far q set j n = product_over (ratio q j) (filter (other_than j) (members_to n set)) % q

pub so_far-start : (q set j : ℕ) → 1 < q → 1 ≡ so_far q set j 0
unfolding so_far product_over
so_far-start q set j h = sym (ap (λ (xs : List ℕ). product_over (ratio q j) (filter (other_than j) xs) % q) (members_none set) ∙ mod-eq_of_lt h)

more_list : (set j n : ℕ) → filter (other_than j) (members_to (n + 1) set) ≡ filter (other_than j) (members_to n set) ++ filter (other_than j) (cond (has set (n + 1)) ((n + 1) ∷ []) [])
more_list set j n = ap (filter (other_than j)) (members_more set n) ∙ filter-append (other_than j) (members_to n set) (cond (has set (n + 1)) ((n + 1) ∷ []) [])

-- one more member that is another than j
pub so_far-takes : (q set j n was r now : ℕ) → was ≡ so_far q set j n → has set (n + 1) ≡ true → (n + 1 ≡ j → ⊥) → r ≡ ratio q j (n + 1) → now ≡ was * r % q → now ≡ so_far q set j (n + 1)
unfolding so_far
so_far-takes q set j n was r now e m ne er en =
    let x = product_over (ratio q j) (filter (other_than j) (members_to n set)) in
    let list : filter (other_than j) (cond (has set (n + 1)) ((n + 1) ∷ []) []) ≡ (n + 1) ∷ [] =
    rw m (cond-true (other_than j (n + 1)) ((n + 1) ∷ []) [] (not_from_false (nat_eq (n + 1) j) (ne_eqb (n + 1) j ne))) in
    en ∙ ap (λ (z : ℕ). z * r % q) e ∙ mul-mod_first x r q ∙ ap (λ (z : ℕ). x * z % q) er
    ∙ sym (ap (λ (xs : List ℕ). product_over (ratio q j) xs % q) (more_list set j n ∙ ap (λ (xs : List ℕ). filter (other_than j) (members_to n set) ++ xs) list)
    ∙ ap (λ (z : ℕ). z % q) (product_append (ratio q j) (filter (other_than j) (members_to n set)) (n + 1)))

-- no member, or j itself
pub so_far-leaves : (q set j n was : ℕ) → was ≡ so_far q set j n → (has set (n + 1) ≡ true → n + 1 ≡ j) → was ≡ so_far q set j (n + 1)
unfolding so_far
so_far-leaves q set j n was e h =
    let none : filter (other_than j) (cond (has set (n + 1)) ((n + 1) ∷ []) []) ≡ [] =
    cond_both (has set (n + 1)) ((n + 1) ∷ []) [] (λ (xs : List ℕ). filter (other_than j) xs ≡ [])
    (λ m. cond-false (other_than j (n + 1)) ((n + 1) ∷ []) [] (not_from_true (nat_eq (n + 1) j) (eq-eqb (n + 1) j (h m)))) (λ m. refl) in
    e ∙ sym (ap (λ (xs : List ℕ). product_over (ratio q j) xs % q) (more_list set j n ∙ ap (λ (xs : List ℕ). filter (other_than j) (members_to n set) ++ xs) none ∙ append-nil (filter (other_than j) (members_to n set))))

-- the whole product
pub so_far-end : (q set j n was : ℕ) → was ≡ so_far q set j n → n ≡ 32 → has set j ≡ true → was ≡ lagrange q set j
unfolding so_far lagrange
so_far-end q set j n was e l m =
    let x = product_over (ratio q j) (filter (other_than j) (members set)) in
    e ∙ ap (λ (k : ℕ). product_over (ratio q j) (filter (other_than j) (members_to k set)) % q) l
    ∙ ap (λ (xs : List ℕ). product_over (ratio q j) (filter (other_than j) xs) % q) (sym (members_all set)) ∙ sym (cond-true (has set j) (x % q) 0 m)

-- a member is one of 32
pub member_small : (set j : ℕ) (r : Bool) → r ≡ has set j → r ≡ true → j ≤ 32
unfolding has
member_small set j r e t =
    let all = and_parts (nat_le 1 j && nat_le j 32) (nat_eq (set / 2 ^ (j - 1) % 2) 1) (sym e ∙ t) in
    leb-true j 32 (and_parts (nat_le 1 j) (nat_le j 32) all.0).1

-- no member
pub no_member : (q set j : ℕ) → has set j ≡ false → 0 ≡ lagrange q set j
unfolding lagrange
no_member q set j m = sym (cond-false (has set j) (product_over (ratio q j) (filter (other_than j) (members set)) % q) 0 m)

-- for the tactics
pub ruleset one_by_one = (so_far-start, so_far-end, no_member)
