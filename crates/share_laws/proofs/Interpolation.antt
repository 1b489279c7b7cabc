-- Interpolation at 0 modulo q, over a list of points whose differences can be divided by: the sum of
-- lambda_j * g(j) is g(0), where g is a polynomial with at most as many coefficients as there are
-- points.
use Rattle.std.proofs.Common.{◌≡◌, ◌≢◌, ℕ, ◌≤◌, List, [], ◌∷◌, length, cond, refl, sym, ap, ◌∙◌, arith}
use Rattle.std.specs.Prelude.{ℤ, pos, ◌+ℤ◌, ◌-ℤ◌, ◌*ℤ◌, nat_eq}
use Rattle.std.proofs.lemmas.Bool.{cond-true, cond-false, eq-eqb, ne_eqb}
use Rattle.ring_laws.specs.Congruence.{IsCongruent}
use Rattle.ring_laws.proofs.Integers.{sums, times_sum, sum_times, times_times, times_commutes, times_zero, zero_times, one_times}
use Rattle.ring_laws.proofs.Congruences.{congruent_equal, congruent_self, congruent_back, congruent_chain, congruent_sum, congruent_difference, congruent_times, congruent_product}
use Rattle.share_laws.proofs.Over.{over, over_same, over_sum, over_times, over_zero}

-- i/(i - j) modulo q, and that there is 1/(i - j), for different points up to 32
pub record Divides (q : ℕ) (r : ℕ → ℕ → ℤ) : Type 0 where
  pub by : (i j : ℕ) → i ≢ j → i ≤ 32 → j ≤ 32 → IsCongruent q (r j i *ℤ (pos i -ℤ pos j)) (pos i)
  pub unit : (i j : ℕ) → i ≢ j → i ≤ 32 → j ≤ 32 → (u : ℤ) × IsCongruent q (u *ℤ (pos i -ℤ pos j)) (pos 1)

-- each of some points is another than a, and they are all up to 32
abbrev pub Apart : ℕ → List ℕ → Type 0
Apart a [] = Unit {0}
Apart a (j ∷ js) = (a ≢ j) × (a ≤ 32) × (j ≤ 32) × Apart a js

-- no point stands twice
abbrev pub Distinct : List ℕ → Type 0
Distinct [] = Unit {0}
Distinct (a ∷ js) = Apart a js × Distinct js

-- what point i gives to lambda_j
unfoldable pub weight : (ℕ → ℕ → ℤ) → ℕ → ℕ → ℤ
weight r j i = cond (nat_eq i j) (pos 1) (r j i)

-- lambda_j over a list of points
unfoldable pub lambda : (ℕ → ℕ → ℤ) → List ℕ → ℕ → ℤ
lambda r [] j = pos 1
lambda r (i ∷ is) j = weight r j i *ℤ lambda r is j

-- the sum of lambda_j * g(j) over the points
abbrev pub mixed : (ℕ → ℕ → ℤ) → List ℕ → (ℕ → ℤ) → ℤ
mixed r is g = over (λ j. lambda r is j *ℤ g j) is

-- ---- one point apart

weight_same : (r : ℕ → ℕ → ℤ) (i : ℕ) → weight r i i ≡ pos 1
unfolding weight
weight_same r i = cond-true (nat_eq i i) (pos 1) (r i i) (eq-eqb i i refl)

weight_other : (r : ℕ → ℕ → ℤ) (j i : ℕ) → i ≢ j → weight r j i ≡ r j i
unfolding weight
weight_other r j i h = cond-false (nat_eq i j) (pos 1) (r j i) (ne_eqb i j h)

-- (w * l) * (d * x) is (w * d) * (l * x)
regroup : (w l d x : ℤ) → (w *ℤ l) *ℤ (d *ℤ x) ≡ (w *ℤ d) *ℤ (l *ℤ x)
regroup w l d x =
    times_times w l (d *ℤ x) ∙ ap (λ (z : ℤ). w *ℤ z) (sym (times_times l d x) ∙ ap (λ (z : ℤ). z *ℤ x) (times_commutes l d) ∙ times_times d l x)
    ∙ sym (times_times w d (l *ℤ x))

-- with the factor a - j, point a falls out of lambda_j
without_one : (q : ℕ) (r : ℕ → ℕ → ℤ) (a j : ℕ) (js : List ℕ) (x : ℤ) → Divides q r → a ≢ j → a ≤ 32 → j ≤ 32 →
    IsCongruent q (lambda r (a ∷ js) j *ℤ ((pos a -ℤ pos j) *ℤ x)) (pos a *ℤ (lambda r js j *ℤ x))
unfolding lambda
without_one q r a j js x d ne la lj =
    congruent_chain (congruent_equal q (lambda r (a ∷ js) j *ℤ ((pos a -ℤ pos j) *ℤ x)) ((r j a *ℤ (pos a -ℤ pos j)) *ℤ (lambda r js j *ℤ x))
    (ap (λ (w : ℤ). (w *ℤ lambda r js j) *ℤ ((pos a -ℤ pos j) *ℤ x)) (weight_other r j a ne) ∙ regroup (r j a) (lambda r js j) (pos a -ℤ pos j) x))
    (congruent_product (d.by a j ne la lj) (congruent_self q (lambda r js j *ℤ x)))

-- the same for all points that are apart from a
without_all : (q : ℕ) (r : ℕ → ℕ → ℤ) (a : ℕ) (is js : List ℕ) (g : ℕ → ℤ) → Divides q r → Apart a js →
    IsCongruent q (over (λ j. lambda r (a ∷ is) j *ℤ ((pos a -ℤ pos j) *ℤ g j)) js) (pos a *ℤ over (λ j. lambda r is j *ℤ g j) js)
without_all q r a is [] g d h = congruent_equal q (pos 0) (pos a *ℤ pos 0) (sym (times_zero (pos a)))
without_all q r a is (j ∷ js) g d h =
    congruent_chain (congruent_sum (without_one q r a j is (g j) d h.0 h.1 h.2) (without_all q r a is js g d h.3))
    (congruent_equal q (pos a *ℤ (lambda r is j *ℤ g j) +ℤ pos a *ℤ over (λ j. lambda r is j *ℤ g j) js) (pos a *ℤ over (λ j. lambda r is j *ℤ g j) (j ∷ js))
    (sym (times_sum (pos a) (lambda r is j *ℤ g j) (over (λ j. lambda r is j *ℤ g j) js))))

-- and for a list that begins with a, whose own term is 0
without : (q : ℕ) (r : ℕ → ℕ → ℤ) (a : ℕ) (js : List ℕ) (g : ℕ → ℤ) → Divides q r → Apart a js →
    IsCongruent q (mixed r (a ∷ js) (λ j. (pos a -ℤ pos j) *ℤ g j)) (pos a *ℤ mixed r js g)
without q r a js g d h =
    let none : lambda r (a ∷ js) a *ℤ ((pos a -ℤ pos a) *ℤ g a) ≡ pos 0 =
    ap (λ (z : ℤ). lambda r (a ∷ js) a *ℤ (z *ℤ g a)) (let e : pos a -ℤ pos a ≡ pos 0 = omega (arith, sums) in e)
    ∙ ap (λ (z : ℤ). lambda r (a ∷ js) a *ℤ z) (zero_times (g a)) ∙ times_zero (lambda r (a ∷ js) a) in
    congruent_chain (congruent_sum (congruent_equal q (lambda r (a ∷ js) a *ℤ ((pos a -ℤ pos a) *ℤ g a)) (pos 0) none) (without_all q r a js js g d h))
    (congruent_equal q (pos 0 +ℤ pos a *ℤ mixed r js g) (pos a *ℤ mixed r js g) (omega (arith, sums)))

-- ---- the order of two points is free

lambda_turned : (r : ℕ → ℕ → ℤ) (a b : ℕ) (js : List ℕ) (j : ℕ) → lambda r (a ∷ b ∷ js) j ≡ lambda r (b ∷ a ∷ js) j
unfolding lambda
lambda_turned r a b js j =
    sym (times_times (weight r j a) (weight r j b) (lambda r js j)) ∙ ap (λ (z : ℤ). z *ℤ lambda r js j) (times_commutes (weight r j a) (weight r j b))
    ∙ times_times (weight r j b) (weight r j a) (lambda r js j)

mixed_turned : (r : ℕ → ℕ → ℤ) (a b : ℕ) (js : List ℕ) (g : ℕ → ℤ) → mixed r (a ∷ b ∷ js) g ≡ mixed r (b ∷ a ∷ js) g
mixed_turned r a b js g =
    over_same (λ j. lambda r (a ∷ b ∷ js) j *ℤ g j) (λ j. lambda r (b ∷ a ∷ js) j *ℤ g j) (a ∷ b ∷ js) (λ j. ap (λ (z : ℤ). z *ℤ g j) (lambda_turned r a b js j))
    ∙ omega (arith, sums)

-- ---- the lambdas sum to 1

abbrev one : ℕ → ℤ
one j = pos 1

-- sums of lambdas, by the difference of the first two points
differences : (r : ℕ → ℕ → ℤ) (a b : ℕ) (is : List ℕ) → mixed r is (λ j. (pos b -ℤ pos j) *ℤ pos 1) ≡ mixed r is (λ j. (pos a -ℤ pos j) *ℤ pos 1) +ℤ (pos b -ℤ pos a) *ℤ mixed r is one
differences r a b is =
    over_same (λ j. lambda r is j *ℤ ((pos b -ℤ pos j) *ℤ pos 1)) (λ j. lambda r is j *ℤ ((pos a -ℤ pos j) *ℤ pos 1) +ℤ (pos b -ℤ pos a) *ℤ (lambda r is j *ℤ pos 1)) is
    (λ j. ap (λ (z : ℤ). lambda r is j *ℤ z)
    (let e : (pos b -ℤ pos j) *ℤ pos 1 ≡ (pos a -ℤ pos j) *ℤ pos 1 +ℤ (pos b -ℤ pos a) *ℤ pos 1 =
    ap (λ (z : ℤ). z *ℤ pos 1) (let e' : pos b -ℤ pos j ≡ (pos a -ℤ pos j) +ℤ (pos b -ℤ pos a) = omega (arith, sums) in e') ∙ sum_times (pos a -ℤ pos j) (pos b -ℤ pos a) (pos 1) in e)
    ∙ times_sum (lambda r is j) ((pos a -ℤ pos j) *ℤ pos 1) ((pos b -ℤ pos a) *ℤ pos 1)
    ∙ ap (λ (z : ℤ). lambda r is j *ℤ ((pos a -ℤ pos j) *ℤ pos 1) +ℤ z)
    (sym (times_times (lambda r is j) (pos b -ℤ pos a) (pos 1)) ∙ ap (λ (z : ℤ). z *ℤ pos 1) (times_commutes (lambda r is j) (pos b -ℤ pos a)) ∙ times_times (pos b -ℤ pos a) (lambda r is j) (pos 1)))
    ∙ over_sum (λ j. lambda r is j *ℤ ((pos a -ℤ pos j) *ℤ pos 1)) (λ j. (pos b -ℤ pos a) *ℤ (lambda r is j *ℤ pos 1)) is
    ∙ ap (λ (z : ℤ). mixed r is (λ j. (pos a -ℤ pos j) *ℤ pos 1) +ℤ z) (over_times (pos b -ℤ pos a) (λ j. lambda r is j *ℤ pos 1) is)

-- what is d times s and d is s = 1, where d can be divided by
divided : (q : ℕ) (u d s : ℤ) → IsCongruent q (u *ℤ d) (pos 1) → IsCongruent q (d *ℤ s) d → IsCongruent q s (pos 1)
divided q u d s one_ same =
    congruent_chain (congruent_equal q s (pos 1 *ℤ s) (sym (one_times s)))
    (congruent_chain (congruent_product (congruent_back one_) (congruent_self q s))
    (congruent_chain (congruent_equal q ((u *ℤ d) *ℤ s) (u *ℤ (d *ℤ s)) (times_times u d s))
    (congruent_chain (congruent_times u same) one_)))

pub lambdas_sum : (q : ℕ) (r : ℕ → ℕ → ℤ) (js : List ℕ) (a : ℕ) → Divides q r → Distinct (a ∷ js) → IsCongruent q (mixed r (a ∷ js) one) (pos 1)
unfolding lambda
lambdas_sum q r [] a d h =
    congruent_equal q (mixed r (a ∷ []) one) (pos 1) (ap (λ (w : ℤ). (w *ℤ pos 1) *ℤ pos 1 +ℤ pos 0) (weight_same r a))
lambdas_sum q r (b ∷ js) a d h =
    let ab = h.0 in
    let u = d.unit b a (λ e. ab.0 (sym e)) ab.2 ab.1 in
    let first : IsCongruent q (mixed r (a ∷ b ∷ js) (λ j. (pos a -ℤ pos j) *ℤ pos 1)) (pos a) =
    congruent_chain (without q r a (b ∷ js) one d ab) (congruent_chain (congruent_times (pos a) (lambdas_sum q r js b d h.1))
    (congruent_equal q (pos a *ℤ pos 1) (pos a) (times_commutes (pos a) (pos 1) ∙ one_times (pos a)))) in
    let second : IsCongruent q (mixed r (b ∷ a ∷ js) (λ j. (pos b -ℤ pos j) *ℤ pos 1)) (pos b) =
    congruent_chain (without q r b (a ∷ js) one d ((λ e. ab.0 (sym e)), ab.2, ab.1, h.1.0)) (congruent_chain (congruent_times (pos b) (lambdas_sum q r js a d (ab.3, h.1.1)))
    (congruent_equal q (pos b *ℤ pos 1) (pos b) (times_commutes (pos b) (pos 1) ∙ one_times (pos b)))) in
    let s = mixed r (a ∷ b ∷ js) one in
    let A = mixed r (a ∷ b ∷ js) (λ j. (pos a -ℤ pos j) *ℤ pos 1) in
    let B = mixed r (a ∷ b ∷ js) (λ j. (pos b -ℤ pos j) *ℤ pos 1) in
    let turned : B ≡ mixed r (b ∷ a ∷ js) (λ j. (pos b -ℤ pos j) *ℤ pos 1) = mixed_turned r a b js (λ j. (pos b -ℤ pos j) *ℤ pos 1) in
    let apart : (pos b -ℤ pos a) *ℤ s ≡ B -ℤ A = omega (arith, sums, differences r a b (a ∷ b ∷ js)) in
    divided q u.0 (pos b -ℤ pos a) s u.1
    (congruent_chain (congruent_equal q ((pos b -ℤ pos a) *ℤ s) (B -ℤ A) apart)
    (congruent_difference (congruent_chain (congruent_equal q B (mixed r (b ∷ a ∷ js) (λ j. (pos b -ℤ pos j) *ℤ pos 1)) turned) second) first))

-- ---- interpolation

-- the polynomial c_0 + c_1 * x + ..
abbrev pub poly : List ℤ → ℕ → ℤ
poly [] x = pos 0
poly (c ∷ cs) x = c +ℤ pos x *ℤ poly cs x

-- a factor j is a less a - j
factor_out : (r : ℕ → ℕ → ℤ) (a : ℕ) (is : List ℕ) (g : ℕ → ℤ) → mixed r is (λ j. pos j *ℤ g j) +ℤ mixed r is (λ j. (pos a -ℤ pos j) *ℤ g j) ≡ pos a *ℤ mixed r is g
factor_out r a is g =
    sym (over_sum (λ j. lambda r is j *ℤ (pos j *ℤ g j)) (λ j. lambda r is j *ℤ ((pos a -ℤ pos j) *ℤ g j)) is)
    ∙ over_same (λ j. lambda r is j *ℤ (pos j *ℤ g j) +ℤ lambda r is j *ℤ ((pos a -ℤ pos j) *ℤ g j)) (λ j. pos a *ℤ (lambda r is j *ℤ g j)) is
    (λ j. sym (times_sum (lambda r is j) (pos j *ℤ g j) ((pos a -ℤ pos j) *ℤ g j))
    ∙ ap (λ (z : ℤ). lambda r is j *ℤ z) (sym (sum_times (pos j) (pos a -ℤ pos j) (g j)) ∙ ap (λ (z : ℤ). z *ℤ g j) (let e : pos j +ℤ (pos a -ℤ pos j) ≡ pos a = omega (arith, sums) in e))
    ∙ sym (times_times (lambda r is j) (pos a) (g j)) ∙ ap (λ (z : ℤ). z *ℤ g j) (times_commutes (lambda r is j) (pos a)) ∙ times_times (pos a) (lambda r is j) (g j))
    ∙ over_times (pos a) (λ j. lambda r is j *ℤ g j) is

-- the sum for c + x * g, by that for g
with_constant : (r : ℕ → ℕ → ℤ) (is : List ℕ) (c : ℤ) (g : ℕ → ℤ) → mixed r is (λ j. c +ℤ pos j *ℤ g j) ≡ c *ℤ mixed r is one +ℤ mixed r is (λ j. pos j *ℤ g j)
with_constant r is c g =
    over_same (λ j. lambda r is j *ℤ (c +ℤ pos j *ℤ g j)) (λ j. c *ℤ (lambda r is j *ℤ pos 1) +ℤ lambda r is j *ℤ (pos j *ℤ g j)) is
    (λ j. times_sum (lambda r is j) c (pos j *ℤ g j)
    ∙ ap (λ (z : ℤ). z +ℤ lambda r is j *ℤ (pos j *ℤ g j)) (times_commutes (lambda r is j) c ∙ ap (λ (z : ℤ). c *ℤ z) (sym (one_times (lambda r is j)) ∙ times_commutes (pos 1) (lambda r is j))))
    ∙ over_sum (λ j. c *ℤ (lambda r is j *ℤ pos 1)) (λ j. lambda r is j *ℤ (pos j *ℤ g j)) is
    ∙ ap (λ (z : ℤ). z +ℤ mixed r is (λ j. pos j *ℤ g j)) (over_times c (λ j. lambda r is j *ℤ pos 1) is)

pub interpolates : (q : ℕ) (r : ℕ → ℕ → ℤ) (cs : List ℤ) (is : List ℕ) → Divides q r → Distinct is → length cs ≤ length is → IsCongruent q (mixed r is (poly cs)) (poly cs 0)
interpolates q r [] is d h l =
    congruent_equal q (mixed r is (poly [])) (pos 0) (over_same (λ j. lambda r is j *ℤ pos 0) (λ j. pos 0) is (λ j. times_zero (lambda r is j)) ∙ over_zero is)
interpolates q r (c ∷ cs) [] d h l = absurd (omega arith)
interpolates q r (c ∷ cs) (a ∷ js) d h l =
    let g = poly cs in
    let is = a ∷ js in
    let whole : IsCongruent q (mixed r is g) (g 0) = interpolates q r cs is d h (omega arith) in
    let less : IsCongruent q (mixed r js g) (g 0) = interpolates q r cs js d h.1 (omega arith) in
    let A = mixed r is (λ j. (pos a -ℤ pos j) *ℤ g j) in
    let B = mixed r is (λ j. pos j *ℤ g j) in
    let s = mixed r is one in
    let at_a : IsCongruent q A (pos a *ℤ g 0) = congruent_chain (without q r a js g d h.0) (congruent_times (pos a) less) in
    let at_b : IsCongruent q B (pos a *ℤ g 0 -ℤ pos a *ℤ g 0) =
    congruent_chain (congruent_equal q B (pos a *ℤ mixed r is g -ℤ A) (omega (arith, sums, factor_out r a is g)))
    (congruent_difference (congruent_times (pos a) whole) at_a) in
    congruent_chain (congruent_equal q (mixed r is (poly (c ∷ cs))) (c *ℤ s +ℤ B) (with_constant r is c g))
    (congruent_chain (congruent_sum (congruent_times c (lambdas_sum q r js a d h)) at_b)
    (congruent_equal q (c *ℤ pos 1 +ℤ (pos a *ℤ g 0 -ℤ pos a *ℤ g 0)) (c +ℤ pos 0 *ℤ g 0)
    (omega (arith, sums, times_commutes c (pos 1), one_times c, zero_times (g 0)))))
