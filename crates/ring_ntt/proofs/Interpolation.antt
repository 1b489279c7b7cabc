-- The polynomial with given values is what the way back leaves.
use Rattle.std.proofs.Common.{◌≡◌, ℕ, zero, suc, ◌+◌, ◌-◌, ◌*◌, ◌%◌, ◌^◌, ◌<◌, ◌≤◌, List, get_or, take, drop, inl, inr, refl, sym, ◌∙◌, ap, arith}
use Rattle.std.proofs.Math.Nat.{pow-zero, pow-suc, mod-mod, mod-eq_of_lt}
use Rattle.std.proofs.lemmas.Nat.{pow_pos, pow-add, mod_below, mul-pow}
use Rattle.std.proofs.lemmas.Bool.{cases_lt}
use Rattle.std.proofs.lemmas.List.{get_or-take, get_or-drop}
use Rattle.std.proofs.lemmas.List.Elements.{All-from_get_or}
use Rattle.std.proofs.lemmas.List.FromFn.{get_or-map-range_with_len, length-map-range_with_len}
use Rattle.ring_spec.specs.Ring.{IsPoly}
use Rattle.ring_ntt.specs.Transform.{sum_of, entry, bit_reversed, transform, inverse_root, inverse_length, divided, interpolated_at, inverse_transform}
use Rattle.ring_ntt.specs.Nodes.{powers, joined, undone}
use Rattle.ring_ntt.proofs.Congruence.{add_same, mul_same, pow_same}
use Rattle.ring_ntt.proofs.Sums.{sum_same, sum_equal, sum-scale, sum-split}
use Rattle.ring_ntt.proofs.Reversal.{reversed, reversed_low, reversed_high}
use Rattle.ring_ntt.proofs.Values.{IsPlaced, left_placed, right_placed, left_power, right_power, root_placed, place_below, pow-pow, one-pow, minus_squared, full_turn, negative}
use Rattle.ring_ntt.proofs.Reversal.{powers_at}
use Rattle.ring_ntt.proofs.Undone.{joined_low, joined_high}
use Rattle.ring_ntt.proofs.Inverses.{half_power}
use Rattle.ring_ntt.proofs.Laws.{IsReady, IsBack, back-undoes, back-undone}

-- the value at place r times the i-th power of the point phi^(a + s*r), r in bit-reversed order
pub back_term : ℕ → ℕ → ℕ → ℕ → List ℕ → ℕ → ℕ → ℕ
back_term d phi a s y i r = entry y r * (phi ^ (a + s * reversed d r)) ^ i

-- where all points have the same power m, that power comes out of the sum
stepped : (q m w d phi a s j : ℕ) (y : List ℕ) → ((r : ℕ) → r < m → (phi ^ (a + s * reversed d r)) ^ m % q ≡ w % q) →
    sum_of m (back_term d phi a s y (m + j)) % q ≡ (w * sum_of m (back_term d phi a s y j)) % q
unfolding back_term
stepped q m w d phi a s j y h =
    sum_same q m (back_term d phi a s y (m + j)) (λ r. w * back_term d phi a s y j r)
    (λ r l.
    let x : ℕ = phi ^ (a + s * reversed d r) in
    ap (λ z. (entry y r * z) % q) (pow-add x m j)
    ∙ ap (λ z. z % q) (let g : entry y r * (x ^ m * x ^ j) ≡ x ^ m * (entry y r * x ^ j) = omega arith in g)
    ∙ mul_same q (x ^ m) w (entry y r * x ^ j) (entry y r * x ^ j) (h r l) refl)
    ∙ ap (λ z. z % q) (sum-scale m w (back_term d phi a s y j))

lower_terms : (d phi a s i r : ℕ) (y : List ℕ) → r < 2 ^ d → back_term (suc d) phi a s y i r ≡ back_term d phi a (2 * s) (take (2 ^ d) y) i r
unfolding back_term
lower_terms d phi a s i r y l =
    let e : a + s * (2 * reversed d r) ≡ a + 2 * s * reversed d r = omega arith in
    ap (λ z. entry y r * (phi ^ (a + s * z)) ^ i) (reversed_low d r l)
    ∙ ap (λ z. entry y r * (phi ^ z) ^ i) e
    ∙ ap (λ z. z * (phi ^ (a + 2 * s * reversed d r)) ^ i) (sym (get_or-take (2 ^ d) y r 0 l))

upper_terms : (d phi a s i r : ℕ) (y : List ℕ) → r < 2 ^ d → back_term (suc d) phi a s y i (2 ^ d + r) ≡ back_term d phi (a + s) (2 * s) (drop (2 ^ d) y) i r
unfolding back_term
upper_terms d phi a s i r y l =
    let e : a + s * (2 * reversed d r + 1) ≡ a + s + 2 * s * reversed d r = omega arith in
    ap (λ z. entry y (2 ^ d + r) * (phi ^ (a + s * z)) ^ i) (reversed_high d r l)
    ∙ ap (λ z. entry y (2 ^ d + r) * (phi ^ z) ^ i) e
    ∙ ap (λ z. z * (phi ^ (a + s + 2 * s * reversed d r)) ^ i) (sym (get_or-drop (2 ^ d) y r 0))

halves : (d phi a s i : ℕ) (y : List ℕ) →
    sum_of (2 ^ suc d) (back_term (suc d) phi a s y i)
    ≡ sum_of (2 ^ d) (back_term d phi a (2 * s) (take (2 ^ d) y) i) + sum_of (2 ^ d) (back_term d phi (a + s) (2 * s) (drop (2 ^ d) y) i)
halves d phi a s i y =
    let m : ℕ = 2 ^ d in
    let double : 2 ^ suc d ≡ m + m = pow-suc 2 d ∙ omega arith in
    let h : ℕ → ℕ = back_term (suc d) phi a s y i in
    let low = sum_equal m h (back_term d phi a (2 * s) (take m y) i) (λ r l. lower_terms d phi a s i r y l) in
    let high = sum_equal m (λ r. h (m + r)) (back_term d phi (a + s) (2 * s) (drop m y) i) (λ r l. upper_terms d phi a s i r y l) in
    ap (λ z. sum_of z h) double ∙ sum-split m m h
    ∙ ap (λ z. z + sum_of m (λ r. h (m + r))) low
    ∙ ap (λ z. sum_of m (back_term d phi a (2 * s) (take m y) i) + z) high

one_value : (phi a s : ℕ) (y : List ℕ) → entry y 0 ≡ sum_of 1 (back_term 0 phi a s y 0)
unfolding sum_of back_term
one_value phi a s y =
    let e = pow-zero (phi ^ (a + s * reversed 0 0)) in
    let g = ap (λ z. entry y 0 * z) e in
    omega (arith, g)

-- below node k, what the way back leaves at i is the sum of the values over the i-th powers of their points
undone-sums : (q t phi d k a s : ℕ) (y : List ℕ) → 1 < q → phi ^ (2 ^ t) % q ≡ q - 1 → IsPlaced t d k a s →
    (i : ℕ) → i < 2 ^ d → undone q (powers q t phi) d k y i % q ≡ sum_of (2 ^ d) (back_term d phi a s y i) % q
unfolding undone
undone-sums q t phi zero k a s y l e h i below =
    let none : i ≡ 0 = omega arith in
    ap (λ z. entry y z % q) none ∙ ap (λ z. z % q) (one_value phi a s y) ∙ ap (λ z. sum_of 1 (back_term 0 phi a s y z) % q) (sym none)
undone-sums q t phi (suc d) k a s y l e h i below =
    let m : ℕ = 2 ^ d in
    let double : 2 ^ suc d ≡ m * 2 = pow-suc 2 d in
    let z : ℕ = get_or (powers q t phi) k 0 in
    let u : ℕ → ℕ = undone q (powers q t phi) d (2 * k) (take m y) in
    let v : ℕ → ℕ = undone q (powers q t phi) d (2 * k + 1) (drop m y) in
    let f : ℕ → ℕ → ℕ = back_term d phi a (2 * s) (take m y) in
    let g : ℕ → ℕ → ℕ = back_term d phi (a + s) (2 * s) (drop m y) in
    let hu : (j : ℕ) → j < m → u j % q ≡ sum_of m (f j) % q = undone-sums q t phi d (2 * k) a (2 * s) (take m y) l e (left_placed t d k a s h) in
    let hv : (j : ℕ) → j < m → v j % q ≡ sum_of m (g j) % q = undone-sums q t phi d (2 * k + 1) (a + s) (2 * s) (drop m y) l e (right_placed t d k a s h) in
    elim (cases_lt i m) as (λ _. joined q m z u v i % q ≡ sum_of (2 ^ suc d) (back_term (suc d) phi a s y i) % q) [
      | inl low ↦
          ap (λ r. r % q) (joined_low q m z i u v low)
          ∙ add_same q (u i) (sum_of m (f i)) (v i) (sum_of m (g i)) (hu i low) (hv i low)
          ∙ ap (λ r. r % q) (sym (halves d phi a s i y))
      | inr high ↦
          let j : ℕ = i - m in
          let place : i ≡ m + j = omega arith in
          let here : j < m = omega (arith, double) in
          let small : z < q = rw (powers_at q t phi k l (place_below t d k a s h)) (mod_below (phi ^ reversed t k) q (omega arith)) in
          let c : ℕ = q - z in
          let left : sum_of m (f (m + j)) % q ≡ (z * sum_of m (f j)) % q =
          stepped q m z d phi a (2 * s) j (take m y) (λ r lr.
          let ex : a + 2 * s * reversed d r ≡ a + s * (2 * reversed d r) = omega arith in
          ap (λ w. (phi ^ w) ^ m % q) ex ∙ left_power q t d k a s phi (reversed d r) l e h) in
          let right : sum_of m (g (m + j)) % q ≡ (c * sum_of m (g j)) % q =
          stepped q m c d phi (a + s) (2 * s) j (drop m y) (λ r lr.
          let ex : a + s + 2 * s * reversed d r ≡ a + s * (2 * reversed d r + 1) = omega arith in
          ap (λ w. (phi ^ w) ^ m % q) ex ∙ right_power q t d k a s phi (reversed d r) l e h) in
          ap (λ r. joined q m z u v r % q) place
          ∙ ap (λ r. r % q) (joined_high q m z j u v ∙ (let p : z * (u j + (q - 1) * v j) ≡ z * u j + z * (q - 1) * v j = omega arith in p))
          ∙ add_same q (z * u j) (sum_of m (f (m + j))) (z * (q - 1) * v j) (sum_of m (g (m + j)))
          (mul_same q z z (u j) (sum_of m (f j)) refl (hu j here) ∙ sym left)
          (mul_same q (z * (q - 1)) c (v j) (sum_of m (g j)) (negative q (q - 1) z (omega arith) small) (hv j here) ∙ sym right)
          ∙ ap (λ r. r % q) (sym (halves d phi a s (m + j) y))
          ∙ ap (λ r. sum_of (2 ^ suc d) (back_term (suc d) phi a s y r) % q) (sym place)
    ]

-- at the root
root-sums : (q t phi : ℕ) (y : List ℕ) → 1 < q → phi ^ (2 ^ t) % q ≡ q - 1 → 0 < t →
    (i : ℕ) → i < 2 ^ t → undone q (powers q t phi) t 1 y i % q ≡ sum_of (2 ^ t) (divided t phi y i) % q
unfolding back_term reversed
root-sums q t phi y l e some i below =
    undone-sums q t phi t 1 1 2 y l e (root_placed t some) i below
    ∙ ap (λ z. z % q) (sum_equal (2 ^ t) (back_term t phi 1 2 y i) (divided t phi y i) (λ r lr.
    let b : ℕ = entry (bit_reversed t) r in
    let ex : 1 + 2 * b ≡ 2 * b + 1 = omega arith in
    ap (λ z. entry y r * z) (ap (λ z. (phi ^ z) ^ i) ex ∙ pow-pow phi (2 * b + 1) i)))

-- ---- the numbers that the definition takes

-- the inverse of a root is one
inverse-is_root : (q n psi phi : ℕ) → 1 < q → psi ^ n % q ≡ q - 1 → psi * phi % q ≡ 1 → phi ^ n % q ≡ q - 1
inverse-is_root q n psi phi l e inverse =
    let m : ℕ = q - 1 in
    let small : m % q ≡ m = mod-eq_of_lt (omega arith) in
    let one : 1 % q ≡ 1 = mod-eq_of_lt l in
    let both : (m * phi ^ n) % q ≡ 1 % q =
    mul_same q m (psi ^ n) (phi ^ n) (phi ^ n) (small ∙ sym e) refl
    ∙ ap (λ z. z % q) (sym (mul-pow psi phi n))
    ∙ pow_same q (psi * phi) 1 n (inverse ∙ sym one)
    ∙ ap (λ z. z % q) (one-pow n) in
    ap (λ z. z % q) (let g : phi ^ n ≡ 1 * phi ^ n = omega arith in g)
    ∙ mul_same q 1 (m * m) (phi ^ n) (phi ^ n) (sym (minus_squared q m (omega arith))) refl
    ∙ ap (λ z. z % q) (let g : m * m * phi ^ n ≡ m * (m * phi ^ n) = omega arith in g)
    ∙ mul_same q m m (m * phi ^ n) 1 refl both
    ∙ ap (λ z. z % q) (let g : m * 1 ≡ m = omega arith in g)
    ∙ small

-- what is asked of a root and a modulus
pub record HasRoot (q t psi : ℕ) : Type 0 where
  pub above_one : 1 < q
  pub odd : q % 2 ≡ 1
  pub some_level : 0 < t
  pub root : psi ^ (2 ^ t) % q ≡ q - 1

inverse_root-inverse : (q t psi : ℕ) → HasRoot q t psi → psi * inverse_root q psi t % q ≡ 1
inverse_root-inverse q t psi h =
    let n : ℕ = 2 ^ t in
    let some : 1 ≤ n = pow_pos t in
    let whole : suc (2 * n - 1) ≡ 2 * n = omega arith in
    mul_same q psi psi (inverse_root q psi t) (psi ^ (2 * n - 1)) refl (mod-mod (psi ^ (2 * n - 1)) q)
    ∙ ap (λ z. z % q) ((let g : psi * psi ^ (2 * n - 1) ≡ psi ^ (2 * n - 1) * psi = omega arith in g) ∙ sym (pow-suc psi (2 * n - 1)) ∙ ap (λ z. psi ^ z) whole)
    ∙ full_turn q n psi h.above_one h.root
    ∙ mod-eq_of_lt h.above_one

inverse-ready : (q t psi : ℕ) → HasRoot q t psi → IsReady q t psi (inverse_root q psi t) (inverse_length q t)
inverse-ready q t psi h = record {
  above_one = h.above_one;
  some_level = h.some_level;
  root = h.root;
  inverse = inverse_root-inverse q t psi h;
  scaled = half_power q t (inverse_length q t) h.above_one h.odd refl;
}

pub inverse_transform-poly : (q t psi : ℕ) (y : List ℕ) → 0 < q → IsPoly q (2 ^ t) (inverse_transform q psi t y)
unfolding inverse_transform interpolated_at
inverse_transform-poly q t psi y some = record {
  entries = length-map-range_with_len (interpolated_at q psi t y) 0 (2 ^ t);
  below = All-from_get_or (λ x. x < q) (inverse_transform q psi t y) 0
      (λ i h. let m = length-map-range_with_len (interpolated_at q psi t y) 0 (2 ^ t) in
      rw (get_or-map-range_with_len (interpolated_at q psi t y) 0 (2 ^ t) i i 0 (omega (arith, m)) (omega arith))
      (mod_below (inverse_length q t * sum_of (2 ^ t) (divided t (inverse_root q psi t) y i)) q some));
}

inverse-back : (q t psi : ℕ) (y : List ℕ) → HasRoot q t psi →
    IsBack q t psi (inverse_root q psi t) (inverse_length q t) y (inverse_transform q psi t y)
unfolding inverse_transform interpolated_at
inverse-back q t psi y h =
    let l = h.above_one in
    let phi : ℕ = inverse_root q psi t in
    let c : ℕ = inverse_length q t in
    let root : phi ^ (2 ^ t) % q ≡ q - 1 = inverse-is_root q (2 ^ t) psi phi l h.root (inverse_root-inverse q t psi h) in
    record {
      poly = inverse_transform-poly q t psi y (omega arith);
      entries = λ i below.
          let s : ℕ = sum_of (2 ^ t) (divided t phi y i) in
          ap (λ z. z % q) (get_or-map-range_with_len (interpolated_at q psi t y) 0 (2 ^ t) i i 0 below (omega arith))
          ∙ mod-mod (c * s) q
          ∙ mul_same q c c s (undone q (powers q t phi) t 1 y i) refl (sym (root-sums q t phi y l root h.some_level i below));
    }

-- ---- the laws

-- each way undoes the other
pub inverse_transform-transform : (q t psi : ℕ) (f : List ℕ) → HasRoot q t psi → IsPoly q (2 ^ t) f →
    inverse_transform q psi t (transform q psi t f) ≡ f
inverse_transform-transform q t psi f h p =
    let y : List ℕ = transform q psi t f in
    back-undoes q t psi (inverse_root q psi t) (inverse_length q t) y (inverse_transform q psi t y) f (inverse-ready q t psi h) (inverse-back q t psi y h) p refl

pub transform-inverse_transform : (q t psi : ℕ) (y : List ℕ) → HasRoot q t psi → IsPoly q (2 ^ t) y →
    transform q psi t (inverse_transform q psi t y) ≡ y
transform-inverse_transform q t psi y h p =
    back-undone q t psi (inverse_root q psi t) (inverse_length q t) y (inverse_transform q psi t y) (inverse-ready q t psi h) (inverse-back q t psi y h) p

-- the only polynomial with some values is the one that they are taken back to
pub is-inverse_transform : (q t psi : ℕ) (y x : List ℕ) → HasRoot q t psi → IsPoly q (2 ^ t) x → transform q psi t x ≡ y →
    x ≡ inverse_transform q psi t y
is-inverse_transform q t psi y x h p e =
    sym (ap (inverse_transform q psi t) (sym e) ∙ inverse_transform-transform q t psi x h p)
