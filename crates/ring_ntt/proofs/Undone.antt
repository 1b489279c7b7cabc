-- The way back undoes the way forward, up to a factor 2^d.
use Rattle.std.proofs.Common.{◌≡◌, ℕ, zero, suc, ◌+◌, ◌-◌, ◌*◌, ◌%◌, ◌^◌, ◌<◌, ◌≤◌, List, [], ◌∷◌, ◌++◌, map, length, get_or, take, drop, cond, inl, inr, refl, sym, ◌∙◌, ap, subst, arith}
use Rattle.std.proofs.Math.Nat.{pow-suc, mod-mod, mul-le-mul_left, mul-le-mul_right}
use Rattle.std.proofs.lemmas.Nat.{pow_pos}
use Rattle.std.proofs.lemmas.List.{take_at, drop_at, map-append, take-append-drop, length-take, length-drop}
use Rattle.std.proofs.lemmas.Bool.{cases_lt, lt-ltb, le-ltb}
use Rattle.ring_ntt.specs.Transform.{entry}
use Rattle.ring_ntt.specs.Nodes.{folded, node, joined, undone}
use Rattle.ring_ntt.proofs.Congruence.{add_same, mul_same, shift_same}
use Rattle.ring_ntt.proofs.Tree.{length-node, node_same}

-- two tables, entry by entry inverse to each other modulo q
pub record AreInverse (q t : ℕ) (zs is : List ℕ) : Type 0 where
  pub below : (k : ℕ) → k < 2 ^ t → get_or zs k 0 < q
  pub inverse : (k : ℕ) → k < 2 ^ t → (get_or is k 0 * get_or zs k 0) % q ≡ 1 % q

pub joined_low : (q m z i : ℕ) (u v : ℕ → ℕ) → i < m → joined q m z u v i ≡ u i + v i
joined_low q m z i u v l = ap (λ b. cond b (u i + v i) (z * (u (i - m) + (q - 1) * v (i - m)))) (lt-ltb i m l)

pub joined_high : (q m z i : ℕ) (u v : ℕ → ℕ) → joined q m z u v (m + i) ≡ z * (u i + (q - 1) * v i)
joined_high q m z i u v =
    let e : m + i - m ≡ i = omega arith in
    ap (λ b. cond b (u (m + i) + v (m + i)) (z * (u (m + i - m) + (q - 1) * v (m + i - m)))) (le-ltb (m + i) m (omega arith))
    ∙ ap (λ j. z * (u j + (q - 1) * v j)) e

-- ---- the arithmetic of one level

sum_back : (q p x y w c : ℕ) → w + c ≡ q → (p * (x + w * y) + p * (x + c * y)) % q ≡ (2 * p * x) % q
sum_back q p x y w c e =
    let g = ap (λ z. p * y * z) e in
    shift_same q (p * (x + w * y) + p * (x + c * y)) (2 * p * x) 0 (p * y) (omega (arith, g))

difference_back : (q m p x y w c z : ℕ) → w + c ≡ q → q ≡ m + 1 → (z * w) % q ≡ 1 % q → (z * (p * (x + w * y) + m * (p * (x + c * y)))) % q ≡ (2 * p * y) % q
difference_back q m p x y w c z e one inverse =
    let g1 = ap (λ r. p * y * r) e in
    let g2 = ap (λ r. p * x * r) one in
    let g3 = ap (λ r. p * y * c * r) one in
    let inner : (p * (x + w * y) + m * (p * (x + c * y))) % q ≡ (2 * p * y * w) % q =
    shift_same q (p * (x + w * y) + m * (p * (x + c * y))) (2 * p * y * w) (p * y) (p * x + p * y * c) (omega (arith, g1, g2, g3)) in
    mul_same q z z (p * (x + w * y) + m * (p * (x + c * y))) (2 * p * y * w) refl inner
    ∙ ap (λ r. r % q) (let h : z * (2 * p * y * w) ≡ z * w * (2 * p * y) = omega arith in h)
    ∙ mul_same q (z * w) 1 (2 * p * y) (2 * p * y) inverse refl
    ∙ ap (λ r. r % q) (let h : 1 * (2 * p * y) ≡ 2 * p * y = omega arith in h)

left_again : (q m c u v w z : ℕ) → q ≡ m + 1 → (z * w) % q ≡ 1 % q → (c * (u + v) + w * (c * (z * (u + m * v)))) % q ≡ (2 * c * u) % q
left_again q m c u v w z one inverse =
    let g = ap (λ r. c * v * r) one in
    let part : (w * (c * (z * (u + m * v)))) % q ≡ (1 * (c * (u + m * v))) % q =
    ap (λ r. r % q) (let h : w * (c * (z * (u + m * v))) ≡ z * w * (c * (u + m * v)) = omega arith in h)
    ∙ mul_same q (z * w) 1 (c * (u + m * v)) (c * (u + m * v)) inverse refl in
    add_same q (c * (u + v)) (c * (u + v)) (w * (c * (z * (u + m * v)))) (1 * (c * (u + m * v))) refl part
    ∙ shift_same q (c * (u + v) + 1 * (c * (u + m * v))) (2 * c * u) 0 (c * v) (omega (arith, g))

opposite : (q m w c z : ℕ) → w + c ≡ q → q ≡ m + 1 → (z * w) % q ≡ 1 % q → (z * c) % q ≡ m % q
opposite q m w c z e one inverse =
    let g = ap (λ r. z * r) e in
    shift_same q (z * c) (1 + (z * c + m)) 1 0 (omega (arith, one))
    ∙ add_same q 1 (z * w) (z * c + m) (z * c + m) (sym inverse) refl
    ∙ shift_same q (z * w + (z * c + m)) m 0 z (omega (arith, g))

right_again : (q m c u v w b z : ℕ) → w + b ≡ q → q ≡ m + 1 → (z * w) % q ≡ 1 % q → (c * (u + v) + b * (c * (z * (u + m * v)))) % q ≡ (2 * c * v) % q
right_again q m c u v w b z e one inverse =
    let square = ap (λ r. r * r) one in
    let g1 = ap (λ r. c * v * r) square in
    let g2 = ap (λ r. c * u * r) one in
    let g3 = ap (λ r. c * v * r) one in
    let part : (b * (c * (z * (u + m * v)))) % q ≡ (m * (c * (u + m * v))) % q =
    ap (λ r. r % q) (let h : b * (c * (z * (u + m * v))) ≡ z * b * (c * (u + m * v)) = omega arith in h)
    ∙ mul_same q (z * b) m (c * (u + m * v)) (c * (u + m * v)) (opposite q m w b z e one inverse) refl in
    add_same q (c * (u + v)) (c * (u + v)) (b * (c * (z * (u + m * v)))) (m * (c * (u + m * v))) refl part
    ∙ shift_same q (c * (u + v) + m * (c * (u + m * v))) (2 * c * v) (2 * (c * v)) (c * u + c * v * q) (omega (arith, g1, g2, g3))

-- ---- all levels

pub half_within : (t d k b : ℕ) → b < 2 → (k + 1) * 2 ^ suc d ≤ 2 * 2 ^ t → (2 * k + b + 1) * 2 ^ d ≤ 2 * 2 ^ t
half_within t d k b s l =
    let kp : (k + 1) * 2 ^ suc d ≡ 2 * (k + 1) * 2 ^ d = ap (λ z. (k + 1) * z) (pow-suc 2 d) ∙ omega arith in
    let m : (2 * k + b + 1) * 2 ^ d ≤ 2 * (k + 1) * 2 ^ d = mul-le-mul_right (2 ^ d) (omega arith) in
    omega (arith, kp, m, l)

pub low_within : (t d k : ℕ) → (k + 1) * 2 ^ suc d ≤ 2 * 2 ^ t → k < 2 ^ t
low_within t d k l =
    let kp : (k + 1) * 2 ^ suc d ≡ 2 * ((k + 1) * 2 ^ d) = ap (λ z. (k + 1) * z) (pow-suc 2 d) ∙ omega arith in
    let m : (k + 1) * 1 ≤ (k + 1) * 2 ^ d = mul-le-mul_left (k + 1) (pow_pos d) in
    omega (arith, kp, m, l)

leaf_undone : (q i : ℕ) (f : ℕ → ℕ) → i < 1 → entry (f 0 % q ∷ []) i % q ≡ (1 * f i) % q
leaf_undone q zero f l = mod-mod (f 0) q ∙ ap (λ z. z % q) (let h : f 0 ≡ 1 * f 0 = omega arith in h)
leaf_undone q (suc i) f l = absurd (omega arith)

pub undone-node : (q t : ℕ) (zs is : List ℕ) (d k : ℕ) (f : ℕ → ℕ) → 0 < q → AreInverse q t zs is → (k + 1) * 2 ^ d ≤ 2 * 2 ^ t →
    (i : ℕ) → i < 2 ^ d → undone q is d k (node q zs d k f) i % q ≡ (2 ^ d * f i) % q
unfolding node undone
undone-node q t zs is zero k f some inv w i l = leaf_undone q i f l
undone-node q t zs is (suc d) k f some inv within i l =
    let m : ℕ = 2 ^ d in
    let double : 2 ^ suc d ≡ m * 2 = pow-suc 2 d in
    let w : ℕ = get_or zs k 0 in
    let c : ℕ = q - w in
    let z : ℕ = get_or is k 0 in
    let here : k < 2 ^ t = low_within t d k within in
    let wq : w < q = inv.below k here in
    let left : ℕ → ℕ = folded m w f in
    let right : ℕ → ℕ = folded m c f in
    let a : List ℕ = node q zs d (2 * k) left in
    let b : List ℕ = node q zs d (2 * k + 1) right in
    let u : ℕ → ℕ = undone q is d (2 * k) a in
    let v : ℕ → ℕ = undone q is d (2 * k + 1) b in
    let la : length a ≡ m = length-node q zs d (2 * k) left in
    let even : 2 * k + 0 ≡ 2 * k = omega arith in
    let wl : (2 * k + 1) * m ≤ 2 * 2 ^ t = subst (λ y. (y + 1) * m ≤ 2 * 2 ^ t) even (half_within t d k 0 (omega arith) within) in
    let wr : (2 * k + 1 + 1) * m ≤ 2 * 2 ^ t = half_within t d k 1 (omega arith) within in
    let hu : (j : ℕ) → j < m → u j % q ≡ (m * left j) % q = undone-node q t zs is d (2 * k) left some inv wl in
    let hv : (j : ℕ) → j < m → v j % q ≡ (m * right j) % q = undone-node q t zs is d (2 * k + 1) right some inv wr in
    let parts : undone q is (suc d) k (a ++ b) i ≡ joined q m z u v i =
    ap (λ y. joined q m z (undone q is d (2 * k) y) (undone q is d (2 * k + 1) (drop m (a ++ b))) i) (take_at a b m la)
    ∙ ap (λ y. joined q m z u (undone q is d (2 * k + 1) y) i) (drop_at a b m la) in
    ap (λ y. y % q) parts
    ∙ elim (cases_lt i m) as (λ _. joined q m z u v i % q ≡ (2 ^ suc d * f i) % q) [
      | inl low ↦
          ap (λ y. y % q) (joined_low q m z i u v low)
          ∙ add_same q (u i) (m * left i) (v i) (m * right i) (hu i low) (hv i low)
          ∙ sum_back q m (f i) (f (m + i)) w c (omega arith)
          ∙ ap (λ y. y % q) (let h : 2 * m * f i ≡ m * 2 * f i = omega arith in h ∙ ap (λ y. y * f i) (sym double))
      | inr high ↦
          let j : ℕ = i - m in
          let place : i ≡ m + j = omega arith in
          let below : j < m = omega (arith, double) in
          ap (λ y. joined q m z u v y % q) place
          ∙ ap (λ y. y % q) (joined_high q m z j u v)
          ∙ mul_same q z z (u j + (q - 1) * v j) (m * left j + (q - 1) * (m * right j)) refl
          (add_same q (u j) (m * left j) ((q - 1) * v j) ((q - 1) * (m * right j)) (hu j below)
          (mul_same q (q - 1) (q - 1) (v j) (m * right j) refl (hv j below)))
          ∙ difference_back q (q - 1) m (f j) (f (m + j)) w c z (omega arith) (omega arith) (inv.inverse k here)
          ∙ ap (λ y. y % q) (let h : 2 * m * f (m + j) ≡ m * 2 * f (m + j) = omega arith in h ∙ ap (λ y. y * f (m + j)) (sym double) ∙ ap (λ y. 2 ^ suc d * f y) (sym place))
    ]

-- a value times c and the factor of d levels
unfoldable pub scaled_by : ℕ → ℕ → ℕ → ℕ → ℕ
scaled_by q c d v = c * 2 ^ d * v % q

-- c times the remainder
unfoldable pub times_undone : ℕ → ℕ → List ℕ → ℕ → ℕ → List ℕ → ℕ → ℕ
times_undone q c is d k y i = c * undone q is d k y i

leaf_again : (q c : ℕ) (y : List ℕ) → length y ≡ 1 → c * entry y 0 % q ∷ [] ≡ map (scaled_by q c 0) y
unfolding scaled_by
leaf_again q c [] e = absurd (omega (arith, e))
leaf_again q c (v ∷ []) e = ap (λ z. z * v % q ∷ []) (let h : c ≡ c * 1 = omega arith in h)
leaf_again q c (v ∷ (x ∷ xs)) e = absurd (omega (arith, e))

pub node-undone : (q t : ℕ) (zs is : List ℕ) (d k c : ℕ) (y : List ℕ) → 0 < q → AreInverse q t zs is → (k + 1) * 2 ^ d ≤ 2 * 2 ^ t → length y ≡ 2 ^ d →
    node q zs d k (times_undone q c is d k y) ≡ map (scaled_by q c d) y
unfolding node undone times_undone scaled_by
node-undone q t zs is zero k c y some inv within e = leaf_again q c y e
node-undone q t zs is (suc d) k c y some inv within e =
    let m : ℕ = 2 ^ d in
    let double : 2 ^ suc d ≡ m * 2 = pow-suc 2 d in
    let w : ℕ = get_or zs k 0 in
    let b : ℕ = q - w in
    let z : ℕ = get_or is k 0 in
    let here : k < 2 ^ t = low_within t d k within in
    let wq : w < q = inv.below k here in
    let one : q ≡ q - 1 + 1 = omega arith in
    let u : ℕ → ℕ = undone q is d (2 * k) (take m y) in
    let v : ℕ → ℕ = undone q is d (2 * k + 1) (drop m y) in
    let f : ℕ → ℕ = times_undone q c is (suc d) k y in
    let even : 2 * k + 0 ≡ 2 * k = omega arith in
    let wl : (2 * k + 1) * m ≤ 2 * 2 ^ t = subst (λ r. (r + 1) * m ≤ 2 * 2 ^ t) even (half_within t d k 0 (omega arith) within) in
    let wr : (2 * k + 1 + 1) * m ≤ 2 * 2 ^ t = half_within t d k 1 (omega arith) within in
    let lt : length (take m y) ≡ m = simp length-take (omega (arith, e, double)) in
    let ld : length (drop m y) ≡ m = simp length-drop (omega (arith, e, double)) in
    let left : node q zs d (2 * k) (folded m w f) ≡ node q zs d (2 * k) (times_undone q (2 * c) is d (2 * k) (take m y)) =
    node_same q zs d (2 * k) (folded m w f) (times_undone q (2 * c) is d (2 * k) (take m y))
    (λ i l. ap (λ r. (c * r + w * f (m + i)) % q) (joined_low q m z i u v l)
    ∙ ap (λ r. (c * (u i + v i) + w * (c * r)) % q) (joined_high q m z i u v)
    ∙ left_again q (q - 1) c (u i) (v i) w z one (inv.inverse k here)) in
    let right : node q zs d (2 * k + 1) (folded m b f) ≡ node q zs d (2 * k + 1) (times_undone q (2 * c) is d (2 * k + 1) (drop m y)) =
    node_same q zs d (2 * k + 1) (folded m b f) (times_undone q (2 * c) is d (2 * k + 1) (drop m y))
    (λ i l. ap (λ r. (c * r + b * f (m + i)) % q) (joined_low q m z i u v l)
    ∙ ap (λ r. (c * (u i + v i) + b * (c * r)) % q) (joined_high q m z i u v)
    ∙ right_again q (q - 1) c (u i) (v i) w b z (omega arith) one (inv.inverse k here)) in
    let hl = node-undone q t zs is d (2 * k) (2 * c) (take m y) some inv wl lt in
    let hr = node-undone q t zs is d (2 * k + 1) (2 * c) (drop m y) some inv wr ld in
    let factor : 2 * c * m ≡ c * 2 ^ suc d = (let h : 2 * c * m ≡ c * (m * 2) = omega arith in h) ∙ ap (λ r. c * r) (sym double) in
    ap (λ r. r ++ node q zs d (2 * k + 1) (folded m b f)) (left ∙ hl)
    ∙ ap (λ r. map (scaled_by q (2 * c) d) (take m y) ++ r) (right ∙ hr)
    ∙ sym (map-append (scaled_by q (2 * c) d) (take m y) (drop m y))
    ∙ ap (map (scaled_by q (2 * c) d)) (take-append-drop m y)
    ∙ ap (λ r. map (λ x. r * x % q) y) factor
