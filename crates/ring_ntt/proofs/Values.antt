-- What the tree of divisions gives are values: below a node stand the values at the powers of psi whose
-- exponents belong to it.
use Rattle.std.proofs.Common.{◌≡◌, ℕ, zero, suc, ◌+◌, ◌-◌, ◌*◌, ◌%◌, ◌^◌, ◌<◌, ◌≤◌, List, [], ◌∷◌, ◌++◌, map, get_or, refl, sym, ◌∙◌, ap, arith}
use Rattle.std.proofs.Math.Nat.{pow-zero, pow-suc, mod-eq_of_lt, mod-mod, mul-le-mul_left}
use Rattle.std.proofs.lemmas.Nat.{pow_pos, pow-add, mod_below}
use Rattle.std.proofs.lemmas.List.{map-append}
use Rattle.ring_ntt.specs.Transform.{sum_of, value, bit_reversed, value_at, transform, entry}
use Rattle.ring_ntt.specs.Nodes.{folded, node, powers}
use Rattle.ring_ntt.proofs.Congruence.{mul_same, pow_same, shift_same}
use Rattle.ring_ntt.proofs.Sums.{value-folded}
use Rattle.ring_ntt.proofs.Reversal.{reversed, reversed-digit, reversed_first, powers_at}

pub pow-pow : (x a b : ℕ) → (x ^ a) ^ b ≡ x ^ (a * b)
pow-pow x a zero = pow-zero (x ^ a) ∙ sym (ap (λ z. x ^ z) (let e : a * 0 ≡ 0 = omega arith in e) ∙ pow-zero x)
pow-pow x a (suc b) =
    let e : a * suc b ≡ a * b + a = omega arith in
    pow-suc (x ^ a) b ∙ ap (λ z. z * x ^ a) (pow-pow x a b) ∙ sym (ap (λ z. x ^ z) e ∙ pow-add x (a * b) a)

pub one-pow : (b : ℕ) → 1 ^ b ≡ 1
one-pow zero = pow-zero 1
one-pow (suc b) = pow-suc 1 b ∙ (let e = one-pow b in omega (arith, e))

pub minus_squared : (q m : ℕ) → q ≡ m + 1 → (m * m) % q ≡ 1 % q
minus_squared q m e =
    let square = ap (λ z. z * z) e in
    shift_same q (m * m) 1 2 q (omega (arith, e, square))

-- psi^2n is 1
pub full_turn : (q n psi : ℕ) → 1 < q → psi ^ n % q ≡ q - 1 → psi ^ (2 * n) % q ≡ 1 % q
full_turn q n psi l e =
    let double : 2 * n ≡ n + n = omega arith in
    let small : (q - 1) % q ≡ q - 1 = mod-eq_of_lt (omega arith) in
    ap (λ z. z % q) (ap (λ z. psi ^ z) double ∙ pow-add psi n n)
    ∙ mul_same q (psi ^ n) (q - 1) (psi ^ n) (q - 1) (e ∙ sym small) (e ∙ sym small)
    ∙ minus_squared q (q - 1) (omega arith)

-- the value at psi^(a + s*r)
pub point_value : ℕ → ℕ → ℕ → ℕ → ℕ → (ℕ → ℕ) → ℕ → ℕ
point_value q m psi a s f r = value m f (psi ^ (a + s * r)) % q

-- node k, d levels above the leaves, has the exponents a + s*r
pub record IsPlaced (t d k a s : ℕ) : Type 0 where
  pub first : 0 < d → 2 * reversed t k ≡ a * 2 ^ d
  pub stride : s * 2 ^ d ≡ 2 * 2 ^ t
  pub within : (k + 1) * 2 ^ d ≤ 2 * 2 ^ t

inside : (t d k : ℕ) → 0 < d → (k + 1) * 2 ^ suc d ≤ 2 * 2 ^ t → 2 * k + 1 < 2 ^ t
inside t zero k l h = absurd (omega arith)
inside t (suc d) k l h =
    let p1 = pow-suc 2 d in
    let p2 = pow-suc 2 (suc d) in
    let e : (k + 1) * 2 ^ suc (suc d) ≡ 4 * ((k + 1) * 2 ^ d) = ap (λ z. (k + 1) * z) (p2 ∙ ap (λ z. z * 2) p1) ∙ omega arith in
    let m : (k + 1) * 1 ≤ (k + 1) * 2 ^ d = mul-le-mul_left (k + 1) (pow_pos d) in
    omega (arith, e, m, h)

pub left_placed : (t d k a s : ℕ) → IsPlaced t (suc d) k a s → IsPlaced t d (2 * k) a (2 * s)
left_placed t d k a s h =
    let p = pow-suc 2 d in
    let ap1 : a * 2 ^ suc d ≡ a * 2 ^ d * 2 = ap (λ z. a * z) p ∙ omega arith in
    let sp : s * 2 ^ suc d ≡ s * 2 ^ d * 2 = ap (λ z. s * z) p ∙ omega arith in
    let kp : (k + 1) * 2 ^ suc d ≡ (k + 1) * 2 ^ d * 2 = ap (λ z. (k + 1) * z) p ∙ omega arith in
    let here : 2 * reversed t k ≡ a * 2 ^ suc d = h.first (omega arith) in
    record {
      first = λ l.
          let digit : 2 * reversed t (2 * k + 0) ≡ reversed t k + 0 * 2 ^ t = reversed-digit t k 0 (omega arith) (let i = inside t d k l h.within in omega (arith, i)) in
          let e : 2 * k + 0 ≡ 2 * k = omega arith in
          let moved = ap (λ z. 2 * reversed t z) e in
          omega (arith, digit, moved, here, ap1);
      stride = omega (arith, h.stride, sp);
      within = omega (arith, h.within, kp);
    }

pub right_placed : (t d k a s : ℕ) → IsPlaced t (suc d) k a s → IsPlaced t d (2 * k + 1) (a + s) (2 * s)
right_placed t d k a s h =
    let p = pow-suc 2 d in
    let ap1 : a * 2 ^ suc d ≡ a * 2 ^ d * 2 = ap (λ z. a * z) p ∙ omega arith in
    let sp : s * 2 ^ suc d ≡ s * 2 ^ d * 2 = ap (λ z. s * z) p ∙ omega arith in
    let kp : (k + 1) * 2 ^ suc d ≡ (k + 1) * 2 ^ d * 2 = ap (λ z. (k + 1) * z) p ∙ omega arith in
    let here : 2 * reversed t k ≡ a * 2 ^ suc d = h.first (omega arith) in
    record {
      first = λ l.
          let digit : 2 * reversed t (2 * k + 1) ≡ reversed t k + 1 * 2 ^ t = reversed-digit t k 1 (omega arith) (inside t d k l h.within) in
          omega (arith, digit, here, ap1, sp, h.stride);
      stride = omega (arith, h.stride, sp);
      within = omega (arith, h.within, kp);
    }

pub place_below : (t d k a s : ℕ) → IsPlaced t (suc d) k a s → k < 2 ^ t
place_below t d k a s h =
    let p = pow-suc 2 d in
    let kp : (k + 1) * 2 ^ suc d ≡ (k + 1) * 2 ^ d * 2 = ap (λ z. (k + 1) * z) p ∙ omega arith in
    let m : (k + 1) * 1 ≤ (k + 1) * 2 ^ d = mul-le-mul_left (k + 1) (pow_pos d) in
    omega (arith, h.within, kp, m)

turns : (q n psi r : ℕ) → 1 < q → psi ^ n % q ≡ q - 1 → psi ^ (2 * n * r) % q ≡ 1 % q
turns q n psi r l e =
    ap (λ z. z % q) (sym (pow-pow psi (2 * n) r))
    ∙ pow_same q (psi ^ (2 * n)) 1 r (full_turn q n psi l e)
    ∙ ap (λ z. z % q) (one-pow r)

pub left_power : (q t d k a s psi r : ℕ) → 1 < q → psi ^ (2 ^ t) % q ≡ q - 1 → IsPlaced t (suc d) k a s → (psi ^ (a + s * (2 * r))) ^ (2 ^ d) % q ≡ get_or (powers q t psi) k 0 % q
left_power q t d k a s psi r l e h =
    let p = pow-suc 2 d in
    let ap1 : a * 2 ^ suc d ≡ a * 2 ^ d * 2 = ap (λ z. a * z) p ∙ omega arith in
    let sp : s * 2 ^ suc d ≡ s * 2 ^ d * 2 = ap (λ z. s * z) p ∙ omega arith in
    let here : 2 * reversed t k ≡ a * 2 ^ suc d = h.first (omega arith) in
    let along : s * 2 ^ d * r ≡ 2 ^ t * r = ap (λ z. z * r) (let g : s * 2 ^ d ≡ 2 ^ t = omega (arith, h.stride, sp) in g) in
    let exponent : (a + s * (2 * r)) * 2 ^ d ≡ reversed t k + 2 * 2 ^ t * r = omega (arith, ap1, here, along) in
    ap (λ z. z % q) (pow-pow psi (a + s * (2 * r)) (2 ^ d) ∙ ap (λ z. psi ^ z) exponent ∙ pow-add psi (reversed t k) (2 * 2 ^ t * r))
    ∙ mul_same q (psi ^ reversed t k) (psi ^ reversed t k) (psi ^ (2 * 2 ^ t * r)) 1 refl (turns q (2 ^ t) psi r l e)
    ∙ ap (λ z. z % q) (let g : psi ^ reversed t k * 1 ≡ psi ^ reversed t k = omega arith in g)
    ∙ sym (ap (λ z. z % q) (powers_at q t psi k l (place_below t d k a s h)) ∙ mod-mod (psi ^ reversed t k) q)

pub negative : (q m z : ℕ) → q ≡ m + 1 → z < q → (z * m) % q ≡ (q - z) % q
negative q m z e l =
    let a = ap (λ y. z * y) e in
    shift_same q (z * m) (q - z) 1 z (omega (arith, e, a))

pub right_power : (q t d k a s psi r : ℕ) → 1 < q → psi ^ (2 ^ t) % q ≡ q - 1 → IsPlaced t (suc d) k a s → (psi ^ (a + s * (2 * r + 1))) ^ (2 ^ d) % q ≡ (q - get_or (powers q t psi) k 0) % q
right_power q t d k a s psi r l e h =
    let p = pow-suc 2 d in
    let sp : s * 2 ^ suc d ≡ s * 2 ^ d * 2 = ap (λ z. s * z) p ∙ omega arith in
    let exponent : (a + s * (2 * r + 1)) * 2 ^ d ≡ (a + s * (2 * r)) * 2 ^ d + 2 ^ t = omega (arith, sp, h.stride) in
    let small : (q - 1) % q ≡ q - 1 = mod-eq_of_lt (omega arith) in
    let z : ℕ = get_or (powers q t psi) k 0 in
    let below : z < q = rw (powers_at q t psi k l (place_below t d k a s h)) (mod_below (psi ^ reversed t k) q (omega arith)) in
    ap (λ z. z % q) (pow-pow psi (a + s * (2 * r + 1)) (2 ^ d) ∙ ap (λ z. psi ^ z) exponent ∙ pow-add psi ((a + s * (2 * r)) * 2 ^ d) (2 ^ t) ∙ ap (λ z. z * psi ^ (2 ^ t)) (sym (pow-pow psi (a + s * (2 * r)) (2 ^ d))))
    ∙ mul_same q ((psi ^ (a + s * (2 * r))) ^ (2 ^ d)) z (psi ^ (2 ^ t)) (q - 1) (left_power q t d k a s psi r l e h) (e ∙ sym small)
    ∙ negative q (q - 1) z (omega arith) below

map_along : (f g h : ℕ → ℕ) → ((r : ℕ) → f r ≡ g (h r)) → (xs : List ℕ) → map f xs ≡ map g (map h xs)
map_along f g h e [] = refl
map_along f g h e (x ∷ xs) = let a = e x in let b = map_along f g h e xs in cc

folded_value : (q d w x : ℕ) (f : ℕ → ℕ) → x ^ (2 ^ d) % q ≡ w % q → value (2 ^ d) (folded (2 ^ d) w f) x % q ≡ value (2 ^ suc d) f x % q
folded_value q d w x f e =
    let double : 2 ^ suc d ≡ 2 ^ d + 2 ^ d = pow-suc 2 d ∙ omega arith in
    value-folded q (2 ^ d) w x f e ∙ sym (ap (λ z. value z f x % q) double)

one_term : (f : ℕ → ℕ) (x : ℕ) → value 1 f x ≡ f 0
unfolding sum_of
one_term f x = let e = pow-zero x in let g = ap (λ z. f 0 * z) e in omega (arith, g)

pub node-values : (q t psi d k a s : ℕ) (f : ℕ → ℕ) → 1 < q → psi ^ (2 ^ t) % q ≡ q - 1 → IsPlaced t d k a s →
    node q (powers q t psi) d k f ≡ map (point_value q (2 ^ d) psi a s f) (bit_reversed d)
unfolding node bit_reversed point_value
node-values q t psi zero k a s f l e h = ap (λ z. z % q ∷ []) (sym (one_term f (psi ^ (a + s * 0))))
node-values q t psi (suc d) k a s f l e h =
    let zs : List ℕ = powers q t psi in
    let w : ℕ = get_or zs k 0 in
    let left : ℕ → ℕ = folded (2 ^ d) w f in
    let right : ℕ → ℕ = folded (2 ^ d) (q - w) f in
    let a1 = node-values q t psi d (2 * k) a (2 * s) left l e (left_placed t d k a s h) in
    let a2 = node-values q t psi d (2 * k + 1) (a + s) (2 * s) right l e (right_placed t d k a s h) in
    let b1 = map_along (point_value q (2 ^ d) psi a (2 * s) left) (point_value q (2 ^ suc d) psi a s f) (λ r. 2 * r)
    (λ r. ap (λ z. value (2 ^ d) left (psi ^ z) % q) (let g : a + 2 * s * r ≡ a + s * (2 * r) = omega arith in g)
    ∙ folded_value q d w (psi ^ (a + s * (2 * r))) f (left_power q t d k a s psi r l e h)) (bit_reversed d) in
    let b2 = map_along (point_value q (2 ^ d) psi (a + s) (2 * s) right) (point_value q (2 ^ suc d) psi a s f) (λ r. 2 * r + 1)
    (λ r. ap (λ z. value (2 ^ d) right (psi ^ z) % q) (let g : a + s + 2 * s * r ≡ a + s * (2 * r + 1) = omega arith in g)
    ∙ folded_value q d (q - w) (psi ^ (a + s * (2 * r + 1))) f (right_power q t d k a s psi r l e h)) (bit_reversed d) in
    let m = map-append (point_value q (2 ^ suc d) psi a s f) (map (λ r. 2 * r) (bit_reversed d)) (map (λ r. 2 * r + 1) (bit_reversed d)) in
    ap (λ z. z ++ node q zs d (2 * k + 1) right) (a1 ∙ b1) ∙ ap (λ z. map (point_value q (2 ^ suc d) psi a s f) (map (λ r. 2 * r) (bit_reversed d)) ++ z) (a2 ∙ b2) ∙ sym m

map_equal : (f g : ℕ → ℕ) → ((r : ℕ) → f r ≡ g r) → (xs : List ℕ) → map f xs ≡ map g xs
map_equal f g e [] = refl
map_equal f g e (x ∷ xs) = let a = e x in let b = map_equal f g e xs in cc

pub root_placed : (t : ℕ) → 0 < t → IsPlaced t t 1 1 2
root_placed zero l = absurd (omega arith)
root_placed (suc t) l =
    let p = pow-suc 2 t in
    let some : 1 ≤ 2 ^ t = pow_pos t in
    let digit : 2 * reversed (suc t) 1 ≡ reversed (suc t) 0 + 1 * 2 ^ suc t = reversed-digit (suc t) 0 1 (omega arith) (omega arith) in
    let none = reversed_first (suc t) in
    record {
      first = λ _. omega (arith, digit, none);
      stride = refl;
      within = omega arith;
    }

-- at the root the tree gives the transform
pub node-transform : (q t psi : ℕ) (f : List ℕ) → 1 < q → psi ^ (2 ^ t) % q ≡ q - 1 → 0 < t →
    node q (powers q t psi) t 1 (entry f) ≡ transform q psi t f
unfolding transform value_at point_value
node-transform q t psi f l e some =
    node-values q t psi t 1 1 2 (entry f) l e (root_placed t some)
    ∙ map_equal (point_value q (2 ^ t) psi 1 2 (entry f)) (value_at q (2 ^ t) psi (entry f))
    (λ r. ap (λ z. value (2 ^ t) (entry f) (psi ^ z) % q) (let g : 1 + 2 * r ≡ 2 * r + 1 = omega arith in g)) (bit_reversed t)
