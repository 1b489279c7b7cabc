-- The arithmetic of single butterflies and products.
use Rattle.std.proofs.Common.{◌≡◌, ℕ, ◌+◌, ◌-◌, ◌*◌, ◌/◌, ◌%◌, ◌^◌, ◌<◌, ◌≤◌, refl, ◌∙◌, ap, arith}
use Rattle.std.proofs.Math.Nat.{mod-mod, div-add-mod}
use Rattle.ring_ntt.proofs.Congruence.{add_same, mul_same, shift_same}
use Rattle.ring_ntt.proofs.Values.{negative}

-- a difference kept positive by 2q is a sum with q - 1 times the second
pub lifted_difference : (q x y : ℕ) → 0 < q → y ≤ x + 2 * q → (x + 2 * q - y) % q ≡ (x + (q - 1) * y) % q
lifted_difference q x y some l =
    let one = ap (λ z. y * z) (let h : q ≡ q - 1 + 1 = omega arith in h) in
    shift_same q (x + 2 * q - y) (x + (q - 1) * y) y 2 (omega (arith, one))

pub butterfly_difference : (q x y w even odd : ℕ) → w < q → odd ≤ even + 2 * q → even % q ≡ x % q → odd % q ≡ w * y % q →
    (even + 2 * q - odd) % q ≡ (x + (q - w) * y) % q
butterfly_difference q x y w even odd l within e o =
    lifted_difference q even odd (omega arith) within
    ∙ add_same q even x ((q - 1) * odd) ((q - w) * y) e
    (mul_same q (q - 1) (q - 1) odd (w * y) refl o
    ∙ ap (λ z. z % q) (let h : (q - 1) * (w * y) ≡ w * (q - 1) * y = omega arith in h)
    ∙ mul_same q (w * (q - 1)) (q - w) y y (negative q (q - 1) w (omega arith) l) refl)

pub word_halves : (q x y high low r sum : ℕ) → r ≡ 2 ^ 64 % q → high % q ≡ r * (x * y / 2 ^ 64) % q → low % q ≡ 1 * (x * y % 2 ^ 64) % q →
    sum ≡ high + low → sum % q ≡ x * y % q
word_halves q x y high low r sum re h l e =
    let p : ℕ = x * y in
    let b : ℕ = 2 ^ 64 in
    ap (λ z. z % q) e
    ∙ add_same q high (b * (p / b)) low (1 * (p % b))
    (h ∙ mul_same q r b (p / b) (p / b) (ap (λ z. z % q) re ∙ mod-mod b q) refl) l
    ∙ ap (λ z. z % q) (let d = div-add-mod p b in let g : b * (p / b) + 1 * (p % b) ≡ p = omega (arith, d) in g)
