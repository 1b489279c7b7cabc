-- A power by squarings: one step leaves `made * square ^ rest` as it was, modulo q.
use Rattle.std.proofs.Common.{◌≡◌, ℕ, ◌+◌, ◌*◌, ◌%◌, ◌^◌, refl, sym, ◌∙◌, ap, arith, add-one}
use Rattle.std.proofs.Math.Nat.{pow-suc, mod-mod}
use Rattle.std.proofs.lemmas.Nat.{mul-mod, pow-mod, mul-pow, pow-add}

mul_same : (q a b c d : ℕ) → a % q ≡ b % q → c % q ≡ d % q → (a * c) % q ≡ (b * d) % q
mul_same q a b c d e h = let x = mul-mod a c q in let y = mul-mod b d q in cc

square_power : (q s h : ℕ) → (s * s % q) ^ h % q ≡ s ^ (2 * h) % q
square_power q s h =
    let double : 2 * h ≡ h + h = omega arith in
    pow-mod (s * s) h q ∙ ap (λ z. z % q) (mul-pow s s h ∙ sym (pow-add s h h) ∙ ap (λ z. s ^ z) (sym double))

pub even_step : (q m s r h : ℕ) → r ≡ 2 * h → (m * (s * s % q) ^ h) % q ≡ (m * s ^ r) % q
even_step q m s r h e =
    mul_same q m m ((s * s % q) ^ h) (s ^ (2 * h)) refl (square_power q s h) ∙ ap (λ z. m * s ^ z % q) (sym e)

pub odd_step : (q m s r h : ℕ) → r ≡ 2 * h + 1 → (m * s % q * (s * s % q) ^ h) % q ≡ (m * s ^ r) % q
odd_step q m s r h e =
    let one_more : s ^ r ≡ s ^ (2 * h) * s = ap (λ z. s ^ z) e ∙ rw add-one (pow-suc s (2 * h)) in
    let product = ap (λ z. m * z) one_more in
    mul_same q (m * s % q) (m * s) ((s * s % q) ^ h) (s ^ (2 * h)) (mod-mod (m * s) q) (square_power q s h)
    ∙ ap (λ z. z % q) (let g : m * s * s ^ (2 * h) ≡ m * s ^ r = omega (arith, product) in g)
