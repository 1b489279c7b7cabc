-- Digits in base 2^b: the first ones times their weights make up what the number leaves modulo the next weight.
use Rattle.std.proofs.Common.{◌≡◌, ℕ, zero, suc, ◌+◌, ◌-◌, ◌*◌, ◌/◌, ◌%◌, ◌^◌, ◌≤◌, ◌<◌, ap, ◌∙◌, sym, arith}
use Rattle.std.specs.Prelude.{ℤ, pos, ◌+ℤ◌, ◌*ℤ◌}
use Rattle.std.proofs.lemmas.Nat.{mod-pow-add, pow_pos}
use Rattle.ring_spec.specs.Ring.{total}
use Rattle.gadget_spec.specs.Digits.{base_digit}

pub next_weight : (b i : ℕ) → 2 ^ (b * suc i) ≡ 2 ^ (b + b * i)
next_weight b i = ap (λ (x : ℕ). 2 ^ x) (omega arith)

pub base_sum : (b j x : ℕ) → total j (λ i. pos (2 ^ (b * i)) *ℤ pos (base_digit b i x)) ≡ pos (x % 2 ^ (b * j))
unfolding total base_digit
base_sum b zero x =
    let e : 2 ^ (b * 0) ≡ 1 = ap (λ (y : ℕ). 2 ^ y) (let e' : b * 0 ≡ 0 = omega arith in e') in
    ap pos (sym (ap (λ (y : ℕ). x % y) e ∙ omega arith))
base_sum b (suc j) x =
    ap (λ (z : ℤ). z +ℤ pos (2 ^ (b * j)) *ℤ pos (x / 2 ^ (b * j) % 2 ^ b)) (base_sum b j x)
    ∙ ap pos (sym (ap (λ (y : ℕ). x % y) (next_weight b j) ∙ mod-pow-add x b (b * j) ∙ omega arith))

-- a digit is below 2^b
pub base_digit_below : (b i x : ℕ) → base_digit b i x ≤ 2 ^ b - 1
unfolding base_digit
base_digit_below b i x = let p : 0 < 2 ^ b = pow_pos b in omega (arith, p)
