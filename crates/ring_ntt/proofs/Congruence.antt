-- Equality modulo q, as `a % q ≡ b % q`.
use Rattle.std.proofs.Common.{◌≡◌, ℕ, ◌+◌, ◌*◌, ◌%◌, ◌^◌, sym, ◌∙◌, ap}
use Rattle.std.proofs.Math.Nat.{add-mod, add-mul-mod_self_right}
use Rattle.std.proofs.lemmas.Nat.{mul-mod, pow-mod}

pub add_same : (q a b c d : ℕ) → a % q ≡ b % q → c % q ≡ d % q → (a + c) % q ≡ (b + d) % q
add_same q a b c d e h = let x = add-mod a c q in let y = add-mod b d q in cc

pub mul_same : (q a b c d : ℕ) → a % q ≡ b % q → c % q ≡ d % q → (a * c) % q ≡ (b * d) % q
mul_same q a b c d e h = let x = mul-mod a c q in let y = mul-mod b d q in cc

pub pow_same : (q a b k : ℕ) → a % q ≡ b % q → a ^ k % q ≡ b ^ k % q
pow_same q a b k e = sym (pow-mod a k q) ∙ ap (λ r. r ^ k % q) e ∙ pow-mod b k q

-- numbers that differ by a multiple of q
pub shift_same : (q a b s t : ℕ) → a + s * q ≡ b + t * q → a % q ≡ b % q
shift_same q a b s t e = sym (add-mul-mod_self_right a s q) ∙ ap (λ r. r % q) e ∙ add-mul-mod_self_right b t q
