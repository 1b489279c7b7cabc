-- A number by its two words, each as a multiple of its residue.
use Rattle.std.proofs.Common.{◌≡◌, ℕ, ◌+◌, ◌*◌, ◌%◌, ◌^◌, ◌∙◌, ap, arith}
use Rattle.std.proofs.Math.Nat.{mod-mod, add-mod}
use Rattle.std.proofs.lemmas.Nat.{mul-mod}

-- a factor may be its residue or not
pub by_residue : (q w x : ℕ) → (w % q) * x % q ≡ w * x % q
by_residue q w x = let e = mul-mod w x q in let f = mul-mod (w % q) x q in let g = mod-mod w q in cc

pub word_is : (q u x : ℕ) → u ≡ 1 % q → u * x % q ≡ x % q
word_is q u x e =
    ap (λ z. z * x % q) e ∙ by_residue q 1 x ∙ ap (λ z. z % q) (omega arith)

pub wide_is : (q u c low high a b : ℕ) → u ≡ 1 % q → c ≡ 2 ^ 64 % q → a % q ≡ u * low % q → b % q ≡ c * high % q →
    (a + b) % q ≡ (low + 2 ^ 64 * high) % q
wide_is q u c low high a b eu ec ea eb =
    let first : a % q ≡ low % q = ea ∙ word_is q u low eu in
    let second : b % q ≡ 2 ^ 64 * high % q = eb ∙ ap (λ z. z * high % q) ec ∙ by_residue q (2 ^ 64) high in
    let l = add-mod a b q in
    let r = add-mod low (2 ^ 64 * high) q in
    cc
