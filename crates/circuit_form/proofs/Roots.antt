-- A root for each n: psi, squared once for each halving of 4096 down to n.
use Rattle.std.proofs.Common.{◌≡◌, ℕ, zero, suc, ◌+◌, ◌-◌, ◌*◌, ◌/◌, ◌%◌, ◌^◌, ◌<◌, ◌≤◌, refl, sym, ◌∙◌, ap, arith}
use Rattle.std.specs.Prelude.{IsTrue}
use Rattle.std.specs.Int.{is_power_of_two}
use Rattle.std.proofs.Math.Nat.{pow-zero, pow-suc}
use Rattle.std.proofs.lemmas.Nat.{pow-add, pow_pos, mul-le}
use Rattle.ring_ntt.proofs.PowersOfTwo.{levels_within}
use Rattle.ring_ntt.proofs.Reversal.{square-power}
use Rattle.circuit_form.specs.Products.{wide_modulus}

-- psi^4096 is -1
pub psi_is_root : 3391169269051246823 ^ 4096 % wide_modulus ≡ wide_modulus - 1
psi_is_root = refl

-- a power of two up to 4096 is reached from 4096 by halvings
pub halvings : (n : ℕ) → 2 ≤ n → n ≤ 4096 → IsTrue (is_power_of_two n) → (j : ℕ) × (4096 ≡ n * 2 ^ j)
halvings n two few one =
    let r = levels_within n two few one in
    let d : ℕ = r.0 in
    let whole : d + (12 - d) ≡ 12 = omega (arith, r.2) in
    (12 - d, sym (ap (λ z. z * 2 ^ (12 - d)) r.3 ∙ sym (pow-add 2 d (12 - d)) ∙ ap (λ z. 2 ^ z) whole))

-- one halving less, where there is one
pub halved : (n m : ℕ) → n < m → (j : ℕ) × (m ≡ n * 2 ^ j) → (j : ℕ) × (m / 2 ≡ n * 2 ^ j)
halved n m l (zero, e) = absurd (let p = pow-zero 2 in omega (arith, e, p, l))
halved n m l (suc j, e) =
    let p = ap (λ z. n * z) (pow-suc 2 j) in
    (j, omega (arith, e, p))

-- the square of a root has the power -1 at half the degree
pub root_squared : (q r n m : ℕ) → n < m → (j : ℕ) × (m ≡ n * 2 ^ j) → r ^ m % q ≡ q - 1 → (r * r % q) ^ (m / 2) % q ≡ q - 1
root_squared q r n m l (zero, e) h = absurd (let p = pow-zero 2 in omega (arith, e, p, l))
root_squared q r n m l (suc j, e) h =
    let p = ap (λ z. n * z) (pow-suc 2 j) in
    let double : 2 * (m / 2) ≡ m = omega (arith, e, p) in
    square-power q r (m / 2) ∙ ap (λ z. r ^ z % q) double ∙ h

-- where no halving is left the degree is n
pub root_reached : (n m : ℕ) → m ≤ n → 0 < n → (j : ℕ) × (m ≡ n * 2 ^ j) → m ≡ n
root_reached n m l some (zero, e) = let p = pow-zero 2 in omega (arith, e, p)
root_reached n m l some (suc j, e) =
    let p = ap (λ z. n * z) (pow-suc 2 j) in
    let least : n * 1 ≤ n * 2 ^ j = mul-le n 1 n (2 ^ j) (omega arith) (omega (arith, pow_pos j)) in
    omega (arith, e, l, p, least)
