-- How large the numbers are that bounds are made of.
use Rattle.std.proofs.Common.{◌≡◌, ℕ, ◌+◌, ◌-◌, ◌*◌, ◌%◌, ◌^◌, ◌<◌, ◌≤◌, arith, ap}
use Rattle.std.proofs.lemmas.Nat.{mul-le, one_shl}
use Rattle.std.proofs.Math.Nat.{pow-le-pow_right}

-- the greatest digit of so many bits
pub digit_is : (b : ℕ) → b ≤ 16 → 1 * 2 ^ b % 2 ^ 64 - 1 ≡ 2 ^ b - 1
digit_is b h = ap (λ x. x - 1) (one_shl b 64 (omega arith))

pub digit_small : (b : ℕ) → b ≤ 16 → 2 ^ b ≤ 65536
digit_small b h = pow-le-pow_right {n = 2} (omega arith) h

-- what a key switch adds, and the first part of a product's bound
pub switched_small : (l n d e : ℕ) → l ≤ 64 → n ≤ 4096 → d ≤ 65535 → e ≤ 2 ^ 31 → l * n * d * e ≤ 2 ^ 65
switched_small l n d e hl hn hd he =
    let rows : l * n ≤ 64 * 4096 = mul-le l n 64 4096 hl hn in
    let digits : l * n * d ≤ 64 * 4096 * 65535 = mul-le (l * n) d (64 * 4096) 65535 rows hd in
    let whole : l * n * d * e ≤ 64 * 4096 * 65535 * 2 ^ 31 = mul-le (l * n * d) e (64 * 4096 * 65535) (2 ^ 31) digits he in
    omega (arith, whole)

pub crossed_small : (n k t r v w : ℕ) → n ≤ 4096 → k ≤ 65537 → t ≤ 65537 → r < t → v ≤ 2 ^ 55 → w ≤ 2 ^ 55 → n * (k + 1) * (t * (v + w) + 2 * r * (t - 1)) ≤ 2 ^ 103
crossed_small n k t r v w hn hk ht hr hv hw =
    let both : v + w ≤ 2 ^ 56 = omega arith in
    let first : t * (v + w) ≤ 65537 * 2 ^ 56 = mul-le t (v + w) 65537 (2 ^ 56) ht both in
    let twice : 2 * r ≤ 131072 = omega arith in
    let less : t - 1 ≤ 65536 = omega arith in
    let second : 2 * r * (t - 1) ≤ 131072 * 65536 = mul-le (2 * r) (t - 1) 131072 65536 twice less in
    let noise : t * (v + w) + 2 * r * (t - 1) ≤ 2 ^ 73 = omega (arith, first, second) in
    let more : k + 1 ≤ 65538 = omega arith in
    let front : n * (k + 1) ≤ 4096 * 65538 = mul-le n (k + 1) 4096 65538 hn more in
    let whole : n * (k + 1) * (t * (v + w) + 2 * r * (t - 1)) ≤ 4096 * 65538 * 2 ^ 73 = mul-le (n * (k + 1)) (t * (v + w) + 2 * r * (t - 1)) (4096 * 65538) (2 ^ 73) front noise in
    omega (arith, whole)
