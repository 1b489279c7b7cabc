-- Where the nodes of the tree stand in the tables.
use Rattle.std.proofs.Common.{◌≡◌, ℕ, suc, ◌+◌, ◌-◌, ◌*◌, ◌/◌, ◌^◌, ◌<◌, ◌≤◌, sym, ◌∙◌, ap, arith}
use Rattle.std.proofs.Math.Nat.{pow-suc, pow-le-pow_right}
use Rattle.ring_ntt.proofs.Undone.{half_within, low_within}

pub few_places : (t : ℕ) → t ≤ 12 → 2 ^ t ≤ 4096
few_places t l = let h : 2 ^ t ≤ 2 ^ 12 = pow-le-pow_right (omega arith) l in h

-- a block of 2^depth entries, two levels or more, stands above two of half as many
pub record AreHalves (t depth k d : ℕ) : Type 0 where
  pub below : depth ≡ suc d
  pub half : 2 ^ depth / 2 ≡ 2 ^ d
  pub double : 2 ^ depth ≡ 2 ^ d + 2 ^ d
  pub place : k < 2 ^ t
  pub left : (2 * k + 1) * 2 ^ d ≤ 2 * 2 ^ t
  pub right : (2 * k + 1 + 1) * 2 ^ d ≤ 2 * 2 ^ t

pub halves_of : (t depth k : ℕ) → 1 ≤ depth → (k + 1) * 2 ^ depth ≤ 2 * 2 ^ t → AreHalves t depth k (depth - 1)
halves_of t depth k l h =
    let d : ℕ = depth - 1 in
    let e : depth ≡ suc d = omega arith in
    let p : 2 ^ depth ≡ 2 ^ d * 2 = ap (λ z. 2 ^ z) e ∙ pow-suc 2 d in
    let within : (k + 1) * 2 ^ suc d ≤ 2 * 2 ^ t = rw (sym e) h in
    let even : 2 * k + 0 ≡ 2 * k = omega arith in
    let first = half_within t d k 0 (omega arith) within in
    record {
      below = e;
      half = omega (arith, p);
      double = omega (arith, p);
      place = low_within t d k within;
      left = rw even at first;
      right = half_within t d k 1 (omega arith) within;
    }
