-- How many binary digits a number has, and how many digits of more bits.
use Rattle.std.proofs.Common.{◌≡◌, ℕ, zero, suc, ◌+◌, ◌-◌, ◌*◌, ◌^◌, ◌≤◌, ◌<◌, nat_le, leb-true, refl, sym, ◌∙◌, inl, inr, ap, arith}
use Rattle.std.specs.Int.{div_ceil, leading_zeros, w64}
use Rattle.std.proofs.Math.Nat.{pow-le-pow_right, le-mul_of_pos_right}
use Rattle.std.proofs.lemmas.Nat.{leading_top, mul-le}
use Rattle.std.proofs.lemmas.Bool.{cases_lt, le-leb, false_from_ne_true}
use Rattle.std.proofs.lemmas.Grind.{div_ceil_times}
use Rattle.param_set.specs.Moduli.{digits_up_to, binary_digits}

-- the number of digits is the only one with powers on both sides
only_one : (q r m : ℕ) → 1 ≤ r → r ≤ m → q < 2 ^ r → 2 ^ (r - 1) ≤ q → digits_up_to q m ≡ r
unfolding digits_up_to
only_one q r zero some few below top = absurd (omega (arith, some, few))
only_one q r (suc k) some few below top =
    elim (cases_lt q (2 ^ k)) [
      | inr within ↦ elim (cases_lt k r) [
        | inl last ↦ rw (le-leb (2 ^ k) q within) (omega (arith, last, few))
        | inr past ↦ absurd (let more : 2 ^ r ≤ 2 ^ k = pow-le-pow_right (omega arith) past in omega (arith, more, below, within))
      ]
      | inl above ↦ elim (cases_lt k r) [
        | inl last ↦ absurd (let same : r - 1 ≡ k = omega (arith, last, few) in let low : 2 ^ k ≤ q = rw (← same) top in omega (arith, low, above))
        | inr less ↦ rw (false_from_ne_true (nat_le (2 ^ k) q) (λ e. let low : 2 ^ k ≤ q = leb-true (2 ^ k) q e in absurd (omega (arith, low, above)))) (only_one q r k some less below top)
      ]
    ]

pub binary_digits_are : (q r : ℕ) → r ≤ 64 → 1 ≤ r → q < 2 ^ r → 2 ^ (r - 1) ≤ q → r ≡ binary_digits q
unfolding binary_digits
binary_digits_are q r few some below top = sym (only_one q r 64 some few below top)

-- what the number of leading zeros says of powers on both sides
pub zeros_around : (q r : ℕ) → 0 < q → q < 2 ^ 64 → r ≡ 64 - leading_zeros w64 q → (q < 2 ^ r) × (2 ^ (r - 1) ≤ q) × (1 ≤ r) × (r ≤ 64)
zeros_around q r some word e =
    let top = leading_top 64 q some word in
    let whole : r ≡ suc top.0 = omega (arith, e, top.1) in
    let less : r - 1 ≡ top.0 = omega (arith, whole) in
    (rw whole top.3, rw less top.2, omega (arith, whole), omega (arith, e))

pub digits_around : (q r : ℕ) → 0 < q → q < 2 ^ 64 → r ≡ binary_digits q → (q < 2 ^ r) × (2 ^ (r - 1) ≤ q)
digits_around q r some word e =
    let z = zeros_around q (64 - leading_zeros w64 q) some word refl in
    let same : r ≡ 64 - leading_zeros w64 q = e ∙ sym (binary_digits_are q (64 - leading_zeros w64 q) z.3 z.2 z.0 z.1) in
    (rw same z.0, rw same z.1)

-- below 2^55 there are at most 55
few_digits : (q r : ℕ) → q < 2 ^ 55 → 2 ^ (r - 1) ≤ q → r ≤ 55
few_digits q r below top = elim (cases_lt 55 r) [
  | inl many ↦
      let more : 55 ≤ r - 1 = omega (arith, many) in
      absurd (let h : 2 ^ 55 ≤ 2 ^ (r - 1) = pow-le-pow_right (omega arith) more in omega (arith, h, below, top))
  | inr few ↦ few
]

pub few_rows : (q r b rows : ℕ) → q < 2 ^ 55 → 2 ^ (r - 1) ≤ q → 1 ≤ b → rows ≡ div_ceil r b → rows ≤ 55
few_rows q r b rows below top some e =
    let times = div_ceil_times r b some in
    let few = few_digits q r below top in
    let product : rows * b ≡ div_ceil r b * b = ap (λ z. z * b) e in
    elim (cases_lt r rows) [
      | inl many ↦ absurd (omega (arith, times.1, product, mul-le (r + 1) b rows b (omega (arith, many)) (omega arith), le-mul_of_pos_right r some))
      | inr fine ↦ omega (arith, fine, few)
    ]

pub rows_hold : (q r b rows : ℕ) → q < 2 ^ r → 1 ≤ b → rows ≡ div_ceil r b → q < 2 ^ (b * rows)
rows_hold q r b rows below some e =
    let times = div_ceil_times r b some in
    let product : rows * b ≡ div_ceil r b * b = ap (λ z. z * b) e in
    let room : r ≤ b * rows = omega (arith, times.0, product) in
    let more : 2 ^ r ≤ 2 ^ (b * rows) = pow-le-pow_right (omega arith) room in
    omega (arith, below, more)
