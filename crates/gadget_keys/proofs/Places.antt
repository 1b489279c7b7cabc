-- Where the digits of a residue lie, and what is added to raise them.
use Rattle.std.proofs.Common.{◌≡◌, ℕ, zero, suc, ◌+◌, ◌-◌, ◌*◌, ◌%◌, ◌^◌, ◌≤◌, ◌<◌, refl, ap, ◌∙◌, inl, inr, arith}
use Rattle.std.proofs.Math.Nat.{pow-le-pow_right, mod-eq_of_lt}
use Rattle.std.proofs.lemmas.Nat.{pow_pos, pow-add, mul-le}
use Rattle.std.proofs.lemmas.Bool.{cases_lt}
use Rattle.std.proofs.lemmas.Grind.{div_ceil_times}
use Rattle.param_set.specs.Moduli.{binary_digits, digit_rows}
use Rattle.param_set.specs.declared.params.Params.{Params}
use Rattle.param_set.proofs.Digits.{digits_around, few_rows}
use Rattle.gadget_laws.specs.Shifted.{halves}
use Rattle.gadget_laws.proofs.BaseDigits.{next_weight}
use Rattle.gadget_laws.proofs.BalancedDigits.{half_power}

-- a number below 2^55 has at most 55 binary digits
few_binary : (q : ℕ) → 0 < q → q < 2 ^ 55 → binary_digits q ≤ 55
few_binary q some below =
    let around = digits_around q (binary_digits q) some (omega (arith, below)) refl in
    elim (cases_lt 55 (binary_digits q)) [
      | inl many ↦
          let last : 55 ≤ binary_digits q - 1 = omega (arith, many) in
          absurd (let more : 2 ^ 55 ≤ 2 ^ (binary_digits q - 1) = pow-le-pow_right (omega arith) last in omega (arith, more, below, around.1))
      | inr few ↦ few
    ]

-- the digits end below 71 places
pub places_within : (q b : ℕ) → 0 < q → q < 2 ^ 55 → 1 ≤ b → b ≤ 16 → b * digit_rows q b ≤ 70
places_within q b some below least most =
    let times = div_ceil_times (binary_digits q) b least in
    omega (arith, times.1, few_binary q some below)

-- and each begins below 55
pub place_within : (q b row : ℕ) → 0 < q → q < 2 ^ 55 → 1 ≤ b → row < digit_rows q b → b * row < 55
place_within q b row some below least within =
    let times = div_ceil_times (binary_digits q) b least in
    let more : (row + 1) * b ≤ digit_rows q b * b = mul-le (row + 1) b (digit_rows q b) b (omega (arith, within)) (omega arith) in
    omega (arith, times.1, more, few_binary q some below)

-- a row of the first ones begins no later than they end
pub place_before : (b row rows : ℕ) → row < rows → b * row + b ≤ b * rows
place_before b row rows l =
    let more : b * (row + 1) ≤ b * rows = mul-le b (row + 1) b rows (omega arith) (omega (arith, l)) in
    omega (arith, more)

-- ---- halves

pub halves_next : (b i : ℕ) → halves b (i + 1) ≡ halves b i + 2 ^ (b * i) * 2 ^ (b - 1)
unfolding halves
halves_next b i = ap (halves b) (let e : i + 1 ≡ suc i = omega arith in e)

pub halves_bound : (b l : ℕ) → 1 ≤ b → halves b l ≤ 2 ^ (b * l)
unfolding halves
halves_bound b zero h = omega arith
halves_bound b (suc l) h =
    let w = 2 ^ (b * l) in let u = 2 ^ (b - 1) in
    let e : 2 ^ (b * suc l) ≡ 2 * (w * u) = next_weight b l ∙ pow-add 2 b (b * l) ∙ ap (λ x. x * w) (half_power b h) ∙ omega arith in
    let some : w * 1 ≤ w * u = mul-le w 1 w u (omega arith) (pow_pos (b - 1)) in
    omega (arith, e, some, halves_bound b l h)

-- at most 2^70 where digits end there
pub halves_within : (b l : ℕ) → 1 ≤ b → b * l ≤ 70 → halves b l ≤ 2 ^ 70
halves_within b l h few =
    let more : 2 ^ (b * l) ≤ 2 ^ 70 = pow-le-pow_right (omega arith) few in
    omega (arith, more, halves_bound b l h)

-- twice the halves cover a modulus of which the rows hold the digits
pub halves_cover : (q b l : ℕ) → 1 ≤ b → q < 2 ^ (b * l) → q ≤ 2 * halves b l
unfolding halves
halves_cover q b zero h below =
    let e : 2 ^ (b * 0) ≡ 1 = ap (λ (y : ℕ). 2 ^ y) (let e' : b * 0 ≡ 0 = omega arith in e') in
    omega (arith, e, below)
halves_cover q b (suc l) h below =
    let w = 2 ^ (b * l) in let u = 2 ^ (b - 1) in
    let e : 2 ^ (b * suc l) ≡ 2 * (w * u) = next_weight b l ∙ pow-add 2 b (b * l) ∙ ap (λ x. x * w) (half_power b h) ∙ omega arith in
    omega (arith, e, below)

-- the halves of one more row
pub halves_room : (b i l : ℕ) → 1 ≤ b → i < l → b * l ≤ 70 → halves b i + 2 ^ (b * i) * 2 ^ (b - 1) ≤ 2 ^ 70
halves_room b i l h within few =
    let more : b * (i + 1) ≤ b * l = mul-le b (i + 1) b l (omega arith) (omega (arith, within)) in
    omega (arith, halves_next b i, halves_within b (i + 1) h (omega (arith, more, few)))

-- a shift makes a half
pub half_is : (b i : ℕ) → b ≤ 16 → b * i ≤ 70 → 1 * 2 ^ (b * i + (b - 1)) % 340282366920938463463374607431768211456 ≡ 2 ^ (b * i) * 2 ^ (b - 1)
half_is b i most few =
    let within : b * i + (b - 1) ≤ 86 = omega (arith, most, few) in
    let small : 2 ^ (b * i + (b - 1)) ≤ 2 ^ 86 = pow-le-pow_right (omega arith) within in
    let small' : 1 * 2 ^ (b * i + (b - 1)) < 340282366920938463463374607431768211456 = omega (arith, small) in
    mod-eq_of_lt small' ∙ (let e : 1 * 2 ^ (b * i + (b - 1)) ≡ 2 ^ (b * i + (b - 1)) = omega arith in e) ∙ pow-add 2 (b * i) (b - 1)

pub rows_few : (p : Params) → digit_rows p.q p.digit_bits ≤ 55
rows_few p =
    let around = digits_around p.q (binary_digits p.q) (omega (arith, p.modulus.0)) (omega (arith, p.modulus.1)) refl in
    few_rows p.q (binary_digits p.q) p.digit_bits (digit_rows p.q p.digit_bits) p.modulus.1 around.1 p.noise.0 refl
