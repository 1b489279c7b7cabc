-- A number with one binary digit set is a power of two.
use Rattle.std.proofs.Common.{◌≡◌, ℕ, zero, suc, ◌+◌, ◌*◌, ◌/◌, ◌%◌, ◌^◌, ◌<◌, ◌≤◌, inl, inr, sym, ◌∙◌, ap, arith}
use Rattle.std.specs.Prelude.{IsTrue}
use Rattle.std.specs.Int.{is_power_of_two}
use Rattle.std.specs.Int.RustNames.{count_ones}
use Rattle.std.proofs.Math.Nat.{pow-zero, pow-suc, pow-le-pow_right}
use Rattle.std.proofs.lemmas.Nat.{ones_cat, ones_le_self, zero_from_ones}
use Rattle.std.proofs.lemmas.Bool.{cases_eq, cases_lt, eqb-true}

power_within : (k n : ℕ) → n < 2 ^ k → count_ones n ≡ 1 → (d : ℕ) × (n ≡ 2 ^ d)
power_within zero n l e =
    let p = pow-zero 2 in
    absurd (omega (arith, p, e, ones_le_self n))
power_within (suc k) n l e =
    let a : ℕ = n / 2 in
    let r : ℕ = n % 2 in
    let p = pow-suc 2 k in
    let digits : n ≡ a * 2 ^ 1 + r = omega arith in
    let count : count_ones n ≡ count_ones a + count_ones r = ap count_ones digits ∙ ones_cat 1 a r (omega arith) in
    elim (cases_eq r 0) [
      | inl even ↦
          let half = power_within k a (omega (arith, p)) (omega (arith, count, e, even, ones_le_self r)) in
          (suc half.0, (let g : n ≡ 2 ^ half.0 * 2 = omega (arith, half.1, even) in g) ∙ sym (pow-suc 2 half.0))
      | inr odd ↦
          let single : r ≡ 1 = omega (arith, odd) in
          let some : count_ones r ≡ 0 → ⊥ = λ h. odd (zero_from_ones r h) in
          let rest : a ≡ 0 = zero_from_ones a (omega (arith, count, e, some)) in
          (zero, (let g : n ≡ 1 = omega (arith, rest, single) in g) ∙ sym (pow-zero 2))
    ]

-- from 2 to 4096 the exponent is from 1 to 12
pub levels_within : (n : ℕ) → 2 ≤ n → n ≤ 4096 → IsTrue (is_power_of_two n) → (d : ℕ) × (1 ≤ d) × (d ≤ 12) × (n ≡ 2 ^ d)
levels_within n two few one =
    let big : n < 2 ^ 13 = omega arith in
    let power = power_within 13 n big (eqb-true (count_ones n) 1 one) in
    let d : ℕ = power.0 in
    let e : n ≡ 2 ^ d = power.1 in (
      d,
      elim (cases_eq d 0) [ inl none ↦ absurd (let h : n ≡ 1 = e ∙ ap (λ z. 2 ^ z) none ∙ pow-zero 2 in omega (arith, h)) | inr some ↦ omega (arith, some) ],
      elim (cases_lt 12 d) [ inl many ↦ absurd (let h : 2 ^ 13 ≤ 2 ^ d = pow-le-pow_right (omega arith) many in omega (arith, h, e)) | inr fine ↦ fine ],
      e,
    )
