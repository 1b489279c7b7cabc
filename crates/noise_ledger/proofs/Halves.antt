-- The divisions by 2 in the bounds leave nothing over, since n is even.
use Rattle.std.proofs.Common.{◌≡◌, ℕ, ◌+◌, ◌*◌, ◌/◌, ◌%◌, ◌^◌, ◌≤◌, inl, inr, arith, ap, ◌∙◌}
use Rattle.std.specs.Prelude.{IsTrue}
use Rattle.std.specs.Int.{is_power_of_two}
use Rattle.std.specs.Int.RustNames.{count_ones}
use Rattle.std.proofs.lemmas.Nat.{ones_cat, zero_from_ones}
use Rattle.std.proofs.lemmas.Bool.{cases_eq, eqb-true}
use Rattle.param_set.specs.declared.params.Params.{Params}
use Rattle.param_set.specs.Numbers.{numbers_of}
use Rattle.noise_ledger.specs.Bounds.{weight}

-- a power of two from 2 on is even: of its binary digits one alone is set, and it isn't the last
power_even : (n : ℕ) → 2 ≤ n → IsTrue (is_power_of_two n) → n % 2 ≡ 0
power_even n two one =
    let a : ℕ = n / 2 in
    let r : ℕ = n % 2 in
    let digits : n ≡ a * 2 ^ 1 + r = omega arith in
    let count : count_ones n ≡ count_ones a + count_ones r = ap count_ones digits ∙ ones_cat 1 a r (omega arith) in
    elim (cases_eq r 0) [
      | inl even ↦ even
      | inr odd ↦
          let some : count_ones r ≡ 0 → ⊥ = λ h. odd (zero_from_ones r h) in
          let rest : a ≡ 0 = zero_from_ones a (omega (arith, count, eqb-true (count_ones n) 1 one, some)) in
          absurd (omega (arith, rest, two))
    ]

-- so n * N is twice n / 2 * N
weight_even : (p : Params) → weight (numbers_of p) ≡ 2 * (p.n / 2 * p.parties)
weight_even p =
    let even = power_even p.n (omega (arith, p.degree)) p.degree.2 in
    let twice : p.n ≡ 2 * (p.n / 2) = omega (arith, even) in
    ap (λ (n : ℕ). n * p.parties) twice ∙ omega arith

pub wraps_exact : (p : Params) → 2 * (weight (numbers_of p) / 2) ≡ weight (numbers_of p)
wraps_exact p = omega (arith, weight_even p)

pub rounding_exact : (p : Params) → 2 * ((weight (numbers_of p) + weight (numbers_of p) * weight (numbers_of p)) / 2) ≡ weight (numbers_of p) + weight (numbers_of p) * weight (numbers_of p)
rounding_exact p =
    let w : ℕ = weight (numbers_of p) in
    let h : ℕ = p.n / 2 * p.parties in
    let square : w * w ≡ 2 * (h * w) = ap (λ (x : ℕ). x * w) (weight_even p) ∙ omega arith in
    omega (arith, weight_even p, square)
