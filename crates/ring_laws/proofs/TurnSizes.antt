-- The size of the image under X to X^g, for g odd and n a power of two: each place takes one coefficient.
use Rattle.std.proofs.Common.{◌≡◌, ℕ, zero, suc, ◌+◌, ◌-◌, ◌*◌, ◌/◌, ◌%◌, ◌^◌, ◌≤◌, ◌<◌, List, sym, ap, ◌∙◌, inl, inr, arith}
use Rattle.std.specs.Prelude.{ℤ, pos, ◌*ℤ◌, unsigned_abs}
use Rattle.std.proofs.lemmas.Bool.{cases_eq}
use Rattle.std.proofs.lemmas.Int.{unsigned_abs-mul}
use Rattle.std.proofs.lemmas.Nat.{mul-le, mod-mul-add, mul-mod_first, pow_pos, pow-add}
use Rattle.std.proofs.Math.Nat.{pow-suc, pow-succ', pow-zero}
use Rattle.ring_spec.specs.Ring.{total, turned, IsPoly, IsWithin, size, ring_turned, centred}
use Rattle.ring_laws.proofs.Integers.{abs_sum}
use Rattle.ring_laws.proofs.Totals.{total_same, total_zero}
use Rattle.ring_laws.proofs.Powers.{unit, power, unit_one, unit_minus, unit_none}
use Rattle.ring_laws.proofs.Turns.{turned_is, turned_agrees, turned_poly}
use Rattle.ring_laws.proofs.Sizes.{centred_agrees, centred_within, size_within}
use borrow.Author.Differences.{ints}

nothing : (z : ℤ) → unsigned_abs z ≡ 0 → z ≡ pos 0
nothing z e = omega (arith, ints)

-- a sum of which at most one term is not 0 is within what each term is within
pub total_one : (n v : ℕ) (f : ℕ → ℤ) → ((i : ℕ) → i < n → unsigned_abs (f i) ≤ v) → ((i j : ℕ) → i < n → j < n → 0 < unsigned_abs (f i) → 0 < unsigned_abs (f j) → i ≡ j) → unsigned_abs (total n f) ≤ v
unfolding total
total_one zero v f h one = omega arith
total_one (suc n) v f h one = elim (cases_eq (unsigned_abs (f n)) 0) [
  | inl e ↦ omega (arith, abs_sum (total n f) (f n), total_one n v f (λ i l. h i (omega arith)) (λ i j l l' p p'. one i j (omega arith) (omega arith) p p'))
  | inr ne ↦
      let rest : total n f ≡ pos 0 =
      total_same n f (λ i. pos 0) (λ i l. nothing (f i) (elim (cases_eq (unsigned_abs (f i)) 0) [
        | inl e ↦ e
        | inr ne' ↦ absurd (let e : i ≡ n = one i n (omega arith) (omega arith) (omega arith) (omega arith) in omega arith)
      ]))
      ∙ total_zero n in
      omega (arith, abs_sum (total n f) (f n), h n (omega arith), ap unsigned_abs rest)
]

unit_within : (n r k : ℕ) → 0 < n → unsigned_abs (unit n r k) ≤ 1
unit_within n r k h = elim (cases_eq r k) [
  | inl e ↦ rw (unit_one n r k e) (omega arith)
  | inr ne ↦ elim (cases_eq r (k + n)) [
    | inl e ↦ rw (unit_minus n r k h e) (omega arith)
    | inr ne' ↦ rw (unit_none n r k ne ne') (omega arith)
  ]
]

-- where X^p has a coefficient at k that is not 0, k is p modulo n
power_place : (n p k : ℕ) → k < n → 0 < unsigned_abs (power n p k) → p % n ≡ k
power_place n p k h l =
    let r = p % (2 * n) in
    elim (cases_eq r k) [
      | inl e ↦ ap (λ (x : ℕ). x % n) (let e' : p ≡ 2 * (p / (2 * n)) * n + k = omega (arith, e) in e') ∙ mod-mul-add (2 * (p / (2 * n))) n k h
      | inr ne ↦ elim (cases_eq r (k + n)) [
        | inl e ↦ ap (λ (x : ℕ). x % n) (let e' : p ≡ (2 * (p / (2 * n)) + 1) * n + k = omega (arith, e) in e') ∙ mod-mul-add (2 * (p / (2 * n)) + 1) n k h
        | inr ne' ↦ absurd (omega (arith, ap unsigned_abs (unit_none n r k ne ne')))
      ]
    ]

-- an odd number to the power 2^d is 1 modulo 2^(d+1)
pub odd_power : (g d : ℕ) → g % 2 ≡ 1 → (y : ℕ) × (g ^ (2 ^ d) ≡ 1 + 2 * 2 ^ d * y)
odd_power g zero h = (g / 2, pow-suc g 0 ∙ ap (λ (x : ℕ). x * g) (pow-zero g) ∙ (omega arith))
odd_power g (suc d) h =
    let c = odd_power g d h in
    let m = 2 ^ d in
    let e : 2 ^ suc d ≡ m + m = omega (arith, pow-suc 2 d) in (
      c.0 + m * c.0 * c.0,
      ap (λ (x : ℕ). g ^ x) e ∙ pow-add g m m ∙ ap (λ (x : ℕ). x * g ^ m) c.1 ∙ ap (λ (x : ℕ). (1 + 2 * m * c.0) * x) c.1
          ∙ (let e' : (1 + 2 * m * c.0) * (1 + 2 * m * c.0) ≡ 1 + 2 * (m + m) * (c.0 + m * c.0 * c.0) = omega arith in e')
          ∙ ap (λ (x : ℕ). 1 + 2 * x * (c.0 + m * c.0 * c.0)) (sym e),
    )

-- so multiples of an odd number at different places below n = 2^d differ modulo n
pub odd_places : (g d i j : ℕ) → g % 2 ≡ 1 → i < 2 ^ d → j < 2 ^ d → i * g % 2 ^ d ≡ j * g % 2 ^ d → i ≡ j
odd_places g d i j h l l' e = sym (back i l) ∙ ap (λ (x : ℕ). x * g ^ (2 ^ d - 1) % 2 ^ d) e ∙ back j l'
  where
    back : (i : ℕ) → i < 2 ^ d → (i * g % 2 ^ d) * g ^ (2 ^ d - 1) % 2 ^ d ≡ i
    back i l =
        let c = odd_power g d h in
        let n = 2 ^ d in
        let k = g ^ (2 ^ d - 1) in
        let e₁ : 2 ^ d ≡ suc (2 ^ d - 1) = omega (arith, pow_pos d) in
        let e₂ : g * k ≡ 1 + 2 * n * c.0 = sym (pow-succ' g (2 ^ d - 1)) ∙ ap (λ (x : ℕ). g ^ x) (sym e₁) ∙ c.1 in
        let e₃ : i * g * k ≡ i * (g * k) = omega arith in
        let e₄ : i * (1 + 2 * n * c.0) ≡ i * 2 * c.0 * n + i = omega arith in
        mul-mod_first (i * g) k n ∙ ap (λ (x : ℕ). x % n) (e₃ ∙ ap (λ (x : ℕ). i * x) e₂ ∙ e₄) ∙ mod-mul-add (i * 2 * c.0) n i l

-- the image of a polynomial within v is within v
pub turned_within : (d g v : ℕ) (a : ℕ → ℤ) → g % 2 ≡ 1 → IsWithin (2 ^ d) v a → IsWithin (2 ^ d) v (turned (2 ^ d) g a)
turned_within d g v a odd h k l =
    rw (turned_is (2 ^ d) g a k l)
    (total_one (2 ^ d) v (λ i. a i *ℤ power (2 ^ d) (i * g) k)
    (λ i p. omega (arith, unsigned_abs-mul (a i) (power (2 ^ d) (i * g) k), mul-le (unsigned_abs (a i)) (unsigned_abs (power (2 ^ d) (i * g) k)) v 1 (h i p) (unit_within (2 ^ d) (i * g % (2 * 2 ^ d)) k (omega arith))))
    (λ i j p r s t. odd_places g d i j odd p r (place i s ∙ sym (place j t))))
  where
    place : (i : ℕ) → 0 < unsigned_abs (a i *ℤ power (2 ^ d) (i * g) k) → i * g % 2 ^ d ≡ k
    place i s = power_place (2 ^ d) (i * g) k l (elim (cases_eq (unsigned_abs (power (2 ^ d) (i * g) k)) 0) [
      | inl e ↦ absurd (omega (arith, unsigned_abs-mul (a i) (power (2 ^ d) (i * g) k), ap (λ (x : ℕ). unsigned_abs (a i) * x) e))
      | inr ne ↦ omega arith
    ])

-- the size of an image is at most the size
pub size_turned : (q n d g : ℕ) (f : List ℕ) → 0 < q → n ≡ 2 ^ d → g % 2 ≡ 1 → IsPoly q n f → size q (ring_turned q n g f) ≤ size q f
size_turned q n d g f h e odd p =
    size_within (size q f) (ring_turned q n g f) (turned n g (centred q f)) (turned_poly q n g f h)
    (turned_agrees g f h (centred_agrees q n f))
    (rw e (turned_within d g (size q f) (centred q f) odd (rw e at (centred_within q n f p))))
