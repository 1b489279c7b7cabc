-- The numbers that tables keep: the inverse of a root, of 2^t, and the number of levels.
use Rattle.std.proofs.Common.{◌≡◌, ℕ, zero, suc, ◌+◌, ◌-◌, ◌*◌, ◌/◌, ◌%◌, ◌^◌, ◌<◌, ◌≤◌, refl, sym, ◌∙◌, ap, arith, w64}
use Rattle.std.proofs.Math.Nat.{pow-suc, mod-mod, mod-eq_of_lt}
use Rattle.std.proofs.lemmas.Nat.{mod_below, mul-pow}
use Rattle.std.specs.Int.{trailing_zeros}
use lib.Count.{count_trailing_zeros}
use borrow.Author.Count.{below_none, below_more}
use Rattle.ring_ntt.proofs.Congruence.{mul_same, pow_same, shift_same}
use Rattle.ring_ntt.proofs.Values.{negative, one-pow, minus_squared}

-- root * root^(n-1) is -1
next_is_minus_one : (q n root : ℕ) → 1 < q → 0 < n → root ^ n % q ≡ q - 1 → (root * (root ^ (n - 1) % q)) % q ≡ (q - 1) % q
next_is_minus_one q n root l some e =
    let small : (q - 1) % q ≡ q - 1 = mod-eq_of_lt (omega arith) in
    let whole : n ≡ suc (n - 1) = omega arith in
    let g : root * root ^ (n - 1) ≡ root ^ n =
    (let h : root * root ^ (n - 1) ≡ root ^ (n - 1) * root = omega arith in h) ∙ sym (pow-suc root (n - 1)) ∙ ap (λ z. root ^ z) (sym whole) in
    mul_same q root root (root ^ (n - 1) % q) (root ^ (n - 1)) refl (mod-mod (root ^ (n - 1)) q) ∙ ap (λ z. z % q) g ∙ e ∙ sym small

pub not_zero : (q n root r : ℕ) → 1 < q → 0 < n → root ^ n % q ≡ q - 1 → r ≡ root ^ (n - 1) % q → 0 < r
not_zero q n root zero l some e h =
    let small : (q - 1) % q ≡ q - 1 = mod-eq_of_lt (omega arith) in
    let none : root * 0 ≡ 0 = omega arith in
    let zero_is : 0 % q ≡ q - 1 = ap (λ z. z % q) (sym none) ∙ ap (λ z. (root * z) % q) h ∙ next_is_minus_one q n root l some e ∙ small in
    let nothing : 0 % q ≡ 0 = mod-eq_of_lt (omega arith) in
    absurd (omega (arith, zero_is, nothing))
not_zero q n root (suc r) l some e h = omega arith

pub root_inverse : (q n root r : ℕ) → 1 < q → 0 < n → root ^ n % q ≡ q - 1 → r ≡ root ^ (n - 1) % q → (root * (q - r)) % q ≡ 1
root_inverse q n root r l some e h =
    let below : r < q = rw h (mod_below (root ^ (n - 1)) q (omega arith)) in
    mul_same q root root (q - r) (r * (q - 1)) refl (sym (negative q (q - 1) r (omega arith) below))
    ∙ ap (λ z. z % q) (let g : root * (r * (q - 1)) ≡ root * r * (q - 1) = omega arith in g)
    ∙ mul_same q (root * r) (q - 1) (q - 1) (q - 1) (ap (λ z. (root * z) % q) h ∙ next_is_minus_one q n root l some e) refl
    ∙ minus_squared q (q - 1) (omega arith)
    ∙ mod-eq_of_lt l

pub half_power : (q t h : ℕ) → 1 < q → q % 2 ≡ 1 → h ≡ (q / 2 + 1) ^ t % q → h * 2 ^ t % q ≡ 1
half_power q t h l odd e =
    let one : (q / 2 + 1) * 2 ≡ 1 + 1 * q = omega (arith, odd) in
    mul_same q h ((q / 2 + 1) ^ t) (2 ^ t) (2 ^ t) (ap (λ z. z % q) e ∙ mod-mod ((q / 2 + 1) ^ t) q) refl
    ∙ ap (λ z. z % q) (sym (mul-pow (q / 2 + 1) 2 t))
    ∙ pow_same q ((q / 2 + 1) * 2) 1 t (shift_same q ((q / 2 + 1) * 2) 1 0 1 (omega (arith, one)))
    ∙ ap (λ z. z % q) (one-pow t)
    ∙ mod-eq_of_lt l

-- how many times 2 divides a power of 2
abbrev PowerCounts : ℕ → Type 0
PowerCounts d = trailing_zeros w64 (2 ^ d) ≡ d

each_power : (d : ℕ) → d < 13 → PowerCounts d
unfolding count_trailing_zeros
each_power =
    below_more PowerCounts 12 (below_more PowerCounts 11 (below_more PowerCounts 10 (below_more PowerCounts 9 (below_more PowerCounts 8 (below_more PowerCounts 7 (below_more PowerCounts 6 (below_more PowerCounts 5 (below_more PowerCounts 4 (below_more PowerCounts 3 (below_more PowerCounts 2 (below_more PowerCounts 1 (below_more PowerCounts 0 (below_none PowerCounts) refl) refl) refl) refl) refl) refl) refl) refl) refl) refl) refl) refl) refl

pub trailing_power : (d : ℕ) → d ≤ 12 → trailing_zeros w64 (2 ^ d) ≡ d
trailing_power d l = each_power d (omega arith)
