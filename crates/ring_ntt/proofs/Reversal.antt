-- The numbers in bit-reversed order, and the powers that stand in that order.
use Rattle.std.proofs.Common.{◌≡◌, ℕ, zero, suc, ◌+◌, ◌-◌, ◌*◌, ◌%◌, ◌^◌, ◌<◌, ◌≤◌, List, [], ◌∷◌, ◌++◌, map, length, get_or, inl, inr, refl, sym, ◌∙◌, ap, arith, length-append, add-one}
use Rattle.std.proofs.Math.Nat.{pow-zero, pow-suc, mod-eq_of_lt}
use Rattle.std.proofs.lemmas.Nat.{pow_pos, mod_below, mul-mod_first, pow-mod, mul-pow, pow-add}
use Rattle.std.proofs.lemmas.List.{length-map, get_or-map, get_or_append_left, get_or-append_right, map-append}
use Rattle.std.proofs.lemmas.Bool.{cases_lt}
use Rattle.std.proofs.lemmas.Simd.{map-map}
use Rattle.ring_ntt.specs.Transform.{bit_reversed}
use Rattle.ring_ntt.specs.Nodes.{powers, multiple}

pub length-bit_reversed : (d : ℕ) → length (bit_reversed d) ≡ 2 ^ d
unfolding bit_reversed
length-bit_reversed zero = refl
length-bit_reversed (suc d) =
    let a = length-bit_reversed d in
    simp (length-append, length-map) (omega (arith, a, pow-suc 2 d))

-- the place of k among the numbers below 2^d
unfoldable pub reversed : ℕ → ℕ → ℕ
reversed d k = get_or (bit_reversed d) k 0

pub reversed_low : (d k : ℕ) → k < 2 ^ d → reversed (suc d) k ≡ 2 * reversed d k
unfolding reversed bit_reversed
reversed_low d k l =
    let n = length-bit_reversed d in
    let here : k < length (bit_reversed d) = omega (arith, n) in
    get_or_append_left (map (λ r. 2 * r) (bit_reversed d)) (map (λ r. 2 * r + 1) (bit_reversed d)) 0 k (omega (arith, length-map (bit_reversed d) (λ r. 2 * r)))
    ∙ get_or-map (λ r. 2 * r) (bit_reversed d) k 0 0 here

pub reversed_high : (d k : ℕ) → k < 2 ^ d → reversed (suc d) (2 ^ d + k) ≡ 2 * reversed d k + 1
unfolding reversed bit_reversed
reversed_high d k l =
    let n = length-bit_reversed d in
    let here : k < length (bit_reversed d) = omega (arith, n) in
    let e : (2 ^ d + k) - 2 ^ d ≡ k = omega arith in
    get_or-append_right (map (λ r. 2 * r) (bit_reversed d)) (map (λ r. 2 * r + 1) (bit_reversed d)) (2 ^ d) (2 ^ d + k) 0 (length-map (bit_reversed d) (λ r. 2 * r) ∙ n) (omega arith)
    ∙ ap (λ z. get_or (map (λ r. 2 * r + 1) (bit_reversed d)) z 0) e
    ∙ get_or-map (λ r. 2 * r + 1) (bit_reversed d) k 0 0 here

nothing_reversed : reversed zero 0 ≡ 0
unfolding reversed bit_reversed
nothing_reversed = refl

pub reversed_first : (d : ℕ) → reversed d 0 ≡ 0
reversed_first zero = nothing_reversed
reversed_first (suc d) = let e = reversed_first d in let g = reversed_low d 0 (pow_pos d) in omega (arith, e, g)

only_zero : (k b : ℕ) → k ≡ 0 → b ≡ 0 → 2 * reversed zero (2 * k + b) ≡ reversed zero k + b * 2 ^ zero
unfolding reversed bit_reversed
only_zero k b e f = simp (e, f) refl

one_or_less : (k b : ℕ) → k ≡ 0 → b < 2 → 2 * reversed 1 (2 * k + b) ≡ reversed 1 k + b * 2 ^ 1
unfolding reversed bit_reversed
one_or_less k zero e l = simp e refl
one_or_less k (suc zero) e l = simp e refl
one_or_less k (suc (suc b)) e l = absurd (omega arith)

-- what digit b, put below those of k, comes to: it stands above them
abbrev pub DigitRises : ℕ → ℕ → ℕ → Type 0
DigitRises d k b = 2 * reversed d (2 * k + b) ≡ reversed d k + b * 2 ^ d

reversed_upper : (d k b : ℕ) → ((j : ℕ) → 2 * j + b < 2 ^ suc d → DigitRises (suc d) j b) → 2 ^ suc d ≤ 2 * k + b → 2 * k + b < 2 ^ suc (suc d) → b < 2 → DigitRises (suc (suc d)) k b
reversed_upper d k b below g l s =
    let p1 = pow-suc 2 d in
    let p2 = pow-suc 2 (suc d) in
    let j : ℕ = k - 2 ^ d in
    let kj : k ≡ 2 ^ d + j = omega arith in
    let place : 2 * k + b ≡ 2 ^ suc d + (2 * j + b) = omega arith in
    let a1 : reversed (suc (suc d)) (2 * k + b) ≡ 2 * reversed (suc d) (2 * j + b) + 1 =
    ap (λ z. reversed (suc (suc d)) z) place ∙ reversed_high (suc d) (2 * j + b) (omega arith) in
    let a2 : reversed (suc (suc d)) k ≡ 2 * reversed (suc d) k = reversed_low (suc d) k (omega arith) in
    let a3 : reversed (suc d) k ≡ 2 * reversed d j + 1 =
    ap (λ z. reversed (suc d) z) kj ∙ reversed_high d j (omega arith) in
    let a4 : reversed (suc d) j ≡ 2 * reversed d j = reversed_low d j (omega arith) in
    let a5 : DigitRises (suc d) j b = below j (omega arith) in
    let scaled = ap (λ z. b * z) p2 in
    omega (arith, a1, a2, a3, a4, a5, scaled)

reversed_lower : (d k b : ℕ) → DigitRises d k b → 2 * k + b < 2 ^ d → DigitRises (suc d) k b
reversed_lower d k b below l =
    let p = pow-suc 2 d in
    let a1 : reversed (suc d) (2 * k + b) ≡ 2 * reversed d (2 * k + b) = reversed_low d (2 * k + b) l in
    let a2 : reversed (suc d) k ≡ 2 * reversed d k = reversed_low d k (omega arith) in
    let scaled = ap (λ z. b * z) p in
    omega (arith, a1, a2, below, scaled)

pub reversed-digit : (d k b : ℕ) → b < 2 → 2 * k + b < 2 ^ d → DigitRises d k b
reversed-digit zero k b s l = only_zero k b (omega arith) (omega arith)
reversed-digit (suc zero) k b s l = one_or_less k b (omega arith) s
reversed-digit (suc (suc d)) k b s l =
    elim (cases_lt (2 * k + b) (2 ^ suc d)) [
      | inl low ↦ reversed_lower (suc d) k b (reversed-digit (suc d) k b s low) low
      | inr high ↦ reversed_upper d k b (λ j m. reversed-digit (suc d) j b s m) high l s
    ]

-- ---- the table of powers

abbrev pub power_of : ℕ → ℕ → ℕ → ℕ
power_of q psi r = psi ^ r % q

map_along : (f g h : ℕ → ℕ) → ((r : ℕ) → f r ≡ g (h r)) → (xs : List ℕ) → map f xs ≡ map g (map h xs)
map_along f g h e [] = refl
map_along f g h e (x ∷ xs) = let a = e x in let b = map_along f g h e xs in cc

pub square-power : (q psi r : ℕ) → (psi * psi % q) ^ r % q ≡ psi ^ (2 * r) % q
square-power q psi r =
    let double : 2 * r ≡ r + r = omega arith in
    pow-mod (psi * psi) r q ∙ ap (λ z. z % q) (mul-pow psi psi r ∙ sym (pow-add psi r r) ∙ ap (λ z. psi ^ z) (sym double))

next-power : (q psi r : ℕ) → (psi * psi % q) ^ r % q * psi % q ≡ psi ^ (2 * r + 1) % q
next-power q psi r =
    let one_more : psi ^ (2 * r) * psi ≡ psi ^ (2 * r + 1) = rw add-one (sym (pow-suc psi (2 * r))) in
    ap (λ z. z * psi % q) (square-power q psi r) ∙ mul-mod_first (psi ^ (2 * r)) psi q ∙ ap (λ z. z % q) one_more

pub powers-in_order : (q d psi : ℕ) → 1 < q → powers q d psi ≡ map (power_of q psi) (bit_reversed d)
unfolding powers bit_reversed
powers-in_order q zero psi l = ap (λ z. z ∷ []) (sym (ap (λ z. z % q) (pow-zero psi) ∙ mod-eq_of_lt l))
powers-in_order q (suc d) psi l =
    let half : powers q d (psi * psi % q) ≡ map (power_of q (psi * psi % q)) (bit_reversed d) = powers-in_order q d (psi * psi % q) l in
    let even : map (power_of q (psi * psi % q)) (bit_reversed d) ≡ map (power_of q psi) (map (λ r. 2 * r) (bit_reversed d)) =
    map_along (power_of q (psi * psi % q)) (power_of q psi) (λ r. 2 * r) (square-power q psi) (bit_reversed d) in
    let odd : map (λ r. multiple q psi (power_of q (psi * psi % q) r)) (bit_reversed d) ≡ map (power_of q psi) (map (λ r. 2 * r + 1) (bit_reversed d)) =
    map_along (λ r. multiple q psi (power_of q (psi * psi % q) r)) (power_of q psi) (λ r. 2 * r + 1) (next-power q psi) (bit_reversed d) in
    let both : map (multiple q psi) (map (power_of q (psi * psi % q)) (bit_reversed d)) ≡ map (λ r. multiple q psi (power_of q (psi * psi % q) r)) (bit_reversed d) =
    map-map (multiple q psi) (power_of q (psi * psi % q)) (bit_reversed d) in
    ap (λ z. z ++ map (multiple q psi) z) half
    ∙ ap (λ z. map (power_of q (psi * psi % q)) (bit_reversed d) ++ z) (both ∙ odd)
    ∙ ap (λ z. z ++ map (power_of q psi) (map (λ r. 2 * r + 1) (bit_reversed d))) even
    ∙ sym (map-append (power_of q psi) (map (λ r. 2 * r) (bit_reversed d)) (map (λ r. 2 * r + 1) (bit_reversed d)))

pub length-powers : (q d psi : ℕ) → 1 < q → length (powers q d psi) ≡ 2 ^ d
length-powers q d psi l = ap length (powers-in_order q d psi l) ∙ length-map (bit_reversed d) (power_of q psi) ∙ length-bit_reversed d

pub powers_at : (q d psi k : ℕ) → 1 < q → k < 2 ^ d → get_or (powers q d psi) k 0 ≡ psi ^ reversed d k % q
unfolding reversed
powers_at q d psi k l below =
    let n = length-bit_reversed d in
    ap (λ z. get_or z k 0) (powers-in_order q d psi l) ∙ get_or-map (power_of q psi) (bit_reversed d) k 0 0 (omega (arith, n))

empty_table : (q psi : ℕ) → powers q zero psi ≡ 1 ∷ []
unfolding powers
empty_table q psi = refl

next_table : (q d psi : ℕ) → powers q (suc d) psi ≡ powers q d (psi * psi % q) ++ map (multiple q psi) (powers q d (psi * psi % q))
unfolding powers
next_table q d psi = refl

-- one step of the table
pub powers_none : (q d psi : ℕ) → d ≡ 0 → powers q d psi ≡ 1 ∷ []
powers_none q d psi e = ap (λ z. powers q z psi) e ∙ empty_table q psi

pub powers_more : (q d psi : ℕ) → 0 < d → powers q d psi ≡ powers q (d - 1) (psi * psi % q) ++ map (multiple q psi) (powers q (d - 1) (psi * psi % q))
powers_more q d psi l =
    let e : d ≡ suc (d - 1) = omega arith in
    ap (λ z. powers q z psi) e ∙ next_table q (d - 1) psi

pub powers_below : (q d psi k : ℕ) → 1 < q → k < length (powers q d psi) → get_or (powers q d psi) k 0 < q
powers_below q d psi k l h =
    let n = length-powers q d psi l in
    rw (powers_at q d psi k l (omega (arith, n))) (mod_below (psi ^ reversed d k) q (omega arith))
