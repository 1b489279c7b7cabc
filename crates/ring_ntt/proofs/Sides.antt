-- Sums and products on both sides: of transforms entry by entry, and of polynomials.
use Rattle.std.proofs.Common.{◌≡◌, ℕ, ◌+◌, ◌*◌, ◌%◌, ◌^◌, ◌<◌, List, length, get_or, refl, sym, ◌∙◌, ap, arith}
use Rattle.std.proofs.Math.Nat.{mod-mod}
use Rattle.std.proofs.lemmas.Nat.{mod_below}
use Rattle.std.proofs.lemmas.List.Elements.{All-from_get_or}
use Rattle.std.proofs.lemmas.List.FromFn.{fill_by_all, get_or-map-range_with_len, length-map-range_with_len}
use Rattle.std.proofs.lemmas.Grind.{same_number_lists}
use Rattle.ring_spec.specs.Ring.{IsPoly, residue, residues, plus, coefficient, ring_sum, ring_product}
use Rattle.ring_ntt.specs.Transform.{value, monomial, entry, value_at, transform, entrywise, inverse_transform}
use Rattle.ring_ntt.proofs.Congruence.{add_same, mul_same}
use Rattle.ring_ntt.proofs.Sums.{sum_same, sum-add}
use Rattle.ring_ntt.proofs.Reversal.{reversed}
use Rattle.ring_ntt.proofs.Laws.{length-transform, transform_at, entrywise-transform, ring_product-poly}
use Rattle.ring_ntt.proofs.Interpolation.{HasRoot, inverse_transform-transform, transform-inverse_transform}

sum_entry : (q n i : ℕ) (f g : List ℕ) → i < n → entry (ring_sum q n f g) i ≡ (entry f i + entry g i) % q
unfolding ring_sum residues residue
sum_entry q n i f g l = get_or-map-range_with_len (λ k. residue q (plus (coefficient f) (coefficient g) k)) 0 n i i 0 l (omega arith)

length-ring_sum : (q n : ℕ) (f g : List ℕ) → length (ring_sum q n f g) ≡ n
unfolding ring_sum residues
length-ring_sum q n f g = length-map-range_with_len (λ k. residue q (plus (coefficient f) (coefficient g) k)) 0 n

pub ring_sum-poly : (q n : ℕ) (f g : List ℕ) → 0 < q → IsPoly q n (ring_sum q n f g)
ring_sum-poly q n f g l = record {
  entries = length-ring_sum q n f g;
  below = All-from_get_or (λ x. x < q) (ring_sum q n f g) 0
      (λ i h. let m = length-ring_sum q n f g in
      rw (sum_entry q n i f g (omega (arith, m))) (mod_below (entry f i + entry g i) q l));
}

pub ring_sum-is : (q n : ℕ) (f g x : List ℕ) → length x ≡ n → ((k : ℕ) → k < n → get_or x k 0 ≡ (get_or f k 0 + get_or g k 0) % q) → x ≡ ring_sum q n f g
unfolding ring_sum residues residue
ring_sum-is q n f g x l h = fill_by_all (λ k. residue q (plus (coefficient f) (coefficient g) k)) x n 0 l h

value-sum : (q n x : ℕ) (f g : List ℕ) → value n (entry (ring_sum q n f g)) x % q ≡ (value n (entry f) x + value n (entry g) x) % q
value-sum q n x f g =
    sum_same q n (monomial (entry (ring_sum q n f g)) x) (λ i. monomial (entry f) x i + monomial (entry g) x i)
    (λ i l.
    let a : ℕ = entry f i in
    let b : ℕ = entry g i in
    ap (λ z. (z * x ^ i) % q) (sum_entry q n i f g l)
    ∙ mul_same q ((a + b) % q) (a + b) (x ^ i) (x ^ i) (mod-mod (a + b) q) refl
    ∙ ap (λ z. z % q) (let e : (a + b) * x ^ i ≡ a * x ^ i + b * x ^ i = omega arith in e))
    ∙ ap (λ z. z % q) (sum-add n (monomial (entry f) x) (monomial (entry g) x))

-- transforms add entry by entry
pub sum-transform : (q psi d : ℕ) (f g : List ℕ) →
    ring_sum q (2 ^ d) (transform q psi d f) (transform q psi d g) ≡ transform q psi d (ring_sum q (2 ^ d) f g)
unfolding value_at
sum-transform q psi d f g =
    let n : ℕ = 2 ^ d in
    let a : List ℕ = transform q psi d f in
    let b : List ℕ = transform q psi d g in
    let p : List ℕ = ring_sum q n f g in
    let count : length (ring_sum q n a b) ≡ n = length-ring_sum q n a b in
    same_number_lists (ring_sum q n a b) (transform q psi d p) (count ∙ sym (length-transform q psi d p))
    (λ i h.
    let below : i < n = omega (arith, count) in
    let x : ℕ = psi ^ (2 * reversed d i + 1) in
    let u : ℕ = value n (entry f) x in
    let v : ℕ = value n (entry g) x in
    sum_entry q n i a b below
    ∙ ap (λ z. (z + entry b i) % q) (transform_at q psi d i f below)
    ∙ ap (λ z. (u % q + z) % q) (transform_at q psi d i g below)
    ∙ add_same q (u % q) u (v % q) v (mod-mod u q) (mod-mod v q)
    ∙ sym (value-sum q n x f g)
    ∙ sym (transform_at q psi d i p below))

-- ---- the same of lists that are taken back

pub inverse-sum : (q t psi : ℕ) (a b : List ℕ) → HasRoot q t psi → IsPoly q (2 ^ t) a → IsPoly q (2 ^ t) b →
    inverse_transform q psi t (ring_sum q (2 ^ t) a b) ≡ ring_sum q (2 ^ t) (inverse_transform q psi t a) (inverse_transform q psi t b)
inverse-sum q t psi a b h pa pb =
    let n : ℕ = 2 ^ t in
    let l = h.above_one in
    let f : List ℕ = inverse_transform q psi t a in
    let g : List ℕ = inverse_transform q psi t b in
    ap (λ z. inverse_transform q psi t (ring_sum q n z b)) (sym (transform-inverse_transform q t psi a h pa))
    ∙ ap (λ z. inverse_transform q psi t (ring_sum q n (transform q psi t f) z)) (sym (transform-inverse_transform q t psi b h pb))
    ∙ ap (inverse_transform q psi t) (sum-transform q psi t f g)
    ∙ inverse_transform-transform q t psi (ring_sum q n f g) h (ring_sum-poly q n f g (omega arith))

pub inverse-product : (q t psi : ℕ) (a b : List ℕ) → HasRoot q t psi → IsPoly q (2 ^ t) a → IsPoly q (2 ^ t) b →
    inverse_transform q psi t (entrywise q (2 ^ t) a b) ≡ ring_product q (2 ^ t) (inverse_transform q psi t a) (inverse_transform q psi t b)
inverse-product q t psi a b h pa pb =
    let n : ℕ = 2 ^ t in
    let l = h.above_one in
    let f : List ℕ = inverse_transform q psi t a in
    let g : List ℕ = inverse_transform q psi t b in
    ap (λ z. inverse_transform q psi t (entrywise q n z b)) (sym (transform-inverse_transform q t psi a h pa))
    ∙ ap (λ z. inverse_transform q psi t (entrywise q n (transform q psi t f) z)) (sym (transform-inverse_transform q t psi b h pb))
    ∙ ap (inverse_transform q psi t) (entrywise-transform q psi t f g l h.root)
    ∙ inverse_transform-transform q t psi (ring_product q n f g) h (ring_product-poly q n f g (omega arith))
