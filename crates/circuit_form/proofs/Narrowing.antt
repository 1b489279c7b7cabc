-- Products of plaintexts by way of the wide ring: the residue of a coefficient there tells the coefficient
-- over the whole numbers, and so its residue modulo t.
use Rattle.std.proofs.Common.{◌≡◌, ℕ, ◌-◌, ◌*◌, ◌%◌, ◌<◌, ◌≤◌, List, length, get_or, ◌∙◌, ap, arith}
use Rattle.std.specs.Prelude.{ℤ, pos, negsuc, ◌-ℤ◌, neg_ℤ, unsigned_abs, nat_lt}
use Rattle.std.proofs.lemmas.Bool.{cond-true, cond-false, lt-ltb, le-ltb}
use Rattle.std.proofs.lemmas.Int.{ints}
use Rattle.std.proofs.lemmas.List.Elements.{All-from_get_or}
use Rattle.std.proofs.Math.Nat.{mod-eq_of_lt}
use Rattle.ring_spec.specs.Ring.{residue, centre, wrapped, coefficient, IsPoly, IsWithin, ring_product}
use Rattle.ring_laws.proofs.Integers.{sums}
use Rattle.ring_laws.proofs.Congruences.{congruent_negative, residue_congruent, residue_same}
use Rattle.ring_laws.proofs.Residues.{length_residues, residues_at, residues_unique, residues_poly}
use Rattle.ring_laws.proofs.Sizes.{within_product}
use Rattle.circuit_form.specs.Products.{wide_modulus}

-- ---- residues of single coefficients

-- the residue of -x from that of x
pub residue_opposite : (t x r : ℕ) → 0 < t → r ≡ x % t → residue t (neg_ℤ (pos r)) ≡ residue t (neg_ℤ (pos x))
unfolding residue
residue_opposite t x r h e =
    ap (λ z. residue t (neg_ℤ (pos z))) e
    ∙ residue_same t (neg_ℤ (pos (x % t))) (neg_ℤ (pos x)) h (congruent_negative (residue_congruent t (pos x) h))

-- a residue below half the modulus stands for itself, and another one for what it lacks, with its sign
-- changed
pub narrow_low : (t x r : ℕ) → 2 * x < wide_modulus → r ≡ x % t → r ≡ residue t (centre wide_modulus x)
unfolding residue centre
narrow_low t x r l e = rw (cond-true (nat_lt (2 * x) wide_modulus) (pos x) (pos x -ℤ pos wide_modulus) (lt-ltb (2 * x) wide_modulus l)) e

pub narrow_high : (t x y r v : ℕ) → 0 < t → wide_modulus ≤ 2 * x → x < wide_modulus → y ≡ wide_modulus - x → r ≡ y % t → v ≡ residue t (neg_ℤ (pos r)) → v ≡ residue t (centre wide_modulus x)
unfolding centre
narrow_high t x y r v h l b d e is =
    let lacks : neg_ℤ (pos y) ≡ pos x -ℤ pos wide_modulus = omega (arith, ints, sums, d) in
    rw (cond-false (nat_lt (2 * x) wide_modulus) (pos x) (pos x -ℤ pos wide_modulus) (le-ltb (2 * x) wide_modulus l))
    (is ∙ residue_opposite t y r h e ∙ ap (residue t) lacks)

-- a whole number below half the modulus in absolute value is the centre of its residue
pub centre_of_residue : (q : ℕ) (z : ℤ) → 2 * unsigned_abs z < q → centre q (residue q z) ≡ z
unfolding centre residue
centre_of_residue q (pos a) l =
    let e : a % q ≡ a = mod-eq_of_lt (omega arith) in
    rw e (cond-true (nat_lt (2 * a) q) (pos a) (pos a -ℤ pos q) (lt-ltb (2 * a) q (omega arith)))
centre_of_residue q (negsuc a) l =
    let e : a % q ≡ a = mod-eq_of_lt (omega arith) in
    let x : ℕ = q - 1 - a in
    rw e (cond-false (nat_lt (2 * x) q) (pos x) (pos x -ℤ pos q) (le-ltb (2 * x) q (omega arith)) ∙ omega (arith, ints, sums))

-- ---- polynomials

-- a plaintext is a polynomial of the wide ring too, and within 65536
pub widened : (t n : ℕ) (f : List ℕ) → t ≤ 65537 → IsPoly t n f → IsPoly wide_modulus n f
widened t n f h p = record {
  entries = p.entries;
  below = All-from_get_or (λ x. x < wide_modulus) f 0 (λ i l. omega (arith, p.below i 0 l, h));
}

plain_within : (t n : ℕ) (f : List ℕ) → t ≤ 65537 → IsPoly t n f → IsWithin n 65536 (coefficient f)
plain_within t n f h p i l = omega (arith, ints, p.below i 0 (omega (arith, p.entries, l)), h)

-- each coefficient of the product of two plaintexts is less than half the modulus in absolute value
product_small : (t n : ℕ) (f g : List ℕ) (k : ℕ) → t ≤ 65537 → n ≤ 4096 → IsPoly t n f → IsPoly t n g → k < n → 2 * unsigned_abs (wrapped n (coefficient f) (coefficient g) k) < wide_modulus
product_small t n f g k h few pf pg l =
    let bound = within_product n 65536 65536 (coefficient f) (coefficient g) (plain_within t n f h pf) (plain_within t n g h pg) k l in
    omega (arith, bound, few)

-- the product in the wide ring, narrowed coefficient by coefficient, is that of the plaintexts
pub narrowed_product : (t n : ℕ) (f g w h : List ℕ) → t ≤ 65537 → n ≤ 4096 → IsPoly t n f → IsPoly t n g → w ≡ ring_product wide_modulus n f g → length h ≡ length w → ((k : ℕ) → k < length w → get_or h k 0 ≡ residue t (centre wide_modulus (get_or w k 0))) → h ≡ ring_product t n f g
unfolding ring_product
narrowed_product t n f g w h high few pf pg e same each =
    let a = wrapped n (coefficient f) (coefficient g) in
    let count : length w ≡ n = ap length e ∙ length_residues wide_modulus n a in
    residues_unique t n a h (same ∙ count) (λ k l.
    each k (omega (arith, count, l))
    ∙ ap (λ v. residue t (centre wide_modulus (get_or v k 0))) e
    ∙ ap (λ x. residue t (centre wide_modulus x)) (residues_at wide_modulus n a k l)
    ∙ ap (residue t) (centre_of_residue wide_modulus (a k) (product_small t n f g k high few pf pg l)))

-- a product is a polynomial
pub product_fits : (q n : ℕ) (f g h : List ℕ) → h ≡ ring_product q n f g → 0 < q → IsPoly q n h
unfolding ring_product
product_fits q n f g h e positive = rw e (residues_poly q n (wrapped n (coefficient f) (coefficient g)) positive)
