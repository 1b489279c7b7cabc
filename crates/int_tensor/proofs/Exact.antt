-- A list of small numbers is known by its residues modulo both primes, and so is a product of small factors.
use Rattle.std.proofs.Common.{◌≡◌, ℕ, ◌+◌, ◌*◌, ◌^◌, ◌<◌, ◌≤◌, List, length, get_or, map, refl, sym, ap, subst, ◌∙◌, inl, inr, arith}
use Rattle.std.specs.Prelude.{ℤ, pos, unsigned_abs}
use Rattle.std.specs.List.{range_with_len}
use Rattle.std.proofs.lemmas.Bool.{cases_lt}
use Rattle.std.proofs.lemmas.Nat.{pow_below}
use Rattle.std.proofs.lemmas.List.Elements.{All-get_or}
use Rattle.std.proofs.lemmas.List.FromFn.{fill_by_all}
use Rattle.ring_spec.specs.Ring.{wrapped, signed, residue, residues, IsPoly, IsWithin}
use Rattle.tensor_spec.specs.Rounding.{int_product}
use Rattle.ring_laws.specs.Congruence.{IsCongruent}
use Rattle.ring_laws.proofs.Congruences.{congruent_back, congruent_chain, congruent_equal, residue_congruent}
use Rattle.ring_laws.proofs.Residues.{length_residues, residues_at, residues_poly}
use Rattle.ring_laws.proofs.Sizes.{within_product}
use Rattle.int_tensor.specs.Moduli.{first_modulus, second_modulus, first_inverse, both_moduli}
use Rattle.int_tensor.specs.Factors.{AreSmall}
use Rattle.int_tensor.specs.Joined.{IsJoined, AreJoined}
use Rattle.int_tensor.proofs.Garner.{only_one}

-- a degree that is 2^d for d up to 12
pub few_coefficients : (n d : ℕ) → n ≡ 2 ^ d → d ≤ 12 → n ≤ 4096
few_coefficients n d e l = elim (cases_lt d 12) [
  | inl below ↦ let p : 2 ^ d < 2 ^ 12 = pow_below d 12 below in omega (arith, e, p)
  | inr above ↦ let o : d ≡ 12 = omega arith in let f : n ≡ 4096 = e ∙ ap (λ (x : ℕ). 2 ^ x) o in omega (arith, f)
]

-- the entries of small factors, and the coefficients of their product
factor_within : (n : ℕ) (f : List ℤ) → length f ≡ n → AreSmall f → IsWithin n 18014398509481983 (signed f)
factor_within n f len small i l =
    let e : unsigned_abs (signed f i) < 2 ^ 54 = All-get_or (λ x. unsigned_abs x < 2 ^ 54) f i (pos 0) (omega (arith, len)) small in
    omega (arith, e)

product_small : (n : ℕ) (f g : List ℤ) (k : ℕ) → n ≤ 4096 → length f ≡ n → length g ≡ n → AreSmall f → AreSmall g → k < n → 2 * unsigned_abs (wrapped n (signed f) (signed g) k) < both_moduli
product_small n f g k few lf lg sf sg l =
    let e = within_product n 18014398509481983 18014398509481983 (signed f) (signed g) (factor_within n f lf sf) (factor_within n g lg sg) k l in
    omega (arith, e, few)

-- numbers of one residue agree
same_residue : (q : ℕ) (z w : ℤ) → 0 < q → residue q z ≡ residue q w → IsCongruent q z w
same_residue q z w h e =
    congruent_chain (congruent_back (residue_congruent q z h)) (congruent_chain (congruent_equal q (pos (residue q z)) (pos (residue q w)) (ap pos e)) (residue_congruent q w h))

-- the inverse is one, by computing
inverse_is : first_modulus * first_inverse ≡ 1 + second_modulus * 4611545280938967043
inverse_is = refl

-- what is joined from the residues of a small number is that number
joined_is : (a b : ℕ) (z w : ℤ) → IsJoined a b z → a ≡ residue first_modulus w → b ≡ residue second_modulus w → 2 * unsigned_abs w < both_moduli → z ≡ w
joined_is a b z w j first second small =
    only_one first_modulus second_modulus first_inverse 4611545280938967043 z w inverse_is
    (same_residue first_modulus z w (omega arith) (j.first ∙ first)) (same_residue second_modulus z w (omega arith) (j.second ∙ second))
    j.small small

-- so a list with the residues of n small numbers is the list of them
pub joined_list : (n : ℕ) (w : ℕ → ℤ) (a b : List ℕ) (zs : List ℤ) → a ≡ residues first_modulus n w → b ≡ residues second_modulus n w → AreJoined (length a) a b zs →
    ((k : ℕ) → k < n → 2 * unsigned_abs (w k) < both_moduli) → zs ≡ map w (range_with_len 0 n)
joined_list n w a b zs ea eb all small =
    let len : length a ≡ n = ap length ea ∙ length_residues first_modulus n w in
    fill_by_all w zs n (pos 0) (all.count ∙ len)
    (λ k l.
    joined_is (get_or a k 0) (get_or b k 0) (signed zs k) (w k) (all.each k (omega (arith, len)))
    (ap (λ (x : List ℕ). get_or x k 0) ea ∙ residues_at first_modulus n w k l)
    (ap (λ (x : List ℕ). get_or x k 0) eb ∙ residues_at second_modulus n w k l)
    (small k l))

-- and one with those of a product is the product
pub joined_product : (n : ℕ) (f g : List ℤ) (a b : List ℕ) (zs : List ℤ) → n ≤ 4096 → length f ≡ n → length g ≡ n → AreSmall f → AreSmall g →
    a ≡ residues first_modulus n (wrapped n (signed f) (signed g)) → b ≡ residues second_modulus n (wrapped n (signed f) (signed g)) → AreJoined (length a) a b zs →
    zs ≡ int_product n f g
unfolding int_product
joined_product n f g a b zs few lf lg sf sg ea eb all =
    joined_list n (wrapped n (signed f) (signed g)) a b zs ea eb all (λ k l. product_small n f g k few lf lg sf sg l)

-- the residues of a product by tables whose modulus and degree are q and n
pub modulo_is : (m l q n : ℕ) (f g : List ℤ) (v w : List ℕ) → m ≡ q → l ≡ n → v ≡ w → w ≡ residues m l (wrapped l (signed f) (signed g)) → v ≡ residues q n (wrapped n (signed f) (signed g))
modulo_is m l q n f g v w em el same is =
    same ∙ is ∙ ap (λ (x : ℕ). residues x l (wrapped l (signed f) (signed g))) em ∙ ap (λ (x : ℕ). residues q x (wrapped x (signed f) (signed g))) el

-- they are a polynomial modulo q
pub modulo_poly : (q n : ℕ) (f g : List ℤ) (v : List ℕ) → 0 < q → v ≡ residues q n (wrapped n (signed f) (signed g)) → IsPoly q n v
modulo_poly q n f g v h e = subst (IsPoly q n) (sym e) (residues_poly q n (wrapped n (signed f) (signed g)) h)
