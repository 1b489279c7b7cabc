-- Residues of whole numbers, as sums of naturals modulo q.
use Rattle.std.proofs.Common.{◌≡◌, ℕ, zero, suc, ◌+◌, ◌-◌, ◌*◌, ◌/◌, ◌%◌, ◌<◌, Bool, true, false, cond, refl, sym, ◌∙◌, ap, arith}
use Rattle.std.proofs.Math.Nat.{mod-mod, mod-eq_of_lt, div-add-mod}
use Rattle.std.proofs.lemmas.Nat.{mod_below}
use Rattle.std.specs.Prelude.{ℤ, pos, negsuc, ◌+ℤ◌, ◌*ℤ◌, neg_ℤ}
use borrow.Author.Differences.{up, down, sum_is_lem}
use Rattle.ring_spec.specs.Ring.{total, residue}
use Rattle.ring_ntt.specs.Transform.{sum_of}
use Rattle.ring_ntt.proofs.Congruence.{add_same, shift_same}

pub residue_below : (q : ℕ) (z : ℤ) → 0 < q → residue q z < q
unfolding residue
residue_below q (pos a) l = mod_below a q l
residue_below q (negsuc a) l = let b = mod_below a q l in omega (arith, b)

pub residue-mod : (q : ℕ) (z : ℤ) → 0 < q → residue q z % q ≡ residue q z
residue-mod q z l = mod-eq_of_lt (residue_below q z l)

residue_difference : (q : ℕ) (z : ℤ) → 0 < q → (residue q z + down z) % q ≡ up z % q
unfolding residue
residue_difference q (pos a) l = ap (λ y. y % q) (let h : a % q + 0 ≡ a % q = omega arith in h) ∙ mod-mod a q
residue_difference q (negsuc a) l =
    let b = mod_below a q l in
    let e = div-add-mod a q in
    shift_same q (q - 1 - a % q + suc a) 0 0 (a / q + 1) (omega (arith, b, e))

cancel_same : (q a b c : ℕ) → 0 < q → (a + c) % q ≡ (b + c) % q → a % q ≡ b % q
cancel_same q a b c l e =
    let m : ℕ = q - 1 in
    let one = ap (λ y. c * y) (let h : q ≡ m + 1 = omega arith in h) in
    shift_same q a (a + c + m * c) c 0 (omega (arith, one))
    ∙ add_same q (a + c) (b + c) (m * c) (m * c) e refl
    ∙ shift_same q (b + c + m * c) b 0 c (omega (arith, one))

pub residue-add : (q : ℕ) (x y : ℤ) → 0 < q → residue q (x +ℤ y) % q ≡ (residue q x + residue q y) % q
residue-add q x y l =
    let s = sum_is_lem x y in
    let z : ℤ = x +ℤ y in
    cancel_same q (residue q z) (residue q x + residue q y) (down z + (down x + down y)) l
    (ap (λ r. r % q) (let h : residue q z + (down z + (down x + down y)) ≡ residue q z + down z + (down x + down y) = omega arith in h)
    ∙ add_same q (residue q z + down z) (up z) (down x + down y) (down x + down y) (residue_difference q z l) refl
    ∙ ap (λ r. r % q) (let h : up z + (down x + down y) ≡ up x + up y + down z = omega (arith, s) in h)
    ∙ add_same q (up x + up y) (residue q x + down x + (residue q y + down y)) (down z) (down z)
    (sym (add_same q (residue q x + down x) (up x) (residue q y + down y) (up y) (residue_difference q x l) (residue_difference q y l))) refl
    ∙ ap (λ r. r % q) (let h : residue q x + down x + (residue q y + down y) + down z ≡ residue q x + residue q y + (down z + (down x + down y)) = omega arith in h))

zero_residue : (q : ℕ) → residue q (pos 0) % q ≡ 0 % q
unfolding residue
zero_residue q = mod-mod 0 q

pub residue-total : (q n : ℕ) (f : ℕ → ℤ) → 0 < q → residue q (total n f) % q ≡ sum_of n (λ i. residue q (f i)) % q
unfolding total sum_of
residue-total q zero f l = zero_residue q
residue-total q (suc n) f l =
    residue-add q (total n f) (f n) l
    ∙ add_same q (residue q (total n f)) (sum_of n (λ i. residue q (f i))) (residue q (f n)) (residue q (f n)) (residue-total q n f l) refl

pub residue-negative : (q a : ℕ) → 0 < q → residue q (neg_ℤ (pos a)) % q ≡ ((q - 1) * a) % q
unfolding residue
residue-negative q zero l = mod-mod 0 q ∙ ap (λ y. y % q) (let h : 0 ≡ (q - 1) * 0 = omega arith in h)
residue-negative q (suc a) l =
    let b = mod_below a q l in
    let e = div-add-mod a q in
    let g = ap (λ y. suc a * y) (let h : q ≡ q - 1 + 1 = omega arith in h) in
    shift_same q (q - 1 - a % q) ((q - 1) * suc a) (suc a) (a / q + 1) (omega (arith, b, e, g))

pub residue-product : (q : ℕ) (c : Bool) (x y z : ℕ) → 0 < q →
    residue q (cond c (pos x *ℤ pos y) (neg_ℤ (pos x *ℤ pos z))) % q ≡ cond c (x * y) ((q - 1) * (x * z)) % q
unfolding residue
residue-product q true x y z l = mod-mod (x * y) q
residue-product q false x y z l = residue-negative q (x * z) l
