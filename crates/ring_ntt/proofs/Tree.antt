-- The tree of divisions: what its nodes give depends on residues alone, and has as many entries as it should.
use Rattle.std.proofs.Common.{◌≡◌, ℕ, zero, suc, ◌+◌, ◌-◌, ◌*◌, ◌%◌, ◌^◌, ◌<◌, List, [], ◌∷◌, length, get_or, refl, ◌∙◌, ap, arith, length-append}
use Rattle.std.proofs.Math.Nat.{pow-suc}
use Rattle.ring_ntt.specs.Nodes.{folded, node}
use Rattle.ring_ntt.proofs.Congruence.{add_same, mul_same}

pub length-node : (q : ℕ) (zs : List ℕ) (d k : ℕ) (f : ℕ → ℕ) → length (node q zs d k f) ≡ 2 ^ d
unfolding node
length-node q zs zero k f = refl
length-node q zs (suc d) k f =
    let p = pow-suc 2 d in
    let left : ℕ → ℕ = folded (2 ^ d) (get_or zs k 0) f in
    let right : ℕ → ℕ = folded (2 ^ d) (q - get_or zs k 0) f in
    let a = length-node q zs d (2 * k) left in
    let b = length-node q zs d (2 * k + 1) right in
    length-append (node q zs d (2 * k) left) (node q zs d (2 * k + 1) right) ∙ (omega (arith, a, b, p))

pub folded_same : (q m w i : ℕ) (f g : ℕ → ℕ) → f i % q ≡ g i % q → f (m + i) % q ≡ g (m + i) % q → folded m w f i % q ≡ folded m w g i % q
folded_same q m w i f g a b =
    add_same q (f i) (g i) (w * f (m + i)) (w * g (m + i)) a (mul_same q w w (f (m + i)) (g (m + i)) refl b)

pub node_same : (q : ℕ) (zs : List ℕ) (d k : ℕ) (f g : ℕ → ℕ) → ((i : ℕ) → i < 2 ^ d → f i % q ≡ g i % q) → node q zs d k f ≡ node q zs d k g
unfolding node
node_same q zs zero k f g h = ap (λ z. z ∷ []) (h 0 (omega arith))
node_same q zs (suc d) k f g h =
    let p = pow-suc 2 d in
    let a = node_same q zs d (2 * k) (folded (2 ^ d) (get_or zs k 0) f) (folded (2 ^ d) (get_or zs k 0) g)
    (λ i l. folded_same q (2 ^ d) (get_or zs k 0) i f g (h i (omega arith)) (h (2 ^ d + i) (omega arith))) in
    let b = node_same q zs d (2 * k + 1) (folded (2 ^ d) (q - get_or zs k 0) f) (folded (2 ^ d) (q - get_or zs k 0) g)
    (λ i l. folded_same q (2 ^ d) (q - get_or zs k 0) i f g (h i (omega arith)) (h (2 ^ d + i) (omega arith))) in
    cc
