-- The residues of a product of whole numbers are the product of their residues.
use Rattle.std.proofs.Common.{◌≡◌, ℕ, ◌<◌, List, length, map, ap, ◌∙◌}
use Rattle.std.specs.Prelude.{ℤ}
use Rattle.ring_spec.specs.Ring.{wrapped, signed, residue, residues, ring_product}
use Rattle.ring_laws.proofs.Residues.{product_residues}
use Rattle.mod_ring.proofs.Fits.{residues-of-list}

pub exact_modulo : (q n : ℕ) (f g : List ℤ) (a b v : List ℕ) → v ≡ ring_product q n a b → a ≡ map (residue q) f → b ≡ map (residue q) g →
    length f ≡ n → length g ≡ n → 0 < q → v ≡ residues q n (wrapped n (signed f) (signed g))
exact_modulo q n f g a b v e ea eb lf lg h =
    e ∙ ap (λ (x : List ℕ). ring_product q n x b) (residues-of-list q n f a ea lf)
    ∙ ap (λ (x : List ℕ). ring_product q n (residues q n (signed f)) x) (residues-of-list q n g b eb lg)
    ∙ product_residues q n (signed f) (signed g) h
