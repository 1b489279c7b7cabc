-- The phases of ciphertexts and of a key's rows, from the coefficients of their parts.
use Rattle.std.proofs.Common.{ℕ, ◌<◌, List}
use Rattle.std.specs.Prelude.{ℤ}
use Rattle.ring_spec.specs.Ring.{wrapped, plus, coefficient, ring_product, IsPoly}
use Rattle.ring_spec.specs.Pairs.{Cipher}
use Rattle.bfv_spec.specs.Scheme.{phase}
use Rattle.gadget_spec.specs.Switching.{KeyRow, row_phase}
use Rattle.ring_laws.specs.Congruence.{Agree}
use Rattle.ring_laws.proofs.Congruences.{agree_self}
use Rattle.ring_laws.proofs.Residues.{sum_poly}
use Rattle.ring_laws.proofs.Rings.{sum_agrees, product_agrees}

-- a phase over the whole numbers: a + b * s
abbrev pub opened : ℕ → List ℕ → (ℕ → ℤ) → (ℕ → ℤ) → ℕ → ℤ
opened n s a b = plus a (wrapped n b (coefficient s))

pub phase_agrees : {q n : ℕ} {a b : ℕ → ℤ} (c : Cipher) (s : List ℕ) → 0 < q → Agree q n (coefficient c.c0) a → Agree q n (coefficient c.c1) b →
    Agree q n (coefficient (phase q n s c)) (opened n s a b)
unfolding phase
phase_agrees {q} {n} c s h at0 at1 =
    sum_agrees c.c0 (ring_product q n c.c1 s) h at0 (product_agrees c.c1 s h at1 (agree_self q n (coefficient s)))

pub phase_poly : (q n : ℕ) (s : List ℕ) (c : Cipher) → 0 < q → IsPoly q n (phase q n s c)
unfolding phase
phase_poly q n s c h = sum_poly q n c.c0 (ring_product q n c.c1 s) h

pub row_phase_agrees : (q n : ℕ) (s : List ℕ) (row : KeyRow) → 0 < q → Agree q n (coefficient (row_phase q n s row)) (opened n s (coefficient row.b) (coefficient row.a))
unfolding row_phase
row_phase_agrees q n s row h =
    sum_agrees row.b (ring_product q n row.a s) h (agree_self q n (coefficient row.b)) (product_agrees row.a s h (agree_self q n (coefficient row.a)) (agree_self q n (coefficient s)))
