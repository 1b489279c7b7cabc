-- Writes to a list in order, and short lists written out.
use Rattle.std.proofs.Common.{◌≡◌, ◌≢◌, ℕ, ◌+◌, ◌<◌, ◌≤◌, List, [], ◌∷◌, length, get_or, set, inl, inr, refl, sym, ◌∙◌, subst, arith, get_or-set_same, get_or-set_other}
use Rattle.std.proofs.lemmas.Bool.{cases_eq}

-- what holds of each entry below i, and of the entry written at i, holds of each below i + 1
pub set_done : (P : ℕ → ℕ → Type 0) (xs : List ℕ) (i v : ℕ) → i < length xs → ((k : ℕ) → k < i → P k (get_or xs k 0)) → P i v →
    (k : ℕ) → k < i + 1 → P k (get_or (set xs i v) k 0)
set_done P xs i v l below here k h =
    elim (cases_eq k i) [
      | inl same ↦ subst (λ j. P j (get_or (set xs i v) j 0)) (sym same) (subst (P i) (sym (get_or-set_same xs i v 0 l)) here)
      | inr other ↦ subst (P k) (sym (get_or-set_other xs i k v 0 other)) (below k (omega arith))
    ]

-- entries from i + 1 on are as they were
pub set_rest : (xs ys : List ℕ) (i v : ℕ) → ((k : ℕ) → i ≤ k → get_or xs k 0 ≡ get_or ys k 0) →
    (k : ℕ) → i + 1 ≤ k → get_or (set xs i v) k 0 ≡ get_or ys k 0
set_rest xs ys i v rest k h =
    let other : k ≢ i = omega arith in
    get_or-set_other xs i k v 0 other ∙ rest k (omega arith)

pub two_written : (xs : List ℕ) (a b : ℕ) → length xs ≡ 2 → set (set xs 0 a) 1 b ≡ a ∷ b ∷ []
two_written [] a b e = absurd (omega (arith, e))
two_written (x ∷ []) a b e = absurd (omega (arith, e))
two_written (x ∷ (y ∷ [])) a b e = refl
two_written (x ∷ (y ∷ (z ∷ zs))) a b e = absurd (omega (arith, e))

pub two_read : (xs : List ℕ) → length xs ≡ 2 → xs ≡ get_or xs 0 0 ∷ get_or xs 1 0 ∷ []
two_read [] e = absurd (omega (arith, e))
two_read (x ∷ []) e = absurd (omega (arith, e))
two_read (x ∷ (y ∷ [])) e = refl
two_read (x ∷ (y ∷ (z ∷ zs))) e = absurd (omega (arith, e))

pub four_written : (xs : List ℕ) (a b c d : ℕ) → length xs ≡ 4 → set (set (set (set xs 0 a) 1 b) 2 c) 3 d ≡ a ∷ b ∷ c ∷ d ∷ []
four_written [] a b c d e = absurd (omega (arith, e))
four_written (x ∷ []) a b c d e = absurd (omega (arith, e))
four_written (x ∷ (y ∷ [])) a b c d e = absurd (omega (arith, e))
four_written (x ∷ (y ∷ (z ∷ []))) a b c d e = absurd (omega (arith, e))
four_written (x ∷ (y ∷ (z ∷ (u ∷ [])))) a b c d e = refl
four_written (x ∷ (y ∷ (z ∷ (u ∷ (v ∷ vs))))) a b c d e = absurd (omega (arith, e))

pub four_read : (xs : List ℕ) → length xs ≡ 4 → xs ≡ get_or xs 0 0 ∷ get_or xs 1 0 ∷ get_or xs 2 0 ∷ get_or xs 3 0 ∷ []
four_read [] e = absurd (omega (arith, e))
four_read (x ∷ []) e = absurd (omega (arith, e))
four_read (x ∷ (y ∷ [])) e = absurd (omega (arith, e))
four_read (x ∷ (y ∷ (z ∷ []))) e = absurd (omega (arith, e))
four_read (x ∷ (y ∷ (z ∷ (u ∷ [])))) e = refl
four_read (x ∷ (y ∷ (z ∷ (u ∷ (v ∷ vs))))) e = absurd (omega (arith, e))
