-- Which row of a list of rows is which.
use Rattle.std.proofs.Common.{◌≡◌, ℕ, zero, suc, ◌+◌, ◌*◌, ◌<◌, List, [], ◌∷◌, get_or, ap, ◌∙◌, arith}
use Rattle.std.specs.List.{range_with_len, flat_map}

-- where each number gives two rows, row 2i is the first of number i, and row 2i + 1 the second
pub first_of_two : (f g : ℕ → List ℕ) (l a i : ℕ) → i < l → get_or (flat_map (λ j. f j ∷ g j ∷ []) (range_with_len a l)) (2 * i) [] ≡ f (a + i)
first_of_two f g zero a i h = absurd (omega arith)
first_of_two f g (suc l) a zero h = ap f (omega arith)
first_of_two f g (suc l) a (suc i) h =
    ap (λ (k : ℕ). get_or (f a ∷ g a ∷ flat_map (λ j. f j ∷ g j ∷ []) (range_with_len (a + 1) l)) k []) (let e : 2 * suc i ≡ suc (suc (2 * i)) = omega arith in e)
    ∙ first_of_two f g l (a + 1) i (omega arith) ∙ ap f (omega arith)

pub second_of_two : (f g : ℕ → List ℕ) (l a i : ℕ) → i < l → get_or (flat_map (λ j. f j ∷ g j ∷ []) (range_with_len a l)) (2 * i + 1) [] ≡ g (a + i)
second_of_two f g zero a i h = absurd (omega arith)
second_of_two f g (suc l) a zero h = ap g (omega arith)
second_of_two f g (suc l) a (suc i) h =
    ap (λ (k : ℕ). get_or (f a ∷ g a ∷ flat_map (λ j. f j ∷ g j ∷ []) (range_with_len (a + 1) l)) k []) (let e : 2 * suc i + 1 ≡ suc (suc (2 * i + 1)) = omega arith in e)
    ∙ second_of_two f g l (a + 1) i (omega arith) ∙ ap g (omega arith)
