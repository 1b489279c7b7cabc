-- Sums of f x over the x of a list.
use Rattle.std.proofs.Common.{◌≡◌, List, [], ◌∷◌, refl, sym, arith}
use Rattle.std.specs.Prelude.{ℕ, ℤ, pos, ◌+ℤ◌, ◌*ℤ◌}
use Rattle.ring_laws.specs.Congruence.{IsCongruent}
use Rattle.ring_laws.proofs.Integers.{sums, times_sum, times_zero}
use Rattle.ring_laws.proofs.Congruences.{congruent_self, congruent_sum}

abbrev pub over : {A : Type 0} → (A → ℤ) → List A → ℤ
over f [] = pos 0
over f (x ∷ xs) = f x +ℤ over f xs

pub over_same : {A : Type 0} (f g : A → ℤ) (xs : List A) → ((x : A) → f x ≡ g x) → over f xs ≡ over g xs
over_same f g [] e = refl
over_same f g (x ∷ xs) e = rw (over_same f g xs e, e x) refl

pub over_sum : {A : Type 0} (f g : A → ℤ) (xs : List A) → over (λ x. f x +ℤ g x) xs ≡ over f xs +ℤ over g xs
over_sum f g [] = refl
over_sum f g (x ∷ xs) = rw (over_sum f g xs) (omega (arith, sums))

pub over_times : {A : Type 0} (k : ℤ) (f : A → ℤ) (xs : List A) → over (λ x. k *ℤ f x) xs ≡ k *ℤ over f xs
over_times k f [] = sym (times_zero k)
over_times k f (x ∷ xs) = rw (over_times k f xs, times_sum) refl

pub over_zero : {A : Type 0} (xs : List A) → over (λ (x : A). pos 0) xs ≡ pos 0
over_zero [] = refl
over_zero (x ∷ xs) = rw (over_zero xs) refl

-- two sums change places
pub over_swap : {A B : Type 0} (f : A → B → ℤ) (xs : List A) (ys : List B) → over (λ x. over (λ y. f x y) ys) xs ≡ over (λ y. over (λ x. f x y) xs) ys
over_swap f [] ys = sym (over_zero ys)
over_swap f (x ∷ xs) ys =
    rw (over_swap f xs ys) (sym (over_sum (λ y. f x y) (λ y. over (λ x. f x y) xs) ys))

-- terms that agree modulo q have sums that do
pub over_congruent : {A : Type 0} (q : ℕ) (f g : A → ℤ) (xs : List A) → ((x : A) → IsCongruent q (f x) (g x)) → IsCongruent q (over f xs) (over g xs)
over_congruent q f g [] c = congruent_self q (pos 0)
over_congruent q f g (x ∷ xs) c = congruent_sum (c x) (over_congruent q f g xs c)
