-- The entries of one caller.
use Rattle.std.proofs.Common.{◌≡◌, ◌≢◌, ℕ, ◌+◌, ◌%◌, ◌^◌, suc, ◌==◌, false, List, [], ◌∷◌, ◌++◌, sym, refl, ◌∙◌, arith, append-nil}
use Rattle.std.proofs.lemmas.List.{append_cancel_left}
use Rattle.std.proofs.lemmas.List.Elements.{filter-append}
use Rattle.std.proofs.lemmas.Bool.Decides.{nat_tests}
use Rattle.turn_lock.specs.Views.{Each, entries_by}

pub one_further : (n : ℕ) → (n % 2 ^ 64 + 1) % 2 ^ 64 ≡ suc n % 2 ^ 64
one_further n = omega arith

test_else : (a b : ℕ) → a ≢ b → (a == b) ≡ false
test_else a b h = grind (arith, nat_tests)

module _ {E : Type 0} (number : E → ℕ) where
  pub by_append : (p : ℕ) (xs ys : List E) → entries_by number p (xs ++ ys) ≡ entries_by number p xs ++ entries_by number p ys
  by_append p xs ys = filter-append (λ e. number e == p) xs ys

  pub by_rest : (p : ℕ) (xs ys : List E) → entries_by number p (xs ++ ys) ≡ entries_by number p xs → entries_by number p ys ≡ []
  by_rest p xs ys e = append_cancel_left (entries_by number p xs) (entries_by number p ys) [] (sym (by_append p xs ys) ∙ (e ∙ sym (append-nil (entries_by number p xs))))

  pub by_none : (p q : ℕ) (xs : List E) → Each (λ e. number e ≡ p) xs → p ≢ q → entries_by number q xs ≡ []
  by_none p q [] all ne = refl
  by_none p q (x ∷ xs) all ne = let e : (number x == q) ≡ false = test_else (number x) q (λ h. ne (sym all.0 ∙ h)) in rw e (by_none p q xs all.1 ne)
