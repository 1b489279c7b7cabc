-- The zeros at the end of a list, one at a time.
use Rattle.std.proofs.Common.{◌≡◌, ◌≢◌, ◌∙◌, ap, sym, refl, ℕ, ◌+◌, ◌-◌, ◌<◌, ◌≤◌, List, [], ◌∷◌, ◌++◌, length, get_or, take, arith}
use Rattle.std.proofs.lemmas.List.{take_more}
use Rattle.std.proofs.lemmas.Bool.Decides.{nat_tests}
use Rattle.run_report.specs.Values.{led_by, trimmed}

trimmed_zero : (xs : List ℕ) → trimmed (xs ++ 0 ∷ []) ≡ trimmed xs
trimmed_zero [] = refl
trimmed_zero (x ∷ xs) = ap (led_by x) (trimmed_zero xs)

led_by-push : (y : ℕ) (ys : List ℕ) (x : ℕ) → led_by y (ys ++ x ∷ []) ≡ y ∷ (ys ++ x ∷ [])
led_by-push y [] x = refl
led_by-push y (z ∷ zs) x = refl

led_by-nil : (x : ℕ) → x ≢ 0 → led_by x [] ≡ x ∷ []
led_by-nil x h = grind (arith, nat_tests)

trimmed_kept : (xs : List ℕ) (x : ℕ) → x ≢ 0 → trimmed (xs ++ x ∷ []) ≡ xs ++ x ∷ []
trimmed_kept [] x h = led_by-nil x h
trimmed_kept (y ∷ ys) x h = ap (led_by y) (trimmed_kept ys x h) ∙ led_by-push y ys x

front : (xs : List ℕ) (end : ℕ) → 0 < end → end ≤ length xs → take end xs ≡ take (end - 1) xs ++ get_or xs (end - 1) 0 ∷ []
front xs end some within =
    let here : end - 1 < length xs = omega arith in
    let back : end - 1 + 1 ≡ end = omega arith in
    rw back at (take_more xs (end - 1) 0 here)

-- a zero at the end goes
pub one_less : (xs : List ℕ) (end : ℕ) → 0 < end → end ≤ length xs → get_or xs (end - 1) 0 ≡ 0 → trimmed (take (end - 1) xs) ≡ trimmed (take end xs)
one_less xs end some within zero =
    sym (trimmed_zero (take (end - 1) xs)) ∙ ap (λ x. trimmed (take (end - 1) xs ++ x ∷ [])) (sym zero) ∙ ap trimmed (sym (front xs end some within))

-- another number at the end stays
pub all_kept : (xs : List ℕ) (end : ℕ) → 0 < end → end ≤ length xs → get_or xs (end - 1) 0 ≢ 0 → trimmed (take end xs) ≡ take end xs
all_kept xs end some within other =
    ap trimmed (front xs end some within) ∙ trimmed_kept (take (end - 1) xs) (get_or xs (end - 1) 0) other ∙ sym (front xs end some within)

-- where nothing is left, nothing is kept
pub none_kept : (xs : List ℕ) (end : ℕ) → end ≡ 0 → trimmed (take end xs) ≡ take end xs
none_kept xs end none = rw none refl
