-- Totals over the views, and facts about each of them.
use Rattle.std.proofs.Common.{◌≡◌, ◌≢◌, ℕ, zero, suc, ◌+◌, ◌<◌, ◌≤◌, ◌==◌, cond, List, [], ◌∷◌, ◌++◌, take, drop, set, sym, refl, ap, ◌∙◌, subst, arith, lt_of_not-le}
use Rattle.std.proofs.lemmas.Bool.Decides.{nat_tests}
use mathlib.Core.Logic.{dite}
use native.Mathlib.Decide.{dec_le, ℕ_discrete}
use mathlib.Core.Option.{some, some-injective, some-ne-none}
use lib.ListN.{get_elem?}
use Rattle.turn_lock.specs.Views.{Each}
use Rattle.turn_lock.specs.Rule.{total, total_below, one_each}

module _ {A : Type 0} where
  pub total_set : (f : A → ℕ) (l : List A) (i : ℕ) (a b : A) → get_elem? l i ≡ some a → total f (set l i b) + f a ≡ total f l + f b
  total_set f [] i a b e = absurd (some-ne-none a (sym e))
  total_set f (x ∷ xs) zero a b e = let h : f x ≡ f a = ap f (some-injective x a e) in omega arith
  total_set f (x ∷ xs) (suc i) a b e = let h = total_set f xs i a b e in omega (arith, h)

  pub total_append : (f : A → ℕ) (l m : List A) → total f (l ++ m) ≡ total f l + total f m
  total_append f [] m = omega arith
  total_append f (x ∷ xs) m = let h = total_append f xs m in omega (arith, h)

  pub total_cut : (f : A → ℕ) (l : List A) → total f (drop 1 l) + total f (take 1 l) ≡ total f l
  total_cut f [] = refl
  total_cut f (x ∷ xs) = omega arith

  pub total_has : (f : A → ℕ) (l : List A) (i : ℕ) (a : A) → get_elem? l i ≡ some a → f a ≤ total f l
  total_has f [] i a e = absurd (some-ne-none a (sym e))
  total_has f (x ∷ xs) zero a e = let h : f x ≡ f a = ap f (some-injective x a e) in omega arith
  total_has f (x ∷ xs) (suc i) a e = let h = total_has f xs i a e in omega (arith, h)

  -- where f is at most g at each item
  pub total_le : (P : A → Type 0) (f g : A → ℕ) → ((x : A) → P x → f x ≤ g x) → (l : List A) → Each P l → total f l ≤ total g l
  total_le P f g le [] all = omega arith
  total_le P f g le (x ∷ xs) all = let h = total_le P f g le xs all.1 in let k = le x all.0 in omega (arith, h, k)

  pub total_apart : (P : A → Type 0) (f g : A → ℕ) → ((x : A) → P x → f x ≤ g x) → (l : List A) (i : ℕ) (a : A) → Each P l → get_elem? l i ≡ some a → total f l + g a ≤ total g l + f a
  total_apart P f g le [] i a all e = absurd (some-ne-none a (sym e))
  total_apart P f g le (x ∷ xs) zero a all e =
      let h = total_le P f g le xs all.1 in let k : f x ≡ f a = ap f (some-injective x a e) in let k' : g x ≡ g a = ap g (some-injective x a e) in omega (arith, h)
  total_apart P f g le (x ∷ xs) (suc i) a all e = let h = total_apart P f g le xs i a all.1 e in let k = le x all.0 in omega (arith, h, k)

  pub each_set : (P : A → Type 0) (l : List A) (i : ℕ) (b : A) → Each P l → P b → Each P (set l i b)
  each_set P [] i b all p = tt
  each_set P (x ∷ xs) zero b all p = (p, all.1)
  each_set P (x ∷ xs) (suc i) b all p = (all.0, each_set P xs i b all.1 p)

  pub each_append : (P : A → Type 0) (l m : List A) → Each P l → Each P m → Each P (l ++ m)
  each_append P [] m all more = more
  each_append P (x ∷ xs) m all more = (all.0, each_append P xs m all.1 more)

  pub each_at : (P : A → Type 0) (l : List A) (i : ℕ) (a : A) → Each P l → get_elem? l i ≡ some a → P a
  each_at P [] i a all e = absurd (some-ne-none a (sym e))
  each_at P (x ∷ xs) zero a all e = subst P (some-injective x a e) all.0
  each_at P (x ∷ xs) (suc i) a all e = each_at P xs i a all.1 e

  pub each_map : (P Q : A → Type 0) → ((x : A) → P x → Q x) → (l : List A) → Each P l → Each Q l
  each_map P Q f [] all = tt
  each_map P Q f (x ∷ xs) all = (f x all.0, each_map P Q f xs all.1)

  pub each_cut : (P : A → Type 0) (l : List A) → Each P l → Each P (drop 1 l) × Each P (take 1 l)
  each_cut P [] all = (tt, tt)
  each_cut P (x ∷ xs) all = (all.1, (all.0, tt))

  pub each_zero : (f : A → ℕ) (l : List A) → total f l ≡ 0 → Each (λ x. f x ≡ 0) l
  each_zero f [] e = tt
  each_zero f (x ∷ xs) e = (omega arith, each_zero f xs (omega arith))

  pub each_both : (P Q : A → Type 0) (l : List A) → Each P l → Each Q l → Each (λ x. P x × Q x) l
  each_both P Q [] a b = tt
  each_both P Q (x ∷ xs) a b = ((a.0, b.0), each_both P Q xs a.1 b.1)

  each_within : (P Q : A → Type 0) (l : List A) → Each P l → ((x : A) → P x → ((f : A → ℕ) → f x ≤ total f l) → Q x) → Each Q l
  each_within P Q [] all go = tt
  each_within P Q (x ∷ xs) all go = (go x all.0 (λ f. omega arith), each_within P Q xs all.1 (λ y p h. go y p (λ f. let k = h f in omega (arith, k))))

  -- the item a gives way to b, and each other item x stands beside a in every total
  pub each_but : (P Q : A → Type 0) (l : List A) (i : ℕ) (a b : A) → Each P l → get_elem? l i ≡ some a → Q b
      → ((x : A) → P x → ((f : A → ℕ) → f x + f a ≤ total f l) → Q x) → Each Q (set l i b)
  each_but P Q [] i a b all e q go = tt
  each_but P Q (x ∷ xs) zero a b all e q go = (q, each_within P Q xs all.1 (λ y p h. go y p (λ f. let k = h f in let k' : f x ≡ f a = ap f (some-injective x a e) in omega (arith, k))))
  each_but P Q (x ∷ xs) (suc i) a b all e q go = (
    go x all.0 (λ f. let k = total_has f xs i a e in omega (arith, k)),
    each_but P Q xs i a b all.1 e q (λ y p h. go y p (λ f. let k = h f in omega (arith, k))),
  )

-- 1 at t alone
abbrev pub same : ℕ → ℕ → ℕ
same t n = cond (n == t) 1 0

pub below_ones : (n : ℕ) → total_below (λ _. 1) n ≡ n
below_ones zero = refl
below_ones (suc n) = let h = below_ones n in omega (arith, h)

pub below_numbers : (n : ℕ) → total_below one_each (suc n) ≡ n
below_numbers zero = refl
below_numbers (suc n) = let h = below_numbers n in omega (arith, h)

pub same_here : (t : ℕ) → same t t ≡ 1
same_here t = grind (arith, nat_tests)

pub same_else : (t n : ℕ) → n ≢ t → same t n ≡ 0
same_else t n h = grind (arith, nat_tests)

pub below_same : (t n : ℕ) → (t < n → total_below (same t) n ≡ 1) × (n ≤ t → total_below (same t) n ≡ 0)
below_same t zero = ((λ h. absurd (omega arith)), (λ _. refl))
below_same t (suc n) = let h = below_same t n in dite (ℕ_discrete n t)
    (λ e. let z : total_below (same t) n ≡ 0 = h.1 (omega arith) in let o : same t n ≡ 1 = ap (same t) e ∙ same_here t in ((λ _. omega arith), (λ l. absurd (omega arith))))
    (λ ne. let z : same t n ≡ 0 = same_else t n ne in ((λ l. let k : total_below (same t) n ≡ 1 = h.0 (omega arith) in omega arith), (λ l. let k : total_below (same t) n ≡ 0 = h.1 (omega arith) in omega arith)))

pub below_same_most : (t n : ℕ) → total_below (same t) n ≤ 1
below_same_most t n = dite (dec_le n t) (λ l. let k : total_below (same t) n ≡ 0 = (below_same t n).1 l in omega arith)
    (λ h. let k : total_below (same t) n ≡ 1 = (below_same t n).0 (lt_of_not-le h) in omega arith)

-- a number that counts below n and not below m lies between them
pub between : (t m n c : ℕ) → 1 ≤ c → c + total_below (same t) m ≡ total_below (same t) n → (m ≤ t) × (t < n)
between t m n c l e =
    let most = below_same_most t n in
    let low = below_same t m in
    let high = below_same t n in (
      dite (dec_le m t) (λ h. h) (λ h. let k : total_below (same t) m ≡ 1 = low.0 (lt_of_not-le h) in absurd (omega (arith, most))),
      dite (dec_le n t) (λ h. let k : total_below (same t) n ≡ 0 = high.1 h in absurd (omega arith)) (λ h. lt_of_not-le h),
    )
