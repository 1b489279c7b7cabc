-- What is contained in a list, after a map, a filter or a search.
use Rattle.std.proofs.Common.{◌≡◌, ◌∙◌, sym, ap, subst, refl, ℕ, zero, suc, ◌+◌, ◌<◌, ◌≤◌, Bool, true, false, cond, ◌⊎◌, inl, inr, List, [], ◌∷◌, length, map, filter, find, count_by, Contains, Some, None, ◌||◌, arith}
use Rattle.std.specs.List.{range_with_len, list_any}
use Rattle.std.proofs.lemmas.Bool.{both_ways, or_parts, cases_Bool, cases_eq}
use Rattle.std.proofs.lemmas.List.Elements.{filter_agree}
use Rattle.std.proofs.lemmas.List.Sums.{length-filter}

pub contains_nil : {X : Type 0} (x : X) → Contains [] x → ⊥
contains_nil x m = let l = m.1 in omega arith

pub contains_cases : {X : Type 0} (y : X) (ys : List X) (x : X) → Contains (y ∷ ys) x → (y ≡ x) ⊎ Contains ys x
contains_cases y ys x (zero, l, e) = inl e
contains_cases y ys x (suc k, l, e) = inr (k, omega arith, e)

pub contains_here : {X : Type 0} (x : X) (ys : List X) → Contains (x ∷ ys) x
contains_here x ys = (0, omega arith, refl)

pub contains_there : {X : Type 0} (y : X) (ys : List X) (x : X) → Contains ys x → Contains (y ∷ ys) x
contains_there y ys x (k, l, e) = (suc k, omega arith, e)

pub contains_map : {X Y : Type 0} (g : X → Y) (xs : List X) (x : X) → Contains xs x → Contains (map g xs) (g x)
contains_map g [] x m = absurd (contains_nil x m)
contains_map {X} g (y ∷ ys) x m = elim (contains_cases y ys x m) [
  | inl same ↦ subst (λ (z : X). Contains (map g (z ∷ ys)) (g x)) (sym same) (contains_here (g x) (map g ys))
  | inr later ↦ contains_there (g y) (map g ys) (g x) (contains_map g ys x later)
]

-- an element of a map, and what it comes from
pub record ComesFrom {X Y : Type 0} (g : X → Y) (xs : List X) (y : Y) : Type 0 where
  pub source : X
  pub within : Contains xs source
  pub same : g source ≡ y

pub contains_map_from : {X Y : Type 0} (g : X → Y) (xs : List X) (y : Y) → Contains (map g xs) y → ComesFrom g xs y
contains_map_from g [] y m = absurd (contains_nil y m)
contains_map_from g (x ∷ xs) y m = elim (contains_cases (g x) (map g xs) y m) [
  | inl same ↦ record { source = x; within = contains_here x xs; same = same }
  | inr later ↦ let c = contains_map_from g xs y later in record { source = c.source; within = contains_there x xs c.source c.within; same = c.same }
]

-- what a filter keeps passes the test, and what passes is kept
filter_here : {X : Type 0} (test : X → Bool) (y : X) (ys : List X) (x : X) → (Contains (filter test ys) x → (Contains ys x) × (test x ≡ true))
    → (b : Bool) → test y ≡ b → Contains (cond b (y ∷ filter test ys) (filter test ys)) x → (Contains (y ∷ ys) x) × (test x ≡ true)
filter_here test y ys x later true h m = elim (contains_cases y (filter test ys) x m) [
  | inl same ↦ (rw (← same) (contains_here y ys), rw same at h)
  | inr rest ↦ let c = later rest in (contains_there y ys x c.0, c.1)
]
filter_here test y ys x later false h m = let c = later m in (contains_there y ys x c.0, c.1)

pub contains_filter_from : {X : Type 0} (test : X → Bool) (xs : List X) (x : X) → Contains (filter test xs) x → (Contains xs x) × (test x ≡ true)
contains_filter_from test [] x m = absurd (contains_nil x m)
contains_filter_from test (y ∷ ys) x m = filter_here test y ys x (contains_filter_from test ys x) (test y) refl m

filter_keeps : {X : Type 0} (test : X → Bool) (y : X) (ys : List X) (x : X) → test x ≡ true → (Contains ys x → Contains (filter test ys) x)
    → (b : Bool) → test y ≡ b → Contains (y ∷ ys) x → Contains (cond b (y ∷ filter test ys) (filter test ys)) x
filter_keeps test y ys x passes later true h m = elim (contains_cases y ys x m) [
  | inl same ↦ rw (← same) (contains_here y (filter test ys))
  | inr rest ↦ contains_there y (filter test ys) x (later rest)
]
filter_keeps test y ys x passes later false h m = elim (contains_cases y ys x m) [
  | inl same ↦ absurd (both_ways (test x) (rw same at h) passes)
  | inr rest ↦ later rest
]

pub contains_filter : {X : Type 0} (test : X → Bool) (xs : List X) (x : X) → Contains xs x → test x ≡ true → Contains (filter test xs) x
contains_filter test [] x m passes = m
contains_filter test (y ∷ ys) x m passes = filter_keeps test y ys x passes (λ c. contains_filter test ys x c passes) (test y) refl m

-- what a search finds, and where it finds nothing
find_here : {X : Type 0} (test : X → Bool) (y : X) (ys : List X) (x : X) → (find test ys ≡ Some x → (Contains ys x) × (test x ≡ true))
    → (b : Bool) → test y ≡ b → cond b (Some y) (find test ys) ≡ Some x → (Contains (y ∷ ys) x) × (test x ≡ true)
find_here test y ys x later true h e = let same : y ≡ x = cc in (rw (← same) (contains_here y ys), rw same at h)
find_here test y ys x later false h e = let c = later e in (contains_there y ys x c.0, c.1)

pub find_some : {X : Type 0} (test : X → Bool) (xs : List X) (x : X) → find test xs ≡ Some x → (Contains xs x) × (test x ≡ true)
find_some test [] x e = cc
find_some test (y ∷ ys) x e = find_here test y ys x (find_some test ys x) (test y) refl e

find_not : {X : Type 0} (test : X → Bool) (y : X) (ys : List X) (x : X) → (find test ys ≡ None → Contains ys x → test x ≡ false)
    → (b : Bool) → test y ≡ b → cond b (Some y) (find test ys) ≡ None → Contains (y ∷ ys) x → test x ≡ false
find_not test y ys x later true h e m = cc
find_not test y ys x later false h e m = elim (contains_cases y ys x m) [
  | inl same ↦ rw same at h
  | inr rest ↦ later e rest
]

pub find_none : {X : Type 0} (test : X → Bool) (xs : List X) (x : X) → find test xs ≡ None → Contains xs x → test x ≡ false
find_none test [] x e m = absurd (contains_nil x m)
find_none test (y ∷ ys) x e m = find_not test y ys x (find_none test ys x) (test y) refl e m

-- whether any passes
pub any_false : {X : Type 0} (test : X → Bool) (xs : List X) (x : X) → list_any test xs ≡ false → Contains xs x → test x ≡ false
any_false test [] x e m = absurd (contains_nil x m)
any_false test (y ∷ ys) x e m = let both = or_parts (test y) (list_any test ys) e in elim (contains_cases y ys x m) [
  | inl same ↦ rw same at (both.0)
  | inr rest ↦ any_false test ys x both.1 rest
]

pub any_from : {X : Type 0} (test : X → Bool) (xs : List X) (x : X) → Contains xs x → test x ≡ true → list_any test xs ≡ true
any_from test xs x m passes = elim (cases_Bool (list_any test xs)) [
  | inl e ↦ e
  | inr e ↦ absurd (both_ways (test x) (any_false test xs x e m) passes)
]

-- none passes, where each fails
pub any_none : {X : Type 0} (test : X → Bool) (xs : List X) → ((x : X) → Contains xs x → test x ≡ false) → list_any test xs ≡ false
any_none test [] h = refl
any_none test (y ∷ ys) h = rw (h y (contains_here y ys)) (any_none test ys (λ x m. h x (contains_there y ys x m)))

-- one that passes is found
find_any : {X : Type 0} (test : X → Bool) (ys : List X) (b : Bool) (y : X) → ((find test ys ≡ None) → list_any test ys ≡ false) → cond b (Some y) (find test ys) ≡ None → (b || list_any test ys) ≡ false
find_any test ys true y later e = cc
find_any test ys false y later e = later e

pub none_from_find : {X : Type 0} (test : X → Bool) (xs : List X) → find test xs ≡ None → list_any test xs ≡ false
none_from_find test [] e = refl
none_from_find test (y ∷ ys) e = find_any test ys (test y) y (none_from_find test ys) e

-- none is counted
pub count_zero : {X : Type 0} (test : X → Bool) (xs : List X) (x : X) → count_by test xs ≡ 0 → Contains xs x → test x ≡ false
count_zero test xs x e m = elim (cases_Bool (test x)) [
  | inr no_test ↦ no_test
  | inl passes ↦
      let kept : Contains (filter test xs) x = contains_filter test xs x m passes in
      let l = kept.1 in
      absurd (omega (arith, length-filter test xs))
]

pub count_same : {X : Type 0} (p q : X → Bool) (xs : List X) → ((x : X) → p x ≡ q x) → count_by p xs ≡ count_by q xs
count_same p q xs h = sym (length-filter p xs) ∙ ap length (filter_agree p q h xs) ∙ length-filter q xs

-- a number of a range
pub contains_range : (a n k : ℕ) → a ≤ k → k < a + n → Contains (range_with_len a n) k
contains_range a zero k l m = absurd (omega arith)
contains_range a (suc n) k l m = elim (cases_eq a k) [
  | inl same ↦ (0, omega arith, same)
  | inr other ↦ contains_there a (range_with_len (a + 1) n) k (contains_range (a + 1) n k (omega arith) (omega arith))
]

pub range_within : (a n k : ℕ) → Contains (range_with_len a n) k → (a ≤ k) × (k < a + n)
range_within a zero k m = absurd (contains_nil k m)
range_within a (suc n) k m = elim (contains_cases a (range_with_len (a + 1) n) k m) [
  | inl same ↦ (omega arith, omega arith)
  | inr rest ↦ let c = range_within (a + 1) n k rest in (omega arith, omega arith)
]

-- one that passes
pub record Passing {X : Type 0} (test : X → Bool) (xs : List X) : Type 0 where
  pub item : X
  pub within : Contains xs item
  pub passes : test item ≡ true

passing_at : {X : Type 0} (test : X → Bool) (x : X) (xs : List X) → (list_any test xs ≡ true → Passing test xs) → (b : Bool) → test x ≡ b → (b || list_any test xs) ≡ true → Passing test (x ∷ xs)
passing_at test x xs later true h e = record { item = x; within = contains_here x xs; passes = h }
passing_at test x xs later false h e = let c = later e in record { item = c.item; within = contains_there x xs c.item c.within; passes = c.passes }

pub any_true : {X : Type 0} (test : X → Bool) (xs : List X) → list_any test xs ≡ true → Passing test xs
any_true test [] e = cc
any_true test (x ∷ xs) e = passing_at test x xs (any_true test xs) (test x) refl e
