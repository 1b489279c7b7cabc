-- How many elements of a list pass a test.
use Rattle.std.proofs.Common.{◌≡◌, sym, subst, refl, ℕ, suc, ◌+◌, ◌<◌, ◌≤◌, Bool, true, false, not, ◌&&◌, cond, inl, inr, List, [], ◌∷◌, length, filter, get_or, Contains, sum_by, arith}
use Rattle.std.specs.List.{range_with_len, flat_map}
use Rattle.std.proofs.lemmas.Bool.{both_ways, and_parts, not-true}
use Rattle.std.proofs.lemmas.List.{length-append}
use Rattle.std.proofs.lemmas.List.Sums.{sum_by-cons}
use Rattle.session_rules.proofs.Contained.{contains_nil, contains_cases, contains_here, contains_there, contains_filter_from}

-- ---- by their names

-- what passes one test passes another, or passes it alone
abbrev alone : {X : Type 0} → (X → Bool) → (X → Bool) → X → Bool
alone a b x = a x && not (b x)

one_more : {X : Type 0} (a b : Bool) (x : X) (us vs ws : List X) → length us ≤ length vs + length ws → length (cond a (x ∷ us) us) ≤ length (cond b (x ∷ vs) vs) + length (cond (a && not b) (x ∷ ws) ws)
one_more true true x us vs ws l = omega arith
one_more true false x us vs ws l = omega arith
one_more false true x us vs ws l = omega arith
one_more false false x us vs ws l = omega arith

passing_either : {X : Type 0} (a b : X → Bool) (xs : List X) → length (filter a xs) ≤ length (filter b xs) + length (filter (alone a b) xs)
passing_either a b [] = omega arith
passing_either a b (x ∷ xs) = one_more (a x) (b x) x (filter a xs) (filter b xs) (filter (alone a b) xs) (passing_either a b xs)

none_within : {X : Type 0} (xs : List X) → ((x : X) → Contains xs x → ⊥) → length xs ≡ 0
none_within [] h = refl
none_within (x ∷ xs) h = absurd (h x (contains_here x xs))

-- an element of one of some names
pub record IsNamed {X Y : Type 0} (of : Y → X → Bool) (names : List Y) (x : X) : Type 0 where
  pub name : Y
  pub within : Contains names name
  pub is : of name x ≡ true

-- where each that passes has a name, and one at most has each name, there are no more than names
pub few_named : {X Y : Type 0} (of : Y → X → Bool) (xs : List X) (names : List Y) (test : X → Bool)
    → ((x : X) → Contains xs x → test x ≡ true → IsNamed of names x) → ((y : Y) → length (filter (of y) xs) ≤ 1) → length (filter test xs) ≤ length names
few_named of xs [] test named one =
    let none = none_within (filter test xs) (λ x m. let both = contains_filter_from test xs x m in let its = named x both.0 both.1 in contains_nil its.name its.within) in
    omega arith
few_named {X} {Y} of xs (y ∷ ys) test named one =
    let rest = few_named of xs ys (alone test (of y)) (λ x m e.
    let both = and_parts (test x) (not (of y x)) e in
    let its = named x m both.0 in
    elim (contains_cases y ys its.name its.within) [
      | inl same ↦ absurd (both_ways (of y x) (not-true (of y x) both.1) (subst (λ (z : Y). of z x ≡ true) (sym same) its.is))
      | inr later ↦ record { name = its.name; within = later; is = its.is }
    ]) one in
    let either = passing_either test (of y) xs in
    let first = one y in
    omega arith

-- ---- by their numbers

-- where the element at place k has number b + k, and all that pass have one number, one passes at most
pub one_number : {X : Type 0} (number : X → ℕ) (test : X → Bool) (xs : List X) (b : ℕ) → ((x : X) (m : Contains xs x) → number x ≡ b + m.0)
    → ((x y : X) → Contains xs x → Contains xs y → test x ≡ true → test y ≡ true → number x ≡ number y) → length (filter test xs) ≤ 1
one_number number test [] b counts same = omega arith
one_number {X} number test (x ∷ xs) b counts same =
    at (test x) refl (one_number number test xs (suc b)
    (λ y m. let e = counts y (suc m.0, omega arith, m.2) in omega arith)
    (λ y z m n. same y z (contains_there x xs y m) (contains_there x xs z n)))
  where
    at : (e : Bool) → test x ≡ e → length (filter test xs) ≤ 1 → length (cond e (x ∷ filter test xs) (filter test xs)) ≤ 1
    at false e rest = rest
    at true e rest =
        let none = none_within (filter test xs) (λ y m.
        let both = contains_filter_from test xs y m in
        let there = both.0 in
        let first : number x ≡ b + 0 = counts x (0, omega arith, refl) in
        let later = counts y (suc there.0, omega arith, there.2) in
        let one = same x y (contains_here x xs) (contains_there x xs y there) e both.1 in
        absurd (omega arith)) in
        omega arith

-- ---- in lists that are joined

-- lists, one for each element of another, and a bound on each
pub few_joined : {X Y : Type 0} (bound : X → ℕ) (list : ℕ → List Y) (a : ℕ) (xs : List X) (d : X)
    → ((k j : ℕ) → j ≡ a + k → k < length xs → length (list j) ≤ bound (get_or xs k d)) → length (flat_map list (range_with_len a (length xs))) ≤ sum_by bound xs
few_joined bound list a [] d each = omega arith
few_joined bound list a (x ∷ xs) d each =
    let here : length (list a) ≤ bound x = each 0 a (omega arith) (omega arith) in
    let rest = few_joined bound list (a + 1) xs d (λ k j e l. each (suc k) j (omega arith) (omega arith)) in
    omega (arith, length-append (list a) (flat_map list (range_with_len (a + 1) (length xs))), sum_by-cons bound x xs, here, rest)
