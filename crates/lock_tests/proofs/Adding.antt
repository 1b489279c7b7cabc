-- Lists of pairs whose sums add up.
use Rattle.std.proofs.Common.{◌≡◌, ◌∙◌, ℕ, suc, ◌+◌, ◌-◌, Bool, true, false, if◌then◌else◌, Some, List, [], ◌∷◌, ◌++◌, length, map, slice_get, sum_by, sym, ap, subst, refl, arith}
use Rattle.std.proofs.lemmas.List.{map-append}
use Rattle.std.proofs.lemmas.List.Sums.{sum_by-cons}
use Rattle.lock_tests.specs.declared.sums.Pair.{Pair}
use Rattle.lock_tests.specs.Sums.{sum_in, number_in, sums_from, AddsUp, sum_after, last_sum}

-- what is read in the last pair
found_after : (s : ℕ) (ps : List Pair) (p : Pair) → slice_get ps (length ps - 1) ≡ Some p → sum_after s ps ≡ p.sum
found_after s [] p e = cc
found_after s (q ∷ []) p e = ap sum_in (let same : q ≡ p = cc in same)
found_after s (q ∷ r ∷ ps) p e =
    let at : length (q ∷ r ∷ ps) - 1 ≡ suc (length (r ∷ ps) - 1) = omega arith in
    found_after q.sum (r ∷ ps) p (subst (λ k. slice_get (q ∷ r ∷ ps) k ≡ Some p) at e)

pub found_last : (ps : List Pair) (p : Pair) → slice_get ps (length ps - 1) ≡ Some p → p.sum ≡ last_sum ps
found_last ps p e = sym (found_after 0 ps p e)

-- one more pair
after_push : (s : ℕ) (ps : List Pair) (p : Pair) → sum_after s (ps ++ p ∷ []) ≡ p.sum
after_push s [] p = refl
after_push s (q ∷ ps) p = after_push q.sum ps p

sums_push : (s : ℕ) (ps : List Pair) (p : Pair) → sums_from s (ps ++ p ∷ []) ≡ sums_from s ps ++ (s + sum_by number_in ps + p.number) ∷ []
sums_push s [] p = ap (λ k. (k + p.number) ∷ []) (let e : s ≡ s + 0 = omega arith in e)
sums_push s (q ∷ ps) p =
    let e : s + q.number + sum_by number_in ps ≡ s + sum_by number_in (q ∷ ps) = omega (arith, sum_by-cons number_in q ps) in
    ap (λ l. (s + q.number) ∷ l) (sums_push (s + q.number) ps p ∙ ap (λ k. sums_from (s + q.number) ps ++ (k + p.number) ∷ []) e)

-- where the sums add up, the last one is that of all numbers
total_from : (s : ℕ) (ps : List Pair) → map sum_in ps ≡ sums_from s ps → sum_after s ps ≡ s + sum_by number_in ps
total_from s [] e = omega arith
total_from s (p ∷ ps) e =
    let here : p.sum ≡ s + p.number = cc in
    let rest : map sum_in ps ≡ sums_from p.sum ps = rw (← here) at (let tail : map sum_in ps ≡ sums_from (s + p.number) ps = cc in tail) in
    let all : sum_after p.sum ps ≡ p.sum + sum_by number_in ps = total_from p.sum ps rest in
    omega (arith, sum_by-cons number_in p ps)

pub last_is_total : (ps : List Pair) → AddsUp ps → last_sum ps ≡ sum_by number_in ps
last_is_total ps adds = omega (arith, total_from 0 ps adds)

-- where one more pair was put behind the list, or nothing
pub pushed : (b : Bool) (ps qs : List Pair) (p : Pair) → AddsUp ps → p.sum ≡ last_sum ps + p.number → qs ≡ (if b then ps ++ p ∷ [] else ps) → AddsUp qs
pushed false ps qs p adds sum_is e = subst AddsUp (sym e) adds
pushed true ps qs p adds sum_is e =
    let last : p.sum ≡ 0 + sum_by number_in ps + p.number = omega (arith, last_is_total ps adds) in
    let left : map sum_in (ps ++ p ∷ []) ≡ sums_from 0 ps ++ p.sum ∷ [] = map-append sum_in ps (p ∷ []) ∙ ap (λ l. l ++ p.sum ∷ []) adds in
    let right : sums_from 0 (ps ++ p ∷ []) ≡ sums_from 0 ps ++ p.sum ∷ [] = sums_push 0 ps p ∙ ap (λ k. sums_from 0 ps ++ k ∷ []) (sym last) in
    subst AddsUp (sym e) (left ∙ sym right)

pub last_pushed : (ps qs : List Pair) (p : Pair) → qs ≡ ps ++ p ∷ [] → p.sum ≡ last_sum qs
last_pushed ps qs p e = sym (ap last_sum e ∙ after_push 0 ps p)
