-- A list that is put together from its items, one after the other.
use Rattle.std.proofs.Common.{◌≡◌, ℕ, zero, suc, ◌+◌, ◌≤◌, List, [], ◌∷◌, ◌++◌, length, take, sym, ap, ◌∙◌, arith}
use Rattle.std.specs.Prelude.{Option, Some, None}
use Rattle.std.specs.List.{slice_get}
use Rattle.std.specs.Option.{unwrap_or}
use Rattle.std.proofs.lemmas.List.{take_more, take_all}
use Rattle.std.proofs.lemmas.Option.{slice_get_within, unwrap_or-slice_get}

-- item k comes behind those before it
pub taken_more : {A : Type 0} (xs : List A) (k : ℕ) (x : A) → slice_get xs k ≡ Some x → take (k + 1) xs ≡ take k xs ++ x ∷ []
taken_more {A = A} xs k x e =
    let is : unwrap_or (slice_get xs k) x ≡ x = ap (λ (o : Option A). unwrap_or o x) e in
    take_more xs k x (slice_get_within xs k x e)
    ∙ ap (λ (y : A). take k xs ++ y ∷ []) (sym (unwrap_or-slice_get xs k x) ∙ is)

-- where there is none they are all
pub past_end : {A : Type 0} (xs : List A) (k : ℕ) → slice_get xs k ≡ None → length xs ≤ k
past_end [] k e = omega arith
past_end (x ∷ xs) zero e = cc
past_end (x ∷ xs) (suc k) e = omega (arith, past_end xs k e)

pub taken_all : {A : Type 0} (xs : List A) (k : ℕ) → length xs ≤ k → take k xs ≡ xs
taken_all xs k h = take_all k xs h

pub ruleset item_by_item = (taken_more, past_end, taken_all)
