-- What a caller knows: the sum of a beginning of the list.
use Rattle.std.proofs.Common.{◌≡◌, ◌∙◌, ℕ, ◌+◌, ◌≤◌, List, [], ◌++◌, sum_by, sym, ap, append_assoc, append-nil, arith}
use Rattle.std.proofs.lemmas.List.Sums.{sum_by-append}
use Rattle.turn_lock.specs.Views.{BeginsWith}
use Rattle.lock_tests.specs.declared.sums.Pair.{Pair}
use Rattle.lock_tests.specs.Sums.{number_in, AddsUp, last_sum, IsSumIn}
use Rattle.lock_tests.proofs.Adding.{last_is_total}

-- a longer list
pub known_later : (ps qs : List Pair) (sum : ℕ) → BeginsWith qs ps → IsSumIn ps sum → IsSumIn qs sum
known_later ps qs sum b k = record {
  begun = k.begun;
  rest = k.rest ++ b.0;
  whole = b.1 ∙ (ap (λ l. l ++ b.0) k.whole ∙ append_assoc k.begun k.rest b.0);
  is = k.is;
}

pub at_most_all : (ps : List Pair) (sum : ℕ) → IsSumIn ps sum → sum ≤ sum_by number_in ps
at_most_all ps sum k =
    let all : sum_by number_in ps ≡ sum_by number_in k.begun + sum_by number_in k.rest = ap (sum_by number_in) k.whole ∙ sum_by-append number_in k.begun k.rest in
    omega (arith, all, k.is)

-- what is known of a legal list is at most its last sum
pub at_most_last : (ps : List Pair) (sum : ℕ) → AddsUp ps → IsSumIn ps sum → sum ≤ last_sum ps
at_most_last ps sum adds k = omega (arith, at_most_all ps sum k, last_is_total ps adds)

-- the last sum of a legal list is known
pub known_last : (ps : List Pair) (sum : ℕ) → AddsUp ps → sum ≡ last_sum ps → IsSumIn ps sum
known_last ps sum adds e = record { begun = ps; rest = []; whole = sym (append-nil ps); is = e ∙ last_is_total ps adds }

-- what a caller knows at the end is at most the sum of all numbers
pub at_most_end : (all began since later : List Pair) (sum : ℕ) → all ≡ began ++ later → BeginsWith later since → IsSumIn (began ++ since) sum → sum ≤ sum_by number_in all
at_most_end all began since later sum whole prefix known =
    let longer : all ≡ (began ++ since) ++ prefix.0 = whole ∙ (ap (λ l. began ++ l) prefix.1 ∙ sym (append_assoc began since prefix.0)) in
    at_most_all all sum (known_later (began ++ since) all sum (prefix.0, longer) known)
